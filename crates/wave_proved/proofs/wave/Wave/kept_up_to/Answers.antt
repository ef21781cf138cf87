-- One more place keeps, and so do those up to the next one that was written anew.
use Rattle.std.proofs.Common.{◌≡◌, ◌≤◌, ◌<◌, ◌∙◌, true, ℕ, arith, sym, subst, ⊎_elim}
use Rattle.std.proofs.lemmas.Bool.{cases_eq, cases_lt}
use Rattle.wave_proved.specs.Contents.{job}
use Rattle.wave_proved.specs.Kept.{keeps_there}
use Rattle.wave_proved.proofs.wave.Wave.kept_up_to.Goals as goal

pub places-preserved : goal.places-preserved
places-preserved c =
    let next = c.again_up_to-place-in-places.ensures in
    let wave = c.args.self.now in
    let here = c.places.place in
    let from = c.places.invariant.from in
    let up = next.from in
    let kept : keeps_there (job wave) wave.written here ≡ true = sym c.keeps.ensures ∙ c.if-keeps.true in
    record {
      from = omega (arith, from, up);
      within = next.within;
      keep = λ place less low.
          ⊎_elim (λ (before : place < here). c.places.invariant.keep place before low)
          (λ (after : here ≤ place). ⊎_elim
          (λ (same : place ≡ here). subst (λ (n : ℕ). keeps_there (job wave) wave.written n ≡ true) (sym same) kept)
          (λ other. next.keep place less (omega (arith, after, other))) (cases_eq place here))
          (cases_lt place here);
    }

pub places-smaller : goal.places-smaller
places-smaller c =
    let from = c.again_up_to-place-in-places.ensures.from in
    let test = c.places-test.true in
    omega (arith, from, test)
