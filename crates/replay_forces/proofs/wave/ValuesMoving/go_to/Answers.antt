-- The places up to an earlier step are written.
use Rattle.std.proofs.Common.{◌≡◌, ℕ, ◌+◌, ◌-◌, ◌*◌, ◌<◌, ◌≤◌, length, arith, subst, sym, ⊎_elim}
use Rattle.std.proofs.lemmas.Bool.{cases_lt}
use Rattle.wave_proved.specs.Contents.{Contents, job}
use Rattle.replay_forces.proofs.wave.ValuesMoving.go_to.Goals as goal

pub go_to-requires-3-clause-whole : goal.go_to-requires-3-clause-whole
go_to-requires-3-clause-whole c =
    let is = c.saturating_sub-2.ensures in
    let wave = c.args.self.now.wave.now in
    let up = rows_up (c.saturating_sub-2.result) c.args.step (job wave).width (omega (arith, is)) in
    subst (λ (v : Contents). (c.saturating_sub-2.result + 1) * (job v).width ≤ length v.written)
    (sym c.args.self.now.at_earlier)
    (all_of ((c.saturating_sub-2.result + 1) * (job wave).width) (length wave.written)
    (λ k low. c.requires.has k (omega (arith, low, up))))
  where
    all_of : (n m : ℕ) → ((k : ℕ) → k < n → k < m) → n ≤ m
    all_of n m each = ⊎_elim (λ (wrong : m < n). absurd (let self = each m wrong in omega (arith, self)))
        (λ (right : n ≤ m). right) (cases_lt m n)

    rows_up : (a b w : ℕ) → a ≤ b → (a + 1) * w ≤ (b + 1) * w
    rows_up a b w less =
        let split : b ≡ a + (b - a) = omega (arith, less) in
        subst (λ n. (a + 1) * w ≤ (n + 1) * w) (sym split) (more a (b - a) w)
      where
        more : (a d w : ℕ) → (a + 1) * w ≤ (a + d + 1) * w
        more a d w = omega arith
