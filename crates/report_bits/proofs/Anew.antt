-- Ends behind the places that a wave wrote anew at a step.
use Rattle.std.proofs.Common.{◌≡◌, ℕ, ◌+◌, ◌-◌, ◌<◌, ◌≤◌, ◌==◌, false, List, length, set, refl, sym, ap, ◌∙◌, arith, subst, ⊎_elim, inl, inr}
use Rattle.std.specs.Prelude.{nat_lt}
use Rattle.std.proofs.lemmas.Bool.{cases_eq, cases_lt, le-ltb, lt-ltb, ne_eqb}
use Rattle.design_circuit.specs.Job.{Job}
use Rattle.report_bits.specs.Ends.{AreBrought, IsWrittenIn, end_in, nth_end}
use Rattle.report_bits.specs.declared.ends.End.{End}
use Rattle.report_bits.proofs.Ending.{brought_put, put_here, written_kept}
use Rattle.wave_proved.specs.Contents.{Contents, job}
use Rattle.wave_proved.specs.Row.{AreAnewAt, anew_behind, anew_next, anew_position}
use Rattle.wave_bytes.specs.declared.anew.Anew.{Anew}

module _ (j : Job) (step : ℕ) (places : List Anew) where
  -- Behind one place more is behind its position.
  pub behind_more : (i : ℕ) → anew_behind j step places (i + 1) ≡ anew_position j step places i + 1
  behind_more i =
      let some : (i + 1 == 0) ≡ false = ne_eqb (i + 1) 0 (λ same. omega (arith, same)) in
      let back : i + 1 - 1 ≡ i = omega arith in
      rw (some, back) refl

  pub next_place : (i : ℕ) → i < length places → anew_next j step places i ≡ anew_position j step places i
  next_place i less = rw (lt-ltb i (length places) less) refl

  pub next_end : (i : ℕ) → length places ≤ i → anew_next j step places i ≡ j.width
  next_end i past =
      let none : nat_lt i (length places) ≡ false = le-ltb i (length places) past in
      rw none refl

module _ (c : Contents) (step : ℕ) (places : List Anew) (are : AreAnewAt (job c) c.written step places) where
  -- Each end behind the first so many is the step's, or at its place stands what stood there.
  abbrev pub AreWrittenTo : ℕ → List End → Type 0
  AreWrittenTo n ends = (p : ℕ) → p < anew_behind (job c) step places n → IsWrittenIn c step ends p

  pub anew_put : (ends new : List End) (n position : ℕ) → n < length places
      → position ≡ anew_position (job c) step places n → length ends ≡ length c.design.nets
      → new ≡ set ends position (end_in c step position) → AreWrittenTo n ends → AreWrittenTo (n + 1) new
  anew_put ends new n position less at long is before p early =
      let low = are.inside n less in
      let within : position < length ends = omega (arith, low, at, long) in
      let brought : AreBrought c step ends new =
      subst (AreBrought c step ends) (sym is) (brought_put c step ends position within) in
      let more = behind_more (job c) step places n in
      let next = next_place (job c) step places n less in
      ⊎_elim (λ same. inl (subst (λ l. nth_end l p ≡ end_in c step p) (sym is)
      (ap (nth_end (set ends position (end_in c step position))) same ∙ put_here c step ends position within
      ∙ ap (end_in c step) (sym same))))
      (λ differ.
      ⊎_elim (λ first. written_kept c step ends new p (omega (arith, early, more, low)) brought (before p first))
      (λ late. inr (are.same n (omega (arith, less)) p late (omega (arith, early, more, differ, at, next))))
      (cases_lt p (anew_behind (job c) step places n)))
      (cases_eq p position)

  -- So it is with all of them.
  pub anew_all : (ends : List End) → AreWrittenTo (length places) ends → (p : ℕ) → p < length c.design.nets
      → IsWrittenIn c step ends p
  anew_all ends before p low =
      let end = next_end (job c) step places (length places) (omega arith) in
      ⊎_elim (λ first. before p first)
      (λ late. inr (are.same (length places) (omega arith) p late (omega (arith, low, end))))
      (cases_lt p (anew_behind (job c) step places (length places)))
