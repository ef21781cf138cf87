-- What is marked from one place that was written anew to the next.
use Rattle.std.proofs.Common.{◌≡◌, ℕ, zero, suc, ◌+◌, ◌-◌, ◌<◌, ◌≤◌, ◌==◌, false, List, length, sym, ap, ◌∙◌, arith, subst, refl}
use Rattle.std.specs.Prelude.{nat_lt}
use Rattle.std.proofs.lemmas.Bool.{le-ltb, lt-ltb, ne_eqb}
use Rattle.design_circuit.specs.Fits.{Fits}
use Rattle.design_circuit.specs.Job.{Job}
use Rattle.design_cell.specs.declared.value.Value.{Value}
use Rattle.replay_forces.specs.Still.{AreMarkedTo, AreMoves, AreStillFrom}
use Rattle.replay_forces.proofs.Moving.{AreNetsOf, marked_to}
use Rattle.wave_proved.specs.Row.{anew_behind, anew_next, anew_position}
use Rattle.wave_bytes.specs.declared.anew.Anew.{Anew}

module _ (j : Job) (step : ℕ) (moves : List Anew) where
  -- Behind one place more is behind its position.
  behind_more : (i : ℕ) → anew_behind j step moves (i + 1) ≡ anew_position j step moves i + 1
  behind_more i =
      let some : (i + 1 == 0) ≡ false = ne_eqb (i + 1) 0 (λ same. omega (arith, same)) in
      let back : i + 1 - 1 ≡ i = omega arith in
      rw (some, back) refl

  next_place : (i : ℕ) → i < length moves → anew_next j step moves i ≡ anew_position j step moves i
  next_place i less = rw (lt-ltb i (length moves) less) refl

  next_end : (i : ℕ) → length moves ≤ i → anew_next j step moves i ≡ j.width
  next_end i past =
      let none : nat_lt i (length moves) ≡ false = le-ltb i (length moves) past in
      rw none refl

  behind_within : (values : ℕ → Value) → AreMoves j values step moves → (i : ℕ) → i ≤ length moves
      → anew_behind j step moves i ≤ j.width
  behind_within values are zero less = omega arith
  behind_within values are (suc i) less =
      let e : suc i ≡ i + 1 = omega arith in
      let low = are.inside i (omega (arith, less)) in
      let more = ap (anew_behind j step moves) e ∙ behind_more i in
      omega (arith, low, more)

  module _ (fits : Fits j) (values : ℕ → Value) (nets_of : ℕ → List ℕ) (nets : AreNetsOf j nets_of) (later : 0 < step)
      (are : AreMoves j values step moves) where
    -- Up to the next place all is still.
    pub moved_to : (i : ℕ) (due : List ℕ) → i < length moves
        → AreMarkedTo j values nets_of step (anew_behind j step moves i) due
        → AreMarkedTo j values nets_of step (anew_position j step moves i) due
    moved_to i due less marked =
        let low = are.inside i less in
        let still = subst (λ (n : ℕ). AreStillFrom values j.width step (anew_behind j step moves i) n)
        (next_place i less) (are.still i (omega (arith, less))) in
        marked_to j fits values nets_of step (anew_behind j step moves i) (anew_position j step moves i) due nets later
        (are.rising i less) (omega (arith, low)) still marked

    -- So it is behind the last one.
    pub moved_last : (i : ℕ) (due : List ℕ) → i ≡ length moves
        → AreMarkedTo j values nets_of step (anew_behind j step moves i) due
        → AreMarkedTo j values nets_of step j.width due
    moved_last i due all marked =
        let still = subst (λ (n : ℕ). AreStillFrom values j.width step (anew_behind j step moves i) n)
        (next_end i (omega (arith, all))) (are.still i (omega (arith, all))) in
        marked_to j fits values nets_of step (anew_behind j step moves i) j.width due nets later
        (behind_within values are i (omega (arith, all))) (omega arith) still marked

    -- Behind a place is behind its position.
    pub moved_more : (i : ℕ) (due : List ℕ) → AreMarkedTo j values nets_of step (anew_position j step moves i + 1) due
        → AreMarkedTo j values nets_of step (anew_behind j step moves (i + 1)) due
    moved_more i due marked =
        subst (λ (n : ℕ). AreMarkedTo j values nets_of step n due) (sym (behind_more i)) marked
