-- A place that keeps has the literal of its net's place a step before.
use Rattle.std.proofs.Common.{◌≡◌, ℕ, ◌-◌, ◌%◌, ◌<◌, ◌≤◌, ◌==◌, ◌||◌, Bool, true, false, not, List, length}
use Rattle.std.proofs.Common.{inl, inr, refl, sym, ap, ◌∙◌, subst, arith, ⊎_elim}
use Rattle.std.proofs.lemmas.Bool.{and_parts, cases_lt, eqb-true, or_cases}
use Rattle.design_cell.specs.declared.value.Value.{Value}
use Rattle.design_cell.specs.declared.value.Value.TheVariants.{Zero, One, X, Z}
use Rattle.design_cell.specs.Value.{bit_value, is_unknown}
use Rattle.design_circuit.specs.Fits.{Fits}
use Rattle.design_circuit.specs.Job.{Job, at, net_of, places_of, step_of}
use Rattle.design_circuit.specs.Waveform.{certain}
use Rattle.design_circuit.proofs.Numbers.{number_of_place_at}
use Rattle.design_circuit.proofs.Rules.{spot}
use Rattle.law_model.specs.Class.{are_equal, before, class_of, is_carried_on}
use Rattle.law_model.specs.declared.class.ClassByNumber.{ClassByNumber}
use Rattle.law_model.specs.declared.class.ClassByNumber.TheVariants.{Carried, Free, Line, Local}
use Rattle.wave_class.proofs.StepBefore.{before_later, first_step}
use Rattle.wave_proved.specs.Contents.{Contents, IsWave, job}
use Rattle.wave_proved.specs.Kept.{keeps_there}
use Rattle.law_waveforms.proofs.GivenWorlds.{given_certain}
use Rattle.decide_lane_nodes.specs.Given.{lane_given}
use Rattle.decide_lane_nodes.specs.InWave.{IsLiteralIn}
use Rattle.decide_lane_nodes.specs.Literal.{LiteralView}
use Rattle.decide_lane_nodes.specs.Nodes.{NodeView}
use Rattle.decide_lane_nodes.proofs.LiteralBits.{carried_literal, unknown_not, written_within}

-- Values that are equal are one bit.
record AreOneBit (x y : Value) : Type 0 where
  bit : Bool
  first : x ≡ bit_value bit
  second : y ≡ bit_value bit

one_bit : (x y : Value) → are_equal x y ≡ true → AreOneBit x y
one_bit Zero Zero e = record { bit = false; first = refl; second = refl }
one_bit One One e = record { bit = true; first = refl; second = refl }
one_bit Zero One e = cc
one_bit Zero X e = cc
one_bit Zero Z e = cc
one_bit One Zero e = cc
one_bit One X e = cc
one_bit One Z e = cc
one_bit X y e = cc
one_bit Z y e = cc

carried_is : (class : ClassByNumber) (from : ℕ) → is_carried_on class from ≡ true → class ≡ Carried from false
carried_is (Local bit) from e = cc
carried_is Free from e = cc
carried_is Line from e = cc
carried_is (Carried k false) from e = ap (λ n. Carried n false) (eqb-true k from (and_parts (k == from) true e).0)
carried_is (Carried k true) from e = (let parts = and_parts (k == from) false e in cc)

-- A place at a later step stands a width at least behind the first.
pub kept_back : (j : Job) → Fits j → (place : ℕ) → place < places_of j → not (step_of j place == 0) ≡ true
    → j.width ≤ place
kept_back j fits place within later =
    let s = spot j fits place within in
    elim (cases_lt place j.width) as (λ _. j.width ≤ place) [
      | inl less ↦ absurd (never (step_of j place) (first_step j.width (step_of j place) (place % j.width) place s.whole less)
          later)
      | inr more ↦ more
    ]
  where
    never : (step : ℕ) → step ≡ 0 → not (step == 0) ≡ true → ⊥
    never step is later = (let no : not (0 == 0) ≡ true = subst (λ n. not (n == 0) ≡ true) is later in cc)

-- Where both are certain with one bit.
kept_certain : (c : Contents) (nodes : List NodeView) (literal : LiteralView) (place from : ℕ) → IsWave c
    → place < length c.written → from < length c.written
    → are_equal (certain c.written place) (certain c.written from) ≡ true → IsLiteralIn c nodes literal from
    → IsLiteralIn c nodes literal place
kept_certain c nodes literal place from wave less from_less same holds =
    let one = one_bit (certain c.written place) (certain c.written from) same in
    record {
      within = holds.within;
      bits = λ lane small.
          holds.bits lane small
          ∙ given_certain (job c) c.limits wave.fits.fits_job _ c.written c.lines wave.holds.sound from one.bit from_less
          one.second (lane_given (job c) lane)
          ∙ sym (given_certain (job c) c.limits wave.fits.fits_job _ c.written c.lines wave.holds.sound place one.bit less
          one.first (lane_given (job c) lane));
      some = λ uncertain. unknown_not one.bit (sym (ap is_unknown one.first) ∙ uncertain);
      root = λ uncertain. unknown_not one.bit (sym (ap is_unknown one.first) ∙ uncertain);
      sources = λ uncertain. unknown_not one.bit (sym (ap is_unknown one.first) ∙ uncertain);
    }

-- So it stands a width behind that place, whose literal is its own.
pub record IsKeptFrom (c : Contents) (nodes : List NodeView) (place : ℕ) : Type 0 where
  pub back : (job c).width ≤ place
  pub some : 0 < (job c).width
  pub literal : (literal : LiteralView) → IsLiteralIn c nodes literal (place - (job c).width)
      → IsLiteralIn c nodes literal place

pub kept_literal : (c : Contents) (nodes : List NodeView) (place : ℕ) → IsWave c → place < length c.written
    → keeps_there (job c) c.written place ≡ true → IsKeptFrom c nodes place
kept_literal c nodes place wave less keeps = record {
  back = back;
  some = omega (arith, low);
  literal = λ literal holds.
      (let there : IsLiteralIn c nodes literal (before j place) = subst (IsLiteralIn c nodes literal) before_is holds in
      ⊎_elim (λ same. kept_certain c nodes literal place (before j place) wave less earlier same there)
      (λ on. carried_literal c nodes literal place (before j place) false wave less (carried_is _ _ on) there)
      (or_cases _ _ here));
}
  where
    j : Job
    j = job c

    known : ℕ → Value
    known = certain c.written

    fits : Fits j
    fits = wave.fits.fits_job

    within : place < places_of j
    within = written_within c place wave less

    low : place % j.width < j.width
    low = (spot j fits place within).position

    keeps_at : ℕ → Bool
    keeps_at k = are_equal (known k) (known (before j place)) || is_carried_on (class_of j known k) (before j place)

    parts : (not (step_of j place == 0) ≡ true) × (keeps_at (at j (step_of j place) (net_of j place)) ≡ true)
    parts = and_parts (not (step_of j place == 0)) (keeps_at (at j (step_of j place) (net_of j place))) keeps

    back : j.width ≤ place
    back = kept_back j fits place within parts.0

    before_is : place - j.width ≡ before j place
    before_is = before_later j fits place within back

    earlier : before j place < length c.written
    earlier = subst (λ k. k < length c.written) before_is (omega (arith, less, back))

    here : keeps_at place ≡ true
    here = subst (λ k. keeps_at k ≡ true) (number_of_place_at j place fits.ordering fits.all within) parts.1
