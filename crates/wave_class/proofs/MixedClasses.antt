-- Values of two kinds, and places that never read their filling.
use Rattle.std.proofs.Common.{◌≡◌, ℕ, ◌<◌, ◌==◌, ◌&&◌, ◌||◌, Bool, true, false, List, not, refl, ap, ◌∙◌, inl, inr, ◌⊎◌}
use Rattle.std.proofs.Common.{⊎_elim}
use Rattle.std.proofs.lemmas.Bool.{ne_eqb}
use Rattle.design_cell.specs.declared.value.Value.{Value}
use Rattle.design_cell.specs.declared.value.Value.TheVariants.{Zero, One, X, Z}
use Rattle.design_cell.specs.Value.{IsKnown, is_unknown}
use Rattle.design_circuit.specs.declared.design.Driver.TheVariants.{Cell}
use Rattle.design_circuit.specs.declared.design.Pin.{Pin}
use Rattle.design_circuit.specs.declared.design.Table.{Table}
use Rattle.design_circuit.specs.declared.design.Table.TheVariants.{Gate, Udp}
use Rattle.design_circuit.specs.Fits.{Fits, chooses_of}
use Rattle.design_circuit.specs.Job.{Job, net_of, places_of, step_of}
use Rattle.design_circuit.specs.Rule.{rule}
use Rattle.design_circuit.proofs.Worlds.{rule_known}
use Rattle.law_model.specs.Assignment.{assigned}
use Rattle.law_model.specs.Class.{is_bit}
use Rattle.law_model.proofs.Assignments.{passes_every}
use Rattle.wave_class.specs.Keeps.{IsMixed, cell_chooses}
use Rattle.wave_class.specs.Test.{ReadsOnly, differ, passes, test_of, value_by_number}
use Rattle.wave_class.specs.declared.test.Test.{Test}
use Rattle.wave_class.specs.declared.test.Test.TheVariants.{Bit, Unknown, Known}
use Rattle.wave_class.proofs.PassingTests.{number_fails}

one_fails : (a b : Bool) → a && b ≡ false → (a ≡ false) ⊎ (b ≡ false)
one_fails false b h = inl refl
one_fails true b h = inr h

none_hold : (a b c : Bool) → not (a || b || c) ≡ true → (a ≡ false) × (b ≡ false) × (c ≡ false)
none_hold false false false h = (refl, refl, refl)
none_hold false false true h = cc
none_hold false true c h = cc
none_hold true b c h = cc

-- A test that fails for one of two numbers doesn't pass for every assignment.
either_fails : (j : Job) (c : ℕ → Value) (place : ℕ) (test : Test) → ReadsOnly j c place test
    → (us : List ℕ) (m n : ℕ) (p : Value → Bool)
    → ((bits : ℕ → Bool) → test_of j c place test bits ≡ p (rule j c bits place))
    → p (value_by_number j c place us m) && p (value_by_number j c place us n) ≡ false
    → passes j c place test ≡ false
either_fails j c place test reads us m n p tests both =
    ⊎_elim (λ (at : p (value_by_number j c place us m) ≡ false). number_fails j c place test reads us m (tests _ ∙ at))
    (λ (at : p (value_by_number j c place us n) ≡ false). number_fails j c place test reads us n (tests _ ∙ at))
    (one_fails (p (value_by_number j c place us m)) (p (value_by_number j c place us n)) both)

-- So where two values are of two kinds, the place is neither local nor free.
pub mixed_is : (j : Job) (c : ℕ → Value) (place : ℕ) (us : List ℕ) (m n : ℕ)
    → differ (value_by_number j c place us m) (value_by_number j c place us n) ≡ true → IsMixed j c place
mixed_is j c place us m n differs = record {
  not_zero = either_fails j c place (Bit false) tt us m n (λ v. is_bit v false) (λ bits. refl) parts.0;
  not_one = either_fails j c place (Bit true) tt us m n (λ v. is_bit v true) (λ bits. refl) parts.1;
  not_free = either_fails j c place Unknown tt us m n is_unknown (λ bits. refl) parts.2;
}
  where
    x : Value
    x = value_by_number j c place us m

    y : Value
    y = value_by_number j c place us n

    parts : (is_bit x false && is_bit y false ≡ false) × (is_bit x true && is_bit y true ≡ false)
        × (is_unknown x && is_unknown y ≡ false)
    parts = none_hold (is_bit x false && is_bit y false) (is_bit x true && is_bit y true) (is_unknown x && is_unknown y)
        differs

known_is : (v : Value) → IsKnown v → not (is_unknown v) ≡ true
known_is Zero known = refl
known_is One known = refl
known_is X known = absurd known
known_is Z known = absurd known

-- A cell's place that doesn't read its filling gives x for no assignment.
chooses_none : (j : Job) (step net : ℕ) (table : Table) (pins : List Pin) → cell_chooses table pins ≡ false
    → chooses_of j step net (Cell table pins) ≡ false
chooses_none j step net (Gate gate) pins none = none
chooses_none j step net (Udp number) pins none = cc

pub never_unknown : (j : Job) → Fits j → (c : ℕ → Value) (place : ℕ) (table : Table) (pins : List Pin)
    → place < places_of j → j.driver (net_of j place) ≡ Cell table pins → cell_chooses table pins ≡ false
    → passes j c place Known ≡ true
never_unknown j fits c place table pins within driver none =
    passes_every j c place (test_of j c place Known)
    (λ bits. known_is (rule j c (assigned c bits) place) (rule_known j c (assigned c bits) place fits within
    (ap (chooses_of j (step_of j place) (net_of j place)) driver
    ∙ chooses_none j (step_of j place) (net_of j place) table pins none)))

pub cell_holds : (step : ℕ) (keeps known : Bool) → (step ≡ 0 → ⊥) → keeps ≡ true → known ≡ true
    → true ≡ not (step == 0) && keeps && known
cell_holds step keeps known later is_kept is_known = rw (ne_eqb step 0 later, is_kept, is_known) refl
