-- There is one exact waveform.
use Rattle.std.proofs.Common.{◌≡◌, ℕ, zero, suc, ◌<◌, ◌≤◌, Bool, true, false, List, [], length, refl, sym, ap, ◌∙◌, arith}
use Rattle.std.proofs.lemmas.List.{ext_get_or}
use Rattle.design_cell.specs.declared.value.Value.{Value}
use Rattle.design_cell.specs.declared.value.Value.TheVariants.{Zero, One, X, Z}
use Rattle.design_circuit.specs.World.{world_bit}
use Rattle.design_circuit.specs.declared.place.Place.{Place}
use Rattle.design_circuit.specs.declared.waveform.Mark.{Mark}
use Rattle.design_circuit.specs.declared.waveform.Mark.TheVariants.{Certain, Unknown, Undecided}
use Rattle.design_circuit.specs.Job.{Job, places_of}
use Rattle.design_circuit.specs.Fits.{Fits}
use Rattle.design_circuit.specs.Filling.{IsFilling, bit_of}
use Rattle.design_circuit.specs.Waveform.{Written, unwritten, written_at, certain, certain_by, Settles, HasPair, ExactBy, IsExact, Shows}
use Rattle.design_circuit.proofs.Rules.{AgreeBelow}
use Rattle.design_circuit.proofs.Worlds.{world_bit_local}

-- The empty filling is a filling.
pub empty_filling : (j : Job) → IsFilling j []
empty_filling j = record { places = tt; ascending = λ k within. absurd (omega arith) }

-- What the fillings settle at a place depends on the waveform before it alone.
pub settles_local : (j : Job) → Fits j → (v w : List Written) (place : ℕ) (bit : Bool) → place < places_of j → AgreeBelow (certain v) (certain w) place → Settles j v place bit → Settles j w place bit
settles_local j fits v w place bit within agree settled =
    λ filling is. world_bit_local j fits (certain w) (certain v) (bit_of j filling) (bit_of j filling) place within (λ k less. sym (agree k less)) (λ k less. refl) ∙ settled filling is

-- So does what two fillings leave open.
pub pair_local : (j : Job) → Fits j → (v w : List Written) (place : ℕ) → place < places_of j → AgreeBelow (certain v) (certain w) place → HasPair j v place → HasPair j w place
pair_local j fits v w place within agree has = record {
  pair = has.pair;
  gives = record {
    zero_filling = has.gives.zero_filling;
    one_filling = has.gives.one_filling;
    gives_zero = same has.pair.zero ∙ has.gives.gives_zero;
    gives_one = same has.pair.one ∙ has.gives.gives_one;
  };
}
  where
    same : (filling : List Place) → world_bit j (certain w) (bit_of j filling) place ≡ world_bit j (certain v) (bit_of j filling) place
    same filling = world_bit_local j fits (certain w) (certain v) (bit_of j filling) (bit_of j filling) place within (λ k less. sym (agree k less)) (λ k less. refl)

-- No place is settled on both bits.
pub settled_once : (j : Job) (w : List Written) (place : ℕ) → Settles j w place false → Settles j w place true → ⊥
settled_once j w place zeros ones =
    let gives_zero = zeros [] (empty_filling j) in
    let gives_one = ones [] (empty_filling j) in
    cc

-- No place is settled and left open.
pub settled_or_open : (j : Job) (w : List Written) (place : ℕ) (bit : Bool) → Settles j w place bit → HasPair j w place → ⊥
settled_or_open j w place bit settled has =
    let zero = settled has.pair.zero has.gives.zero_filling in
    let one = settled has.pair.one has.gives.one_filling in
    let gives_zero = has.gives.gives_zero in
    let gives_one = has.gives.gives_one in
    cc

-- two marks of a place, each exact, and the values that they stand beside
marks_same : (j : Job) (w : List Written) (place : ℕ) (m n : Mark) (x y : Value) → ExactBy j w place m x → ExactBy j w place n y → (m ≡ n) × (certain_by m x ≡ certain_by n y)
marks_same j w place Certain Certain Zero Zero exact_v exact_w = (refl, refl)
marks_same j w place Certain Certain Zero One exact_v exact_w = absurd (settled_once j w place exact_v exact_w)
marks_same j w place Certain Certain One Zero exact_v exact_w = absurd (settled_once j w place exact_w exact_v)
marks_same j w place Certain Certain One One exact_v exact_w = (refl, refl)
marks_same j w place Certain Certain Zero X exact_v exact_w = absurd exact_w
marks_same j w place Certain Certain Zero Z exact_v exact_w = absurd exact_w
marks_same j w place Certain Certain One X exact_v exact_w = absurd exact_w
marks_same j w place Certain Certain One Z exact_v exact_w = absurd exact_w
marks_same j w place Certain n X y exact_v exact_w = absurd exact_v
marks_same j w place Certain n Z y exact_v exact_w = absurd exact_v
marks_same j w place Certain Unknown Zero y exact_v exact_w = absurd (settled_or_open j w place false exact_v exact_w)
marks_same j w place Certain Unknown One y exact_v exact_w = absurd (settled_or_open j w place true exact_v exact_w)
marks_same j w place Unknown Certain x Zero exact_v exact_w = absurd (settled_or_open j w place false exact_w exact_v)
marks_same j w place Unknown Certain x One exact_v exact_w = absurd (settled_or_open j w place true exact_w exact_v)
marks_same j w place Unknown Certain x X exact_v exact_w = absurd exact_w
marks_same j w place Unknown Certain x Z exact_v exact_w = absurd exact_w
marks_same j w place Unknown Unknown x y exact_v exact_w = (refl, refl)
marks_same j w place Undecided n x y exact_v exact_w = absurd exact_v
marks_same j w place m Undecided x y exact_v exact_w = absurd exact_w

written_same : (a b : Written) → a.mark ≡ b.mark → a.value ≡ b.value → a ≡ b
written_same a b marks values =
    let first : a ≡ record { value = b.value; mark = a.mark } = ap (λ (x : Value). record { value = x; mark = a.mark }) values in
    let then : record { value = b.value; mark = a.mark } ≡ b = ap (λ (m : Mark). record { value = b.value; mark = m }) marks in
    first ∙ then

-- What is exact in one waveform is exact in any that agrees with it before the place.
pub exact_local : (j : Job) → Fits j → (v w : List Written) (place : ℕ) (mark : Mark) (value : Value) → place < places_of j → AgreeBelow (certain v) (certain w) place → ExactBy j v place mark value → ExactBy j w place mark value
exact_local j fits v w place Certain Zero within agree exact = settles_local j fits v w place false within agree exact
exact_local j fits v w place Certain One within agree exact = settles_local j fits v w place true within agree exact
exact_local j fits v w place Certain X within agree exact = exact
exact_local j fits v w place Certain Z within agree exact = exact
exact_local j fits v w place Unknown value within agree exact = pair_local j fits v w place within agree exact
exact_local j fits v w place Undecided value within agree exact = exact

-- What two waveforms have at a place are the same mark and the same certain value.
pub record SameAt (v w : List Written) (place : ℕ) : Type 0 where
  pub mark : (written_at v place).mark ≡ (written_at w place).mark
  pub certain_value : certain v place ≡ certain w place

-- Two exact waveforms have the same marks and the same certain values, whatever history each shows.
pub one_certain : (j : Job) (v w : List Written) → Fits j → length v ≡ length w → length v ≤ places_of j → IsExact j v → IsExact j w → (place : ℕ) → place < length v → SameAt v w place
unfolding certain
one_certain j v w fits long within exact_v exact_w place less = below (suc place) place (omega arith) less
  where
    here : (place : ℕ) → place < length v → AgreeBelow (certain v) (certain w) place → SameAt v w place
    here place less agree =
        let less_w : place < length w = omega arith in
        let moved = exact_local j fits v w place (written_at v place).mark (written_at v place).value (omega arith) agree (exact_v place less) in
        let both = marks_same j w place (written_at v place).mark (written_at w place).mark (written_at v place).value (written_at w place).value moved (exact_w place less_w) in
        record { mark = both.0; certain_value = both.1 }

    below : (n place : ℕ) → place < n → place < length v → SameAt v w place
    below zero place before less = absurd (omega arith)
    below (suc n) place before less = here place less (λ k earlier. (below n k (omega arith) (omega arith)).certain_value)

values_same : (m n : Mark) (x y shown : Value) → m ≡ n → certain_by m x ≡ certain_by n y → ((m ≡ Certain → ⊥) → x ≡ shown) → ((n ≡ Certain → ⊥) → y ≡ shown) → x ≡ y
values_same Certain Certain x y shown marks values shows_v shows_w = values
values_same Certain Unknown x y shown marks values shows_v shows_w = cc
values_same Certain Undecided x y shown marks values shows_v shows_w = cc
values_same Unknown Certain x y shown marks values shows_v shows_w = cc
values_same Undecided Certain x y shown marks values shows_v shows_w = cc
values_same Unknown Unknown x y shown marks values shows_v shows_w = shows_v (λ (e : Unknown ≡ Certain). cc) ∙ sym (shows_w (λ (e : Unknown ≡ Certain). cc))
values_same Unknown Undecided x y shown marks values shows_v shows_w = cc
values_same Undecided Unknown x y shown marks values shows_v shows_w = cc
values_same Undecided Undecided x y shown marks values shows_v shows_w = shows_v (λ (e : Undecided ≡ Certain). cc) ∙ sym (shows_w (λ (e : Undecided ≡ Certain). cc))

-- There is at most one exact waveform in which what a history shows stands.
pub one_exact : (j : Job) (shown : ℕ → Value) (v w : List Written) → Fits j → length v ≡ length w → length v ≤ places_of j → IsExact j v → IsExact j w → Shows shown v → Shows shown w → v ≡ w
unfolding certain
one_exact j shown v w fits long within exact_v exact_w shows_v shows_w = ext_get_or unwritten v w long same
  where
    same : (place : ℕ) → place < length v → written_at v place ≡ written_at w place
    same place less =
        let both = one_certain j v w fits long within exact_v exact_w place less in
        written_same (written_at v place) (written_at w place) both.mark (values_same (written_at v place).mark (written_at w place).mark (written_at v place).value (written_at w place).value (shown place) both.mark both.certain_value (shows_v.uncertain place less) (shows_w.uncertain place (omega arith)))
