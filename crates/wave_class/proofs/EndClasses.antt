-- What the first and the last choice of bits say of the class of a place.
use Rattle.std.proofs.Common.{◌≡◌, ℕ, ◌+◌, ◌-◌, ◌^◌, ◌<◌, ◌==◌, ◌&&◌, Bool, true, false, None, Some, List, [], ◌∷◌}
use Rattle.std.proofs.Common.{length, not, refl, sym, ap, ◌∙◌, arith, subst, if◌then◌else◌, inl, inr, ◌⊎◌, ⊎_elim}
use Rattle.std.specs.Prelude.{Contains}
use Rattle.std.specs.List.{AllByRecursion}
use Rattle.std.proofs.Math.Nat.{pow-suc}
use Rattle.std.proofs.lemmas.Bool.{and_from}
use Rattle.design_cell.specs.declared.value.Value.{Value}
use Rattle.design_cell.specs.declared.value.Value.TheVariants.{Zero, One, X, Z}
use Rattle.design_cell.specs.Value.{is_unknown}
use Rattle.design_circuit.specs.Fits.{Fits}
use Rattle.design_circuit.specs.Job.{Job, places_of}
use Rattle.design_circuit.specs.Rule.{arguments}
use Rattle.design_circuit.specs.World.{decided}
use Rattle.design_circuit.proofs.Rules.{arguments_below}
use Rattle.law_model.specs.Class.{carried_or_line, flipped, is_bit, is_carrier}
use Rattle.law_model.specs.Mask.{mask_of, masked}
use Rattle.law_model.specs.Places.{among}
use Rattle.law_model.specs.declared.class.ClassByNumber.TheVariants.{Line}
use Rattle.law_model.proofs.AssignmentNumbers.{masked_agrees}
use Rattle.law_model.proofs.Classes.{all_at}
use Rattle.law_model.proofs.PlacesWhere.{all_among, among_all, among_contains, contains_among, picked_in}
use Rattle.wave_class.specs.Arguments.{is_uncertain, uncertain_places}
use Rattle.wave_class.specs.Ends.{AreEnds, copied_or_line, inverted_by, test_at}
use Rattle.wave_class.specs.declared.ends.Ends.{Ends}
use Rattle.wave_class.specs.Facts.{plain_class}
use Rattle.wave_class.specs.Keeps.{IsMixed, class_here, copy_or_line, later_class}
use Rattle.wave_class.specs.Test.{differ, passes, value_by_number}
use Rattle.wave_class.specs.declared.test.Test.TheVariants.{Bit, Unknown, Copies}
use Rattle.wave_class.proofs.MixedClasses.{mixed_is}
use Rattle.wave_class.proofs.PassingTests.{number_fails}

-- A test of the value alone fails for every assignment where it fails for one choice.
bit_fails : (j : Job) (c : ℕ → Value) (place : ℕ) (us : List ℕ) (m : ℕ) (v : Value) (bit : Bool)
    → v ≡ value_by_number j c place us m → is_bit v bit ≡ false → passes j c place (Bit bit) ≡ false
bit_fails j c place us m v bit v_is fails =
    number_fails j c place (Bit bit) tt us m (ap (λ w. is_bit w bit) (sym v_is) ∙ fails)

unknown_fails : (j : Job) (c : ℕ → Value) (place : ℕ) (us : List ℕ) (m : ℕ) (v : Value)
    → v ≡ value_by_number j c place us m → is_unknown v ≡ false → passes j c place Unknown ≡ false
unknown_fails j c place us m v v_is fails =
    number_fails j c place Unknown tt us m (ap is_unknown (sym v_is) ∙ fails)

-- The test at the first value is the only one that can pass. Where it does the place is local or free.
pub plain_by_end : (j : Job) (c : ℕ → Value) (place : ℕ) (us : List ℕ) (v : Value)
    → v ≡ value_by_number j c place us 0 → passes j c place (test_at v) ≡ true → plain_class v ≡ class_here j c place
plain_by_end j c place us Zero v_is all = rw all refl
plain_by_end j c place us One v_is all = rw (bit_fails j c place us 0 One false v_is refl, all) refl
plain_by_end j c place us X v_is all =
    rw (bit_fails j c place us 0 X false v_is refl, bit_fails j c place us 0 X true v_is refl, all) refl
plain_by_end j c place us Z v_is all =
    rw (bit_fails j c place us 0 Z false v_is refl, bit_fails j c place us 0 Z true v_is refl, all) refl

-- And where it doesn't, it is neither.
pub mixed_by_end : (j : Job) (c : ℕ → Value) (place : ℕ) (us : List ℕ) (v : Value)
    → v ≡ value_by_number j c place us 0 → passes j c place (test_at v) ≡ false → IsMixed j c place
mixed_by_end j c place us Zero v_is none = record {
  not_zero = none;
  not_one = bit_fails j c place us 0 Zero true v_is refl;
  not_free = unknown_fails j c place us 0 Zero v_is refl;
}
mixed_by_end j c place us One v_is none = record {
  not_zero = bit_fails j c place us 0 One false v_is refl;
  not_one = none;
  not_free = unknown_fails j c place us 0 One v_is refl;
}
mixed_by_end j c place us X v_is none = record {
  not_zero = bit_fails j c place us 0 X false v_is refl;
  not_one = bit_fails j c place us 0 X true v_is refl;
  not_free = none;
}
mixed_by_end j c place us Z v_is none = record {
  not_zero = bit_fails j c place us 0 Z false v_is refl;
  not_one = bit_fails j c place us 0 Z true v_is refl;
  not_free = none;
}

pub mixed_by_ends : (j : Job) (c : ℕ → Value) (place : ℕ) (us : List ℕ) (ends : Ends) → AreEnds j c place us ends
    → differ ends.first ends.last ≡ true → IsMixed j c place
mixed_by_ends j c place us ends are differs = mixed_is j c place us 0 (2 ^ length us - 1)
    (ap (λ v. differ v (value_by_number j c place us (2 ^ length us - 1))) (sym are.first)
    ∙ ap (λ v. differ ends.first v) (sym are.last) ∙ differs)

-- A place that is neither has a later class.
pub later_is : (j : Job) (c : ℕ → Value) (place : ℕ) → IsMixed j c place → later_class j c place ≡ class_here j c place
later_is j c place mixed = rw (mixed.not_zero, mixed.not_one, mixed.not_free) refl

-- The first choice gives each place 0.
none_chosen : (us : List ℕ) (k : ℕ) → masked us 0 k ≡ false
none_chosen [] k = refl
none_chosen (first ∷ us) k = either (k == first) (none_chosen us k)
  where
    either : (b : Bool) → masked us 0 k ≡ false → (if b then false else masked us 0 k) ≡ false
    either true rest = refl
    either false rest = rest

-- The last gives 1 to each that is chosen for.
all_ones : (us : List ℕ) → mask_of us (λ k. true) + 1 ≡ 2 ^ length us
all_ones [] = refl
all_ones (first ∷ us) =
    let rest = all_ones us in
    let double = pow-suc 2 (length us) in
    omega (arith, rest, double)

all_chosen : (us : List ℕ) (k : ℕ) → among us k ≡ true → masked us (2 ^ length us - 1) k ≡ true
all_chosen us k inside =
    let ones = all_ones us in
    let last : 2 ^ length us - 1 ≡ mask_of us (λ i. true) = omega (arith, ones) in
    ap (λ m. masked us m k) last
    ∙ all_among (λ i. masked us (mask_of us (λ n. true)) i ≡ true) us k (masked_agrees us (λ n. true)) inside

decided_unknown : (v : Value) (bit : Bool) → is_unknown v ≡ true → decided v bit ≡ bit
decided_unknown Zero bit unknown = cc
decided_unknown One bit unknown = cc
decided_unknown X bit unknown = refl
decided_unknown Z bit unknown = refl

-- A place isn't carried from one whose bit it doesn't give for one choice.
copy_fails : (j : Job) (c : ℕ → Value) (place : ℕ) (us : List ℕ) (m from : ℕ) (inverted bit : Bool) (v : Value)
    → Contains (arguments j c place) from → v ≡ value_by_number j c place us m
    → (is_unknown (c from) ≡ true → masked us m from ≡ bit) → is_bit v (flipped inverted bit) ≡ false
    → is_carrier j c place from inverted ≡ false
copy_fails j c place us m from inverted bit v contains v_is chosen fails = by (is_unknown (c from)) refl
  where
    by : (b : Bool) → is_unknown (c from) ≡ b → b && passes j c place (Copies from inverted) ≡ false
    by false is = refl
    by true is = number_fails j c place (Copies from inverted) contains us m
        (ap (λ b. is_bit (value_by_number j c place us m) (flipped inverted b))
        (decided_unknown (c from) (masked us m from) is ∙ chosen is)
        ∙ ap (λ w. is_bit w (flipped inverted bit)) (sym v_is) ∙ fails)

pub first_fails : (j : Job) (c : ℕ → Value) (place : ℕ) (us : List ℕ) (from : ℕ) (inverted : Bool) (v : Value)
    → Contains (arguments j c place) from → v ≡ value_by_number j c place us 0
    → is_bit v (flipped inverted false) ≡ false → is_carrier j c place from inverted ≡ false
first_fails j c place us from inverted v contains v_is fails =
    copy_fails j c place us 0 from inverted false v contains v_is (λ unknown. none_chosen us from) fails

pub last_fails : (j : Job) → Fits j → (c : ℕ → Value) (place : ℕ) → place < places_of j → (us : List ℕ) (from : ℕ)
    (inverted : Bool) (v : Value) → us ≡ uncertain_places j c place → Contains (arguments j c place) from
    → v ≡ value_by_number j c place us (2 ^ length us - 1) → is_bit v (flipped inverted true) ≡ false
    → is_carrier j c place from inverted ≡ false
last_fails j fits c place within us from inverted v us_is contains v_is fails =
    copy_fails j c place us (2 ^ length us - 1) from inverted true v contains v_is
    (λ unknown. all_chosen us from (subst (λ xs. among xs from ≡ true) (sym us_is)
    (picked_in (is_uncertain j c place) place from less
    (and_from (among (arguments j c place) from) (is_unknown (c from)) inside unknown)))) fails
  where
    inside : among (arguments j c place) from ≡ true
    inside = among_contains (arguments j c place) from contains

    less : from < place
    less = all_at (λ i. i < place) (arguments j c place) from (arguments_below j fits c place within) contains

-- Where no place of a list is one that another is carried from in the other way, it is the first in this way.
abbrev NoneIs : Job → (ℕ → Value) → ℕ → Bool → List ℕ → Type 0
NoneIs j c place inverted places = AllByRecursion (λ from. is_carrier j c place from inverted ≡ false) places

one_way : (j : Job) (c : ℕ → Value) (place : ℕ) (inverted : Bool) (places : List ℕ)
    → NoneIs j c place (not inverted) places
    → copied_or_line j c place inverted places ≡ carried_or_line j c place places
one_way j c place inverted [] none = refl
one_way j c place false (from ∷ places) none = rw (none.0, one_way j c place false places none.1) refl
one_way j c place true (from ∷ places) none = rw (none.0, one_way j c place true places none.1) refl

no_way : (j : Job) (c : ℕ → Value) (place : ℕ) (places : List ℕ) → NoneIs j c place false places
    → NoneIs j c place true places → Line ≡ carried_or_line j c place places
no_way j c place [] never neither = refl
no_way j c place (from ∷ places) never neither =
    rw (never.0, neither.0) (no_way j c place places never.1 neither.1)

each_is : (P : ℕ → Type 0) (places : List ℕ) → ((k : ℕ) → Contains places k → P k) → AllByRecursion P places
each_is P places each = among_all P places (λ k inside. each k (contains_among places k inside))

-- So the ends say whether and how a place is carried.
pub told_way : (j : Job) → Fits j → (c : ℕ → Value) (place : ℕ) → place < places_of j → (us : List ℕ) (v w : Value)
    → us ≡ uncertain_places j c place → v ≡ value_by_number j c place us 0
    → w ≡ value_by_number j c place us (2 ^ length us - 1) → (inverted : Bool) → inverted_by v w ≡ Some inverted
    → copied_or_line j c place inverted (arguments j c place) ≡ copy_or_line j c place
told_way j fits c place within us v w us_is v_is w_is inverted is = one_way j c place inverted (arguments j c place)
    (each_is _ (arguments j c place) (λ from inside.
    first_fails j c place us from (not inverted) v inside v_is (other v w inverted is)))
  where
    other : (x y : Value) (b : Bool) → inverted_by x y ≡ Some b → is_bit x (flipped (not b) false) ≡ false
    other Zero y false is = refl
    other Zero y true is = absurd (zero_not y is)
      where
        zero_not : (y : Value) → inverted_by Zero y ≡ Some true → ⊥
        zero_not Zero is = cc
        zero_not One is = cc
        zero_not X is = cc
        zero_not Z is = cc
    other One y true is = refl
    other One y false is = absurd (one_not y is)
      where
        one_not : (y : Value) → inverted_by One y ≡ Some false → ⊥
        one_not Zero is = cc
        one_not One is = cc
        one_not X is = cc
        one_not Z is = cc
    other X y b is = refl
    other Z y b is = refl

one_fails : (a b : Bool) → a && b ≡ false → (a ≡ false) ⊎ (b ≡ false)
one_fails false b h = inl refl
one_fails true b h = inr h

told_none : (a b : Bool) → (if a then Some false else if b then Some true else None) ≡ None
    → (a ≡ false) × (b ≡ false)
told_none false false is = (refl, refl)
told_none false true is = cc
told_none true b is = cc

-- And where they say that it isn't, it is a Line place.
pub told_line : (j : Job) → Fits j → (c : ℕ → Value) (place : ℕ) → place < places_of j → (us : List ℕ) (v w : Value)
    → us ≡ uncertain_places j c place → v ≡ value_by_number j c place us 0
    → w ≡ value_by_number j c place us (2 ^ length us - 1) → inverted_by v w ≡ None → Line ≡ copy_or_line j c place
told_line j fits c place within us v w us_is v_is w_is is =
    no_way j c place (arguments j c place) (never false parts.0) (never true parts.1)
  where
    parts : (is_bit v false && is_bit w true ≡ false) × (is_bit v true && is_bit w false ≡ false)
    parts = told_none (is_bit v false && is_bit w true) (is_bit v true && is_bit w false) is

    never : (inverted : Bool) → is_bit v (flipped inverted false) && is_bit w (flipped inverted true) ≡ false
        → NoneIs j c place inverted (arguments j c place)
    never inverted both = each_is _ (arguments j c place) (λ from inside.
        ⊎_elim (λ (first : is_bit v (flipped inverted false) ≡ false).
        first_fails j c place us from inverted v inside v_is first)
        (λ (last : is_bit w (flipped inverted true) ≡ false).
        last_fails j fits c place within us from inverted w us_is inside w_is last)
        (one_fails (is_bit v (flipped inverted false)) (is_bit w (flipped inverted true)) both))
