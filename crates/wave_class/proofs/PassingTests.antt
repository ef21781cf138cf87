-- A test passes for every assignment where it passes for each number.
use Rattle.std.proofs.Common.{◌≡◌, ℕ, ◌^◌, ◌<◌, Bool, true, false, List, length, not, refl, sym, ap, ◌∙◌}
use Rattle.std.proofs.lemmas.Bool.{and_from}
use Rattle.design_cell.specs.declared.value.Value.{Value}
use Rattle.design_cell.specs.declared.value.Value.TheVariants.{Zero, One, X, Z}
use Rattle.design_cell.specs.Value.{is_unknown}
use Rattle.design_circuit.specs.Fits.{Fits}
use Rattle.design_circuit.specs.Job.{Job, places_of}
use Rattle.design_circuit.specs.Rule.{arguments}
use Rattle.design_circuit.specs.World.{decided}
use Rattle.design_circuit.proofs.Rules.{AgreeOn, rule_reads, arguments_below}
use Rattle.law_model.specs.Assignment.{assigned}
use Rattle.law_model.specs.Class.{is_bit}
use Rattle.law_model.specs.Mask.{masked, mask_of}
use Rattle.law_model.specs.Places.{among}
use Rattle.law_model.proofs.AssignmentNumbers.{mask_small, masked_agrees}
use Rattle.law_model.proofs.Assignments.{every_passes, passes_every}
use Rattle.law_model.proofs.Classes.{all_at}
use Rattle.law_model.proofs.PlacesWhere.{picked_in, all_among, among_all}
use Rattle.wave_class.specs.Arguments.{is_uncertain, uncertain_places}
use Rattle.wave_class.specs.Test.{test_of, passes, ReadsOnly}
use Rattle.wave_class.specs.declared.test.Test.{Test}
use Rattle.wave_class.specs.declared.test.Test.TheVariants.{Bit, Unknown, Known, Copies}

-- A test reads the argument places alone.
pub test_reads : (j : Job) (c : ℕ → Value) (place : ℕ) (test : Test) → ReadsOnly j c place test → (f g : ℕ → Bool)
    → AgreeOn f g (arguments j c place) → test_of j c place test f ≡ test_of j c place test g
test_reads j c place (Bit bit) reads f g agree = ap (λ v. is_bit v bit) (rule_reads j c f g place agree)
test_reads j c place Unknown reads f g agree = ap is_unknown (rule_reads j c f g place agree)
test_reads j c place Known reads f g agree = ap (λ v. not (is_unknown v)) (rule_reads j c f g place agree)
test_reads j c place (Copies from inverted) reads f g agree =
    rw (rule_reads j c f g place agree, all_at (λ k. f k ≡ g k) (arguments j c place) from agree reads) refl

decided_same : (v : Value) (a b : Bool) → (is_unknown v ≡ true → a ≡ b) → decided v a ≡ decided v b
decided_same Zero a b same = refl
decided_same One a b same = refl
decided_same X a b same = same refl
decided_same Z a b same = same refl

-- On the argument places an assignment is the one of a number.
numbered : (j : Job) → Fits j → (c : ℕ → Value) (place : ℕ) → place < places_of j → (bits : ℕ → Bool)
    → AgreeOn (assigned c bits) (assigned c (masked (uncertain_places j c place)
    (mask_of (uncertain_places j c place) bits))) (arguments j c place)
numbered j fits c place within bits = among_all _ (arguments j c place)
    (λ k inside. decided_same (c k) (bits k) (masked us (mask_of us bits) k) (λ unknown. sym (chosen k inside unknown)))
  where
    us : List ℕ
    us = uncertain_places j c place

    chosen : (k : ℕ) → among (arguments j c place) k ≡ true → is_unknown (c k) ≡ true
        → masked us (mask_of us bits) k ≡ bits k
    chosen k inside unknown =
        let less : k < place = all_among (λ i. i < place) (arguments j c place) k
        (arguments_below j fits c place within) inside in
        all_among (λ i. masked us (mask_of us bits) i ≡ bits i) us k (masked_agrees us bits)
        (picked_in (is_uncertain j c place) place k less (and_from (among (arguments j c place) k) (is_unknown (c k))
        inside unknown))

-- What passes for each number passes for every assignment.
pub numbers_pass : (j : Job) → Fits j → (c : ℕ → Value) (place : ℕ) (test : Test) → place < places_of j
    → ReadsOnly j c place test → (us : List ℕ) → us ≡ uncertain_places j c place
    → ((m : ℕ) → m < 2 ^ length us → test_of j c place test (assigned c (masked us m)) ≡ true)
    → passes j c place test ≡ true
numbers_pass j fits c place test within reads us is each =
    let places = uncertain_places j c place in
    passes_every j c place (test_of j c place test)
    (λ bits. test_reads j c place test reads (assigned c bits) (assigned c (masked places (mask_of places bits)))
    (numbered j fits c place within bits)
    ∙ (rw is at each) (mask_of places bits) (mask_small places bits))

-- Where one number fails, not every assignment passes.
pub number_fails : (j : Job) (c : ℕ → Value) (place : ℕ) (test : Test) → ReadsOnly j c place test
    → (us : List ℕ) (m : ℕ) → test_of j c place test (assigned c (masked us m)) ≡ false
    → passes j c place test ≡ false
number_fails j c place test reads us m fails = none (passes j c place test)
    (λ all. every_passes j c place (test_of j c place test) (test_reads j c place test reads) all (masked us m))
  where
    none : (all : Bool) → (all ≡ true → test_of j c place test (assigned c (masked us m)) ≡ true) → all ≡ false
    none false h = refl
    none true h = let passes = h refl in cc
