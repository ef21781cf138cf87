-- The essential arguments of a place, from its table over its uncertain ones.
use Rattle.std.proofs.Common.{◌≡◌, ℕ, zero, suc, ◌+◌, ◌^◌, ◌/◌, ◌%◌, ◌<◌, ◌==◌, ◌&&◌, not, Bool, true, false, List, [], ◌∷◌, ◌++◌, cond, length, filter, slice_index, slice_index_or, take, if◌then◌else◌, refl, sym, ap, ◌∙◌, subst, arith, inl, inr}
use Rattle.std.proofs.lemmas.Bool.{and_parts, and_from, eq-eqb, eqb-true}
use Rattle.std.proofs.lemmas.Bool.Decides.{eqb_tells}
use Rattle.std.proofs.lemmas.List.{append-nil, take_more}
use Rattle.std.proofs.lemmas.List.Elements.{filter-append}
use Rattle.std.specs.List.Sorted.{IsStrictlyIncreasing}
use Rattle.design_cell.specs.declared.value.Value.{Value}
use Rattle.design_cell.specs.declared.value.Value.TheVariants.{Zero, One, X, Z}
use Rattle.design_cell.specs.Value.{is_unknown}
use Rattle.design_circuit.specs.Fits.{Fits}
use Rattle.design_circuit.specs.Job.{Job, places_of}
use Rattle.design_circuit.specs.Rule.{arguments, rule}
use Rattle.design_circuit.specs.World.{decided}
use Rattle.design_circuit.proofs.Rules.{AgreeOn, rule_reads}
use Rattle.wave_class.specs.Arguments.{is_uncertain, uncertain_places}
use Rattle.law_model.specs.Assignment.{assigned, for_every, with_bit}
use Rattle.law_model.specs.Cone.{are_alike, essentials, is_essential, makes_no_difference}
use Rattle.law_model.specs.Mask.{mask_of, masked}
use Rattle.law_model.specs.Places.{among, places_where}
use Rattle.law_model.proofs.AssignmentNumbers.{mask_small, masked_agrees}
use Rattle.law_model.proofs.Assignments.{every_passes, passes_every}
use Rattle.law_model.proofs.EssentialArguments.{rule_table, table_reads}
use Rattle.law_model.proofs.PlacesWhere.{all_among, among_all, in_picked, picked_in, picked_rises}
use Rattle.decide_graph.specs.Table.{IsCut, IsTableOver, Rests}
use Rattle.decide_graph.proofs.RisingLists.{increasing_apart}
use Rattle.decide_graph.proofs.NumberBits.{AreApart, each_all, index_among, mask_bit, mask_clear, mask_masked, mask_with, others_all, with_itself, with_other}

alike_itself : (v : Value) → are_alike v v ≡ true
alike_itself Zero = refl
alike_itself One = refl
alike_itself X = refl
alike_itself Z = refl

-- A place that the rule doesn't read makes no difference.
unread : (j : Job) (c : ℕ → Value) (place k : ℕ) → among (arguments j c place) k ≡ false
    → for_every j c place (makes_no_difference j c place k) ≡ true
unread j c place k none =
    passes_every j c place (makes_no_difference j c place k) (λ bits.
    ap (λ v. are_alike v (rule j c (with_bit k true (assigned c bits)) place)) (rule_reads j c
    (with_bit k false (assigned c bits)) (with_bit k true (assigned c bits)) place (others_all _ (arguments j c place) k none
    (λ p other. with_other k p false (assigned c bits) other ∙ sym (with_other k p true (assigned c bits) other))))
    ∙ alike_itself (rule j c (with_bit k true (assigned c bits)) place))

-- An essential argument is an uncertain argument place.
essential_uncertain : (j : Job) (c : ℕ → Value) (place k : ℕ) → is_essential j c place k ≡ true
    → is_uncertain j c place k ≡ true
essential_uncertain j c place k is =
    let every = for_every j c place (makes_no_difference j c place k) in
    let parts = and_parts (is_unknown (c k)) (not every) is in
    and_from (among (arguments j c place) k) (is_unknown (c k)) (read (among (arguments j c place) k) every parts.1
    (unread j c place k)) parts.0
  where
    read : (b every : Bool) → not every ≡ true → (b ≡ false → every ≡ true) → b ≡ true
    read true every differs unread_passes = refl
    read false every differs unread_passes = (let passes = unread_passes refl in let no : not every ≡ false = ap not passes in cc)

essential_among : (j : Job) (c : ℕ → Value) (place k : ℕ) → among (essentials j c place) k ≡ true
    → among (uncertain_places j c place) k ≡ true
unfolding essentials
essential_among j c place k at =
    let picked = in_picked (is_essential j c place) place k at in
    picked_in (is_uncertain j c place) place k picked.0 (essential_uncertain j c place k picked.1)

filter_one : (p : ℕ → Bool) (b : Bool) (n : ℕ) (xs : List ℕ) → (p n ≡ true → b ≡ true)
    → filter p (if b then xs ++ n ∷ [] else xs) ≡ (if p n then filter p xs ++ n ∷ [] else filter p xs)
filter_one p true n xs up = filter-append p xs (n ∷ []) ∙ last (p n)
  where
    last : (b : Bool) → filter p xs ++ cond b (n ∷ []) [] ≡ (if b then filter p xs ++ n ∷ [] else filter p xs)
    last true = refl
    last false = append-nil (filter p xs)
filter_one p false n xs up = none (p n) up
  where
    none : (b : Bool) → (b ≡ true → false ≡ true) → filter p xs ≡ (if b then filter p xs ++ n ∷ [] else filter p xs)
    none false h = refl
    none true h = (let no = h refl in cc)

-- Of the places at which a test holds, those at which a stronger one holds.
filter_picked : (p q : ℕ → Bool) (n : ℕ) → ((k : ℕ) → p k ≡ true → q k ≡ true)
    → filter p (places_where q n) ≡ places_where p n
filter_picked p q zero up = refl
filter_picked p q (suc n) up =
    filter_one p (q n) n (places_where q n) (up n)
    ∙ ap (λ xs. if p n then xs ++ n ∷ [] else xs) (filter_picked p q n up)

-- The essential arguments are the uncertain ones that are essential.
pub essentials_filter : (j : Job) (c : ℕ → Value) (place : ℕ)
    → filter (is_essential j c place) (uncertain_places j c place) ≡ essentials j c place
unfolding essentials
essentials_filter j c place =
    filter_picked (is_essential j c place) (is_uncertain j c place) place (essential_uncertain j c place)

-- Bits that agree at the uncertain arguments give one result.
pub uncertain_reads : (j : Job) → Fits j → (c : ℕ → Value) (place : ℕ) → place < places_of j → (f g : ℕ → Bool)
    → AgreeOn f g (uncertain_places j c place) → rule j c (assigned c f) place ≡ rule j c (assigned c g) place
uncertain_reads j fits c place within f g agree =
    rule_table j fits c place within f
    ∙ table_reads j c place f g (among_all _ (essentials j c place)
    (λ k at. all_among (λ i. f i ≡ g i) (uncertain_places j c place) k agree (essential_among j c place k at)))
    ∙ sym (rule_table j fits c place within g)

-- The value of a table at the number of some bits is the rule's on these.
pub table_value : (j : Job) → Fits j → (c : ℕ → Value) (place : ℕ) (places : List ℕ) (values : List Value)
    → place < places_of j → places ≡ uncertain_places j c place → IsTableOver j c place places values → (bits : ℕ → Bool)
    → slice_index_or values (mask_of places bits) X ≡ rule j c (assigned c bits) place
table_value j fits c place places values within are is bits =
    is.are_values (mask_of places bits) (mask_small places bits)
    ∙ uncertain_reads j fits c place within (masked places (mask_of places bits)) bits
    (subst (AgreeOn (masked places (mask_of places bits)) bits) are (masked_agrees places bits))

taken : (v : Value) (a b : Bool) → is_unknown v ≡ true → a ≡ b → decided v a ≡ b
taken Zero a b unknown same = cc
taken One a b unknown same = cc
taken X a b unknown same = same
taken Z a b unknown same = same

-- An uncertain place gets its bit.
assigned_with : (c : ℕ → Value) (k : ℕ) (v : Bool) (bits : ℕ → Bool) → is_unknown (c k) ≡ true → (i : ℕ)
    → with_bit k v (assigned c bits) i ≡ assigned c (with_bit k v bits) i
assigned_with c k v bits unknown i =
    elim (eqb_tells i k) as (λ _. with_bit k v (assigned c bits) i ≡ assigned c (with_bit k v bits) i) [
      | inl e ↦ rw e.0 (sym (taken (c i) v v (ap (λ m. is_unknown (c m)) e.1 ∙ unknown) refl))
      | inr e ↦ rw e.0 refl
    ]

-- What the rule gives where an uncertain argument has a bit is the table's value there.
with_value : (j : Job) → Fits j → (c : ℕ → Value) (place k : ℕ) (places : List ℕ) (values : List Value) (v : Bool)
    → place < places_of j → places ≡ uncertain_places j c place → IsTableOver j c place places values
    → is_unknown (c k) ≡ true → (bits : ℕ → Bool)
    → rule j c (with_bit k v (assigned c bits)) place ≡ slice_index_or values (mask_of places (with_bit k v bits)) X
with_value j fits c place k places values v within are is unknown bits =
    rule_reads j c (with_bit k v (assigned c bits)) (assigned c (with_bit k v bits)) place
    (each_all _ (arguments j c place) (assigned_with c k v bits unknown))
    ∙ sym (table_value j fits c place places values within are is (with_bit k v bits))

reads_alike : (j : Job) (c : ℕ → Value) (place k : ℕ) (f g : ℕ → Bool) → AgreeOn f g (arguments j c place)
    → makes_no_difference j c place k f ≡ makes_no_difference j c place k g
reads_alike j c place k f g agree = rw (with_same false, with_same true) refl
  where
    kept : (v : Bool) (p : ℕ) → f p ≡ g p → with_bit k v f p ≡ with_bit k v g p
    kept v p same = rw same refl

    all_kept : (v : Bool) (ps : List ℕ) → AgreeOn f g ps → AgreeOn (with_bit k v f) (with_bit k v g) ps
    all_kept v [] all = tt
    all_kept v (p ∷ ps) all = (kept v p all.0, all_kept v ps all.1)

    with_same : (v : Bool) → rule j c (with_bit k v f) place ≡ rule j c (with_bit k v g) place
    with_same v = rule_reads j c (with_bit k v f) (with_bit k v g) place (all_kept v (arguments j c place) agree)

abbrev alike_at : List Value → ℕ → ℕ → Bool
alike_at values bit number = are_alike (slice_index_or values number X) (slice_index_or values (number + 2 ^ bit) X)

is_clear : (b alike : Bool) → b && not alike ≡ true → (b ≡ true) × (alike ≡ false)
is_clear true false h = (refl, refl)
is_clear true true h = cc
is_clear false alike h = cc

must_agree : (b alike : Bool) → b && not alike ≡ false → b ≡ true → alike ≡ true
must_agree b true h on = refl
must_agree true false h on = cc
must_agree false false h on = cc

-- An uncertain argument is essential exactly where the values rest on its bit.
pub rests_essential : (j : Job) → Fits j → (c : ℕ → Value) (place : ℕ) (places : List ℕ) (values : List Value)
    → place < places_of j → places ≡ uncertain_places j c place → AreApart places → IsTableOver j c place places values
    → (bit : ℕ) (rests : Bool) → bit < length places → Rests values bit rests
    → is_essential j c place (slice_index places bit) ≡ rests
rests_essential j fits c place places values within are apart is bit rests less found =
    ap (λ b. b && not every) unknown ∙ by_values rests found
  where
    k : ℕ
    k = slice_index places bit

    every : Bool
    every = for_every j c place (makes_no_difference j c place k)

    inside : is_uncertain j c place k ≡ true
    inside = (in_picked (is_uncertain j c place) place k
        (subst (λ ps. among ps k ≡ true) are (index_among places bit less))).1

    unknown : is_unknown (c k) ≡ true
    unknown = (and_parts (among (arguments j c place) k) (is_unknown (c k)) inside).1

    low : (ℕ → Bool) → ℕ
    low bits = mask_of places (with_bit k false bits)

    by_low : (bits : ℕ → Bool) → makes_no_difference j c place k (assigned c bits) ≡ alike_at values bit (low bits)
    by_low bits = rw (
      with_value j fits c place k places values false within are is unknown bits,
      with_value j fits c place k places values true within are is unknown bits,
      mask_with places bits bit apart less,
    ) refl

    low_small : (bits : ℕ → Bool) → low bits + 2 ^ bit < length values
    low_small bits =
        let one = mask_with places bits bit apart less in
        let small = mask_small places (with_bit k true bits) in
        let long = is.long in
        omega (arith, one, small, long)

    low_clear : (bits : ℕ → Bool) → (low bits / 2 ^ bit) % 2 ≡ 0
    low_clear bits = mask_bit places (with_bit k false bits) bit less
        ∙ ap (λ b. cond b 1 0) (with_itself k false bits)

    none : (b : Bool) → (b ≡ true → ⊥) → not b ≡ true
    none true h = absurd (h refl)
    none false h = refl

    by_values : (rests : Bool) → Rests values bit rests → not every ≡ rests
    by_values true differs = none every (λ all.
        (let bits = masked places differs.number in
        let long = is.long in
        let up = differs.within in
        let parts = is_clear ((differs.number / 2 ^ bit) % 2 == 0) (alike_at values bit differs.number) differs.differ in
        let here : low bits ≡ differs.number = mask_clear places differs.number bit apart less (omega (arith, long, up))
        (eqb-true ((differs.number / 2 ^ bit) % 2) 0 parts.0) in
        let passes = every_passes j c place (makes_no_difference j c place k) (reads_alike j c place k) all bits in
        let alike : alike_at values bit differs.number ≡ true =
        ap (alike_at values bit) (sym here) ∙ sym (by_low bits) ∙ passes in
        let no : true ≡ false = sym alike ∙ parts.1 in cc))
    by_values false same = ap not (passes_every j c place (makes_no_difference j c place k)
        (λ bits. by_low bits ∙ must_agree ((low bits / 2 ^ bit) % 2 == 0) (alike_at values bit (low bits))
        (same (low bits) (low_small bits)) (eq-eqb ((low bits / 2 ^ bit) % 2) 0 (low_clear bits))))

-- One more place is looked at.
pub filter_next : (test : ℕ → Bool) (places : List ℕ) (i : ℕ) → i < length places
    → filter test (take (i + 1) places) ≡ (if test (slice_index places i) then filter test (take i places)
    ++ slice_index places i ∷ [] else filter test (take i places))
filter_next test places i less =
    ap (filter test) (take_more places i 0 less) ∙ filter-append test (take i places) (slice_index places i ∷ [])
    ∙ last (test (slice_index places i))
  where
    last : (b : Bool) → filter test (take i places) ++ cond b (slice_index places i ∷ []) []
        ≡ (if b then filter test (take i places) ++ slice_index places i ∷ [] else filter test (take i places))
    last true = refl
    last false = append-nil (filter test (take i places))

-- A table over fewer places, cut from that over the uncertain ones.
pub cut_is_table : (j : Job) → Fits j → (c : ℕ → Value) (place : ℕ) (places kept : List ℕ) (values cut : List Value)
    → place < places_of j → places ≡ uncertain_places j c place → IsTableOver j c place places values
    → IsCut places kept values cut → IsTableOver j c place kept cut
cut_is_table j fits c place places kept values cut within are is cuts = record {
  long = cuts.long;
  are_values = λ number less. cuts.are_values number less
      ∙ table_value j fits c place places values within are is (masked kept number);
}

-- The uncertain argument places have no doubles.
pub uncertain_apart : (j : Job) (c : ℕ → Value) (place : ℕ) (places : List ℕ) → places ≡ uncertain_places j c place
    → AreApart places
uncertain_apart j c place places are =
    subst AreApart (sym are) (increasing_apart (uncertain_places j c place) (picked_rises (is_uncertain j c place) place))

pub uncertain_rises : (j : Job) (c : ℕ → Value) (place : ℕ) (places : List ℕ) → places ≡ uncertain_places j c place
    → IsStrictlyIncreasing places
uncertain_rises j c place places are =
    subst IsStrictlyIncreasing (sym are) (picked_rises (is_uncertain j c place) place)

-- A table cut down to all of its places is the same.
pub whole_cut : (places : List ℕ) (values cut : List Value) → IsStrictlyIncreasing places
    → length values ≡ 2 ^ length places → cut ≡ values → IsCut places places values cut
whole_cut places values cut rising long same = record {
  long = ap length same ∙ long;
  are_values = λ number less. ap (λ vs. slice_index_or vs number X) same
      ∙ ap (λ n. slice_index_or values n X) (sym (mask_masked places number (increasing_apart places rising) less));
}
