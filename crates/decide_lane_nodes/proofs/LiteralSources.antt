-- The sources of a place, from those of its arguments.
use Rattle.std.proofs.Common.{◌≡◌, ℕ, ◌+◌, ◌<◌, ◌==◌, ◌&&◌, ◌||◌, not, Bool, true, false, List, [], ◌∷◌, ◌++◌, Option, None, Some, IfSome, IsSome, length, if◌then◌else◌, refl, sym, ap, ◌∙◌, subst, arith, append-nil, ⊎_elim}
use Rattle.std.specs.List.{AllByRecursion, list_any}
use Rattle.std.specs.List.Sorted.{IsStrictlyIncreasing}
use Rattle.std.proofs.lemmas.Bool.{and_parts, cases_Bool}
use Rattle.std.proofs.lemmas.List.Folds.{list_any-append}
use Rattle.design_cell.specs.declared.value.Value.{Value}
use Rattle.design_cell.specs.Value.{is_unknown}
use Rattle.design_circuit.specs.Fits.{Fits}
use Rattle.design_circuit.specs.Job.{Job, places_of}
use Rattle.design_circuit.specs.Waveform.{certain}
use Rattle.law_model.specs.Class.{class_of, is_never_unknown}
use Rattle.law_model.specs.Cone.{in_cone, reads_filling, is_carried, is_source, sources}
use Rattle.law_model.specs.Places.{among}
use Rattle.law_model.proofs.Cones.{cone_within}
use Rattle.law_model.proofs.PlacesWhere.{all_among, among_all, in_any, in_picked, picked_in, picked_rises}
use Rattle.law_model.proofs.TracedCones.{values_are}
use Rattle.wave_proved.specs.Contents.{Contents, IsWave, job}
use Rattle.law_waveforms.proofs.SourceUnions.{union_law}
use Rattle.decide_nodes.proofs.NodeSources.{values_born}
use Rattle.decide_nodes.proofs.RisingNumbers.{Rises, rises, rises_same}
use Rattle.decide_lane_nodes.specs.InWave.{IsInReach, IsRuleIn, CoversBeforeIn}
use Rattle.decide_lane_nodes.specs.Joined.{AreListed, IsJoined, HasSources, is_in, keeps_source}
use Rattle.decide_lane_nodes.specs.Made.{AreSourcesIn}
use Rattle.decide_lane_nodes.specs.Covered.{covered_sources}
use Rattle.decide_lane_nodes.specs.Literal.{AreSources}
use Rattle.decide_lane_nodes.specs.Union.{IsUnion}
use Rattle.decide_lane_nodes.specs.declared.literal.Covered.{Covered}
use Rattle.decide_lane_nodes.proofs.LiteralBits.{argument_is, covered_at, essential_table}
use Rattle.decide_lane_nodes.proofs.Unions.{rises_more}

-- No places have no sources.
pub joined_none : (covered : Covered) → IsJoined covered [] []
joined_none covered = record { rises = λ k less. absurd (omega arith); are = λ k. refl; kept = tt }

-- One place more.
pub joined_more : (covered : Covered) (first : ℕ) (others all list more : List ℕ) → IsJoined covered others all
    → covered_sources covered first ≡ Some list → IsUnion list all more → IsJoined covered (first ∷ others) more
joined_more covered first others all list more so is union = record {
  rises = union.rises;
  are = λ k. union.are k ∙ ap (λ b. among list k || b) (so.are k)
      ∙ ap (λ b. b || list_any (keeps_source covered k) others) (sym (ap (is_in k) is));
  kept = (subst IsSome (sym is) refl, so.kept);
}

-- The list of a place's sources ascends, where it is kept.
sources_rise : (j : Job) (c : ℕ → Value) (place : ℕ) (found : Option (List ℕ)) → AreSources j c place found
    → IfSome found IsStrictlyIncreasing
sources_rise j c place None are = tt
sources_rise j c place (Some list) are = subst IsStrictlyIncreasing (sym are) (picked_rises (is_source j c place) (place + 1))

covered_sources_are : (c : Contents) (covered : Covered) (place k : ℕ) (arguments : List ℕ) (values : List Value) → IsWave c
    → IsInReach c place → IsRuleIn c place arguments values → CoversBeforeIn c covered place → among arguments k ≡ true
    → AreSources (job c) (certain c.written) k (covered_sources covered k)
covered_sources_are c covered place k arguments values wave reach rests before at =
    let is = covered_at c covered place k arguments values wave reach rests before at in
    (before.each k is.0.first is.0.below).sources is.1

pub listed_arguments : (c : Contents) (covered : Covered) (place : ℕ) (arguments : List ℕ) (values : List Value) → IsWave c
    → IsInReach c place → IsRuleIn c place arguments values → CoversBeforeIn c covered place
    → AllByRecursion (AreListed covered) arguments
listed_arguments c covered place arguments values wave reach rests before =
    among_all (AreListed covered) arguments (λ k at. sources_rise (job c) (certain c.written) k (covered_sources covered k)
    (covered_sources_are c covered place k arguments values wave reach rests before at))

-- A place is in a list of sources exactly where it is a source.
source_in : (j : Job) → Fits j → (c : ℕ → Value) (place k : ℕ) → place < places_of j
    → among (sources j c place) k ≡ is_source j c place k
source_in j fits c place k within = ⊎_elim
    (λ (h : among (sources j c place) k ≡ true). (h ∙ sym (in_picked (is_source j c place) (place + 1) k h).1))
    (λ (h : among (sources j c place) k ≡ false). ⊎_elim
    (λ (s : is_source j c place k ≡ true).
    (let low = cone_within j fits c place k within (and_parts (in_cone j c place k) (reads_filling j c k) s).0 in
    picked_in (is_source j c place) (place + 1) k (omega (arith, low)) s ∙ sym s))
    (λ (s : is_source j c place k ≡ false). h ∙ sym s) (cases_Bool (is_source j c place k)))
    (cases_Bool (among (sources j c place) k))

covered_source : (j : Job) → Fits j → (c : ℕ → Value) (argument k : ℕ) (found : Option (List ℕ)) → argument < places_of j
    → IsSome found → AreSources j c argument found → is_in k found ≡ is_source j c argument k
covered_source j fits c argument k None within kept are = cc
covered_source j fits c argument k (Some list) within kept are =
    ap (λ xs. among xs k) are ∙ source_in j fits c argument k within

any_each : (p q : ℕ → Bool) (xs : List ℕ) → AllByRecursion (λ x. p x ≡ q x) xs → list_any p xs ≡ list_any q xs
any_each p q [] same = refl
any_each p q (x ∷ xs) same = rw (same.0, any_each p q xs same.1) refl

own_last : (place k : ℕ) (all : List ℕ) (born rest : Bool) → among all k ≡ rest
    → among (all ++ (if born then place ∷ [] else [])) k ≡ ((place == k) && born) || rest
own_last place k all born rest is = list_any-append (λ i. i == k) all (if born then place ∷ [] else []) ∙ by born
  where
    turn : (a b : Bool) → a || (b || false) ≡ (b && true) || a
    turn true true = refl
    turn true false = refl
    turn false true = refl
    turn false false = refl

    none : (a b : Bool) → a || false ≡ (b && false) || a
    none true true = refl
    none true false = refl
    none false true = refl
    none false false = refl

    by : (b : Bool) → among all k || among (if b then place ∷ [] else []) k ≡ ((place == k) && b) || rest
    by true = turn (among all k) (place == k) ∙ ap (λ r. ((place == k) && true) || r) is
    by false = none (among all k) (place == k) ∙ ap (λ r. ((place == k) && false) || r) is

-- The sources of a place are those of its arguments, and itself where its table has x.
pub rule_sources : (c : Contents) (covered : Covered) (place : ℕ) (arguments all : List ℕ) (values : List Value) → IsWave c
    → IsInReach c place → IsRuleIn c place arguments values → CoversBeforeIn c covered place → IsJoined covered arguments all
    → AreSourcesIn c place (all ++ (if list_any is_unknown values then place ∷ [] else []))
rule_sources c covered place arguments all values wave reach rests before joined =
    rises_same _ _ (up (list_any is_unknown values)) (rises (sources j known place) (picked_rises (is_source j known place) (place + 1)))
    (λ k. own_last place k all (list_any is_unknown values) _ (joined.are k ∙ any_each (keeps_source covered k)
    (λ a. is_source j known a k) arguments (each k))
    ∙ ap (λ b. ((place == k) && b) || list_any (λ a. is_source j known a k) arguments) born
    ∙ ap (λ xs. ((place == k) && reads_filling j known place) || list_any (λ a. is_source j known a k) xs) rests.are_essential
    ∙ sym (union_law j known place k fits reach.within rests.free)
    ∙ sym (source_in j fits known place k reach.within))
  where
    j : Job
    j = job c

    known : ℕ → Value
    known = certain c.written

    fits : Fits j
    fits = wave.fits.fits_job

    each : (k : ℕ) → AllByRecursion (λ a. keeps_source covered k a ≡ is_source j known a k) arguments
    each k = among_all (λ a. keeps_source covered k a ≡ is_source j known a k) arguments (λ a at.
        (let less = (argument_is c place a arguments values rests at).2 in let within = reach.within in
        covered_source j fits known a k (covered_sources covered a) (omega (arith, less, within))
        (all_among (HasSources covered) arguments a joined.kept at)
        (covered_sources_are c covered place a arguments values wave reach rests before at)))

    on : (never carried : Bool) → carried ≡ false → not never ≡ not carried && not never
    on never carried is = rw is refl

    born : list_any is_unknown values ≡ reads_filling j known place
    born = values_born j fits known place reach.within values (λ k. false)
        (essential_table c place arguments values rests).long
        (values_are j fits known place values reach.within (essential_table c place arguments values rests).are_values)
        ∙ on (is_never_unknown j known place) (is_carried (class_of j known place)) rests.free

    below : AllByRecursion (λ k. k < place) all
    below = among_all (λ k. k < place) all (λ k at.
        (let some = in_any (keeps_source covered k) arguments (sym (joined.are k) ∙ at) in
        let less = (argument_is c place some.0 arguments values rests some.1).2 in
        let source : is_source j known some.0 k ≡ true = sym (all_among (λ a. keeps_source covered k a ≡ is_source j known a k) arguments some.0 (each k) some.1) ∙ some.2 in
        let within = reach.within in
        let low = cone_within j fits known some.0 k (omega (arith, less, within)) (and_parts (in_cone j known some.0 k) (reads_filling j known k) source).0 in
        omega (arith, low, less)))

    up : (b : Bool) → Rises (all ++ (if b then place ∷ [] else []))
    up true = rises_more all place (rises all joined.rises) below
    up false = subst Rises (sym (append-nil all)) (rises all joined.rises)

-- The same as code makes it.
pub made_sources : (c : Contents) (covered : Covered) (place : ℕ) (arguments all : List ℕ) (values : List Value)
    (made : List ℕ) (is_source : Bool) → IsWave c
    → IsInReach c place → IsRuleIn c place arguments values → CoversBeforeIn c covered place → IsJoined covered arguments all
    → is_source ≡ list_any is_unknown values
    → made ≡ all ++ (if is_source then place ∷ [] else []) → AreSourcesIn c place made
made_sources c covered place arguments all values made is_source wave reach rests before joined has is =
    is ∙ ap (λ b. all ++ (if b then place ∷ [] else [])) has
    ∙ rule_sources c covered place arguments all values wave reach rests before joined
