-- What code finds in a cone: a model gives a filling, numbers give all fillings of the sources, and nodes give worlds.
use Rattle.std.proofs.Common.{◌≡◌, ℕ, zero, suc, ◌<◌, ◌≤◌, ◌^◌, not, Bool, true, false, List, [], ◌∷◌, map, length, refl, sym, ap, ◌∙◌, arith, subst, inl, inr, Contains, slice_index_or}
use Rattle.std.specs.Prelude.{ℤ}
use Rattle.std.specs.List.{AllByRecursion}
use Rattle.design_cell.specs.declared.value.Value.{Value}
use Rattle.design_cell.specs.declared.value.Value.TheVariants.{X}
use Rattle.design_circuit.specs.declared.place.Place.{Place}
use Rattle.design_circuit.specs.declared.waveform.Written.{Written}
use Rattle.design_circuit.specs.Job.{Job, places_of}
use Rattle.design_circuit.specs.Fits.{Fits}
use Rattle.design_circuit.specs.Filling.{IsFilling, bit_of}
use Rattle.design_circuit.specs.Waveform.{certain}
use Rattle.design_circuit.specs.World.{world_bit, decided}
use Rattle.design_circuit.proofs.Exact.{empty_filling}
use Rattle.sat_proof.specs.Assignment.{value_of, IsMet}
use Rattle.law_model.specs.Class.{flipped}
use Rattle.law_model.specs.Cone.{in_cone, essentials, sources, source_filling, denied_value}
use Rattle.law_model.specs.Query.{IsQueryClause, denial, literal, valuation_of}
use Rattle.law_model.specs.Stated.{swapped}
use Rattle.law_model.specs.Line.{GivesBoth, IsEnumerated}
use Rattle.law_model.specs.Mask.{masked, mask_of}
use Rattle.law_model.specs.Node.{NodeBody, carried, ruled, IsBody, node_bit}
use Rattle.law_model.proofs.BodyGives.{AllTrueWorlds}
use Rattle.law_model.proofs.CarryLaw.{TrueWorld, carry}
use Rattle.law_model.proofs.MetClauses.{is_bit}
use Rattle.law_model.proofs.ConeWorlds.{consistent_world, source_worlds, world_up}
use Rattle.law_model.proofs.Cones.{cone_self, cone_within, essentials_below}
use Rattle.law_model.proofs.EssentialArguments.{world_table}
use Rattle.law_model.proofs.AssignmentNumbers.{mask_small, masked_agrees}
use Rattle.law_model.proofs.ConeModels.{model_consistent, says_valuation}
use Rattle.law_model.proofs.SourceFillings.{source_filling_is, source_given, source_among}
use Rattle.law_model.proofs.PlacesWhere.{all_among}
use Rattle.law_model.proofs.Roots.{carried_below}
use Rattle.law_model.specs.declared.limits.Limits.{Limits}

only_one : (l x : ℤ) → Contains (x ∷ []) l → l ≡ x
only_one l x (zero, less, is) = sym is
only_one l x (suc k, less, is) = absurd (omega arith)

-- The filling of a model of the query gives the place the other value.
pub model_value : (j : Job) → Fits j → (c : ℕ → Value) (root : ℕ) (model w : ℕ → Bool) → root < places_of j
    → ((clause : List ℤ) → IsQueryClause j c root clause → IsMet model clause)
    → TrueWorld j c (bit_of j (source_filling j c root (valuation_of j c root model))) w root
    → w root ≡ not (denied_value j c root)
model_value j fits c root model w within met seen =
    consistent_world j fits c root (bit_of j (source_filling j c root v)) w v seen
    (model_consistent j fits c root model within (λ clause is. met clause (inl is)))
    (λ k source. source_given j fits c root v k within source) root (cone_self j fits c root within)
    ∙ is_bit (v root) (not v0) on
  where
    v : ℕ → Bool
    v = valuation_of j c root model

    v0 : Bool
    v0 = denied_value j c root

    unit : IsMet model (denial j c root)
    unit = met (denial j c root) (inr refl)

    on : flipped (not (not v0)) (v root) ≡ true
    on = sym (says_valuation j c root root model (not v0))
        ∙ ap (value_of model) (sym (only_one unit.0 (literal j c root root (not v0)) unit.1)) ∙ unit.2

both_by : (j : Job) (waveform : List Written) (place : ℕ) (filling : List Place) (bit : Bool) → IsFilling j filling
    → world_bit j (certain waveform) (bit_of j []) place ≡ bit
    → world_bit j (certain waveform) (bit_of j filling) place ≡ not bit
    → GivesBoth j waveform place (swapped bit (record { zero = []; one = filling }))
both_by j waveform place filling false is first second =
    record { zero_filling = empty_filling j; one_filling = is; gives_zero = first; gives_one = second }
both_by j waveform place filling true is first second =
    record { zero_filling = is; one_filling = empty_filling j; gives_zero = second; gives_one = first }

-- So a model of the query gives a pair: the empty filling and its own, in the order that the denied value says.
pub model_pair : (j : Job) → Fits j → (waveform : List Written) (place : ℕ) (model : ℕ → Bool) → place < places_of j
    → AllTrueWorlds j waveform place → ((clause : List ℤ) → IsQueryClause j (certain waveform) place clause
    → IsMet model clause) → GivesBoth j waveform place
    (swapped (denied_value j (certain waveform) place)
    (record {
      zero = [];
      one = source_filling j (certain waveform) place (valuation_of j (certain waveform) place model);
    }))
model_pair j fits waveform place model within seen met =
    let c = certain waveform in
    let own : List Place = source_filling j c place (valuation_of j c place model) in
    let own_is : IsFilling j own = source_filling_is j fits c place (valuation_of j c place model) within in
    both_by j waveform place own (denied_value j c place) own_is refl
    (model_value j fits c place model (world_bit j c (bit_of j own)) within met (seen own own_is))

-- The numbers below 2 to the number of sources stand for all fillings of them.
pub numbers_enumerate : (j : Job) (limits : Limits) → Fits j → (waveform : List Written) (place : ℕ) (bit : Bool) → place < places_of j
    → AllTrueWorlds j waveform place → length (sources j (certain waveform) place) ≤ limits.enumerated
    → ((number : ℕ) → number < 2 ^ length (sources j (certain waveform) place)
    → world_bit j (certain waveform) (bit_of j
    (source_filling j (certain waveform) place (masked (sources j (certain waveform) place) number))) place ≡ bit)
    → IsEnumerated j limits waveform place bit
numbers_enumerate j limits fits waveform place bit within seen few each = record {
  few = few;
  each = λ filling filled alone. (let bits = masked all (mask_of all (bit_of j filling)) in
      let own : List Place = source_filling j c place bits in
      source_worlds j fits c (bit_of j filling) (bit_of j own) (world_bit j c (bit_of j filling))
      (world_bit j c (bit_of j own)) place place (seen filling filled)
      (seen own (source_filling_is j fits c place bits within))
      (λ k source. sym (source_given j fits c place bits k within source
      ∙ all_among (λ i. masked all (mask_of all (bit_of j filling)) i ≡ bit_of j filling i) all k
      (masked_agrees all (bit_of j filling)) (source_among j fits c place k within source)))
      (cone_self j fits c place within) ∙ each (mask_of all (bit_of j filling))
      (mask_small all (bit_of j filling)));
}
  where
    c : ℕ → Value
    c = certain waveform

    all : List ℕ
    all = sources j c place

pub mask_map : (f : ℕ → ℕ) (positions : List ℕ) (w bits : ℕ → Bool) → AllByRecursion (λ p. bits p ≡ w (f p)) positions
    → mask_of positions bits ≡ mask_of (map f positions) w
mask_map f [] w bits same = refl
mask_map f (p ∷ ps) w bits same = rw (same.0, mask_map f ps w bits same.1) refl

each_of : (P Q R : ℕ → Type 0) (xs : List ℕ) → ((k : ℕ) → P k → Q k → R k) → AllByRecursion P xs → AllByRecursion Q xs
    → AllByRecursion R xs
each_of P Q R [] more first second = tt
each_of P Q R (x ∷ xs) more first second = (more x first.0 second.0, each_of P Q R xs more first.1 second.1)

unmapped : (f : ℕ → ℕ) (n : ℕ) (xs : List ℕ) → AllByRecursion (λ k. k < n) (map f xs) → AllByRecursion (λ x. f x < n) xs
unmapped f n [] all = tt
unmapped f n (x ∷ xs) all = (all.0, unmapped f n xs all.1)

-- The bit of a node in a world, from the bits of the world at its supports.
pub node_world : (j : Job) → Fits j → (c : ℕ → Value) (f w : ℕ → Bool) (root place : ℕ) (places : List ℕ)
    (body : NodeBody) (bits : ℕ → Bool) → TrueWorld j c f w root → in_cone j c root place ≡ true
    → IsBody j c places place body → ((p : ℕ) → p < length places → slice_index_or places p 0 < place
    → bits p ≡ w (slice_index_or places p 0)) → node_bit bits (f place) body ≡ w place
node_world j fits c f w root place places (carried node inverted) bits seen inside is same =
    let here = world_up j c f w place root (cone_within j fits c root place seen.within inside) seen in
    ap (flipped inverted) (same node is.within
    (carried_below j fits c place (slice_index_or places node 0) inverted here.within is.class))
    ∙ sym (carry j fits c f w place (slice_index_or places node 0) inverted here is.class)
node_world j fits c f w root place places (ruled arguments values) bits seen inside is same =
    let here = world_up j c f w place root (cone_within j fits c root place seen.within inside) seen in
    let agree : AllByRecursion (λ p. bits p ≡ w (slice_index_or places p 0)) arguments = agreed arguments is.within
    (mapped_below arguments is.are_essential) in
    let number : mask_of arguments bits ≡ mask_of (essentials j c place) w = mask_map (λ p. slice_index_or places p 0)
    arguments w bits agree ∙ ap (λ xs. mask_of xs w) is.are_essential in
    ap (λ n. decided (slice_index_or values n X) (f place)) number
    ∙ ap (λ v. decided v (f place)) (is.are_values w ∙ sym (world_table j fits c f w place here))
    ∙ sym (here.world place (omega arith))
  where
    agreed : (ps : List ℕ) → AllByRecursion (λ p. p < length places) ps
        → AllByRecursion (λ p. slice_index_or places p 0 < place) ps
        → AllByRecursion (λ p. bits p ≡ w (slice_index_or places p 0)) ps
    agreed ps inside low = each_of _ _ _ ps (λ p p_in p_low. same p p_in p_low) inside low

    mapped_below : (ps : List ℕ) → map (λ p. slice_index_or places p 0) ps ≡ essentials j c place
        → AllByRecursion (λ p. slice_index_or places p 0 < place) ps
    mapped_below ps are = unmapped (λ p. slice_index_or places p 0) place ps
        (subst (AllByRecursion (λ k. k < place)) (sym are) (essentials_below j c place))
