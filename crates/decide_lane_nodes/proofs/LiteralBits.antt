-- The literal of a place, from those of the places before it.
use Rattle.std.proofs.Common.{◌≡◌, ℕ, ◌+◌, ◌*◌, ◌<◌, Bool, true, false, List, [], ◌∷◌, Option, None, Some, length, refl, sym, ap, ◌∙◌, subst, arith}
use Rattle.std.specs.List.{AllByRecursion}
use Rattle.design_cell.specs.declared.value.Value.{Value}
use Rattle.design_cell.specs.Value.{bit_value, is_unknown}
use Rattle.design_circuit.specs.Fits.{Fits, place_at}
use Rattle.design_circuit.specs.Job.{Job, places_of}
use Rattle.design_circuit.specs.Rule.{arguments, rule}
use Rattle.design_circuit.specs.Waveform.{certain}
use Rattle.design_circuit.specs.World.{decided}
use Rattle.law_model.specs.Class.{class_of, flipped}
use Rattle.law_model.specs.Cone.{essentials, sources}
use Rattle.law_model.specs.Mask.{mask_of}
use Rattle.law_model.specs.Places.{among}
use Rattle.law_model.specs.Root.{Root}
use Rattle.law_model.specs.declared.class.ClassByNumber.TheVariants.{Carried}
use Rattle.law_model.proofs.CarryLaw.{TrueWorld, carry}
use Rattle.law_model.proofs.EssentialArguments.{world_table}
use Rattle.law_model.proofs.PlacesWhere.{among_all}
use Rattle.law_model.proofs.Roots.{root_carried}
use Rattle.law_model.proofs.TracedCones.{sound_carries, values_are}
use Rattle.wave_proved.specs.Contents.{Contents, IsWave, job}
use Rattle.law_waveforms.proofs.GivenWorlds.{given_certain, given_world}
use Rattle.law_waveforms.proofs.SourceUnions.{carried_law}
use Rattle.decide_graph.specs.Table.{IsTableOver}
use Rattle.decide_nodes.specs.Lanes.{HasLanes, in_lane}
use Rattle.decide_nodes.proofs.EachLane.{lane_zeros}
use Rattle.decide_lane_nodes.specs.Given.{given_lanes, lane_bit, lane_given}
use Rattle.decide_lane_nodes.specs.InWave.{IsInReach, IsRuleIn, IsNodeIn, CoversBeforeIn, IsLiteralIn, bit_in_lane}
use Rattle.decide_lane_nodes.specs.Literal.{AreSources, LiteralView, constant, plain, turned}
use Rattle.decide_lane_nodes.specs.Nodes.{NodeView, node_at, zero_node}
use Rattle.decide_lane_nodes.specs.Covered.{CoversBefore, IsCovered, covered_bit, table_bit}
use Rattle.decide_lane_nodes.specs.declared.literal.Covered.{Covered}
use Rattle.decide_lane_nodes.proofs.NearPlaces.{essential_argument, near_argument}

-- The places that are written are within the job.
pub written_within : (c : Contents) (place : ℕ) → IsWave c → place < length c.written → place < places_of (job c)
written_within c place wave less = (let all = wave.holds.sound.within in omega (arith, all, less))

-- A certain place has its bit in each lane.
pub unknown_not : {P : Type 0} (bit : Bool) → is_unknown (bit_value bit) ≡ true → P
unknown_not false e = cc
unknown_not true e = cc

flipped_false : (b : Bool) → flipped b false ≡ b
flipped_false false = refl
flipped_false true = refl

pub constant_literal : (c : Contents) (nodes : List NodeView) (place : ℕ) (bit : Bool) → IsWave c → 0 < length nodes
    → node_at nodes 0 ≡ zero_node → place < length c.written → certain c.written place ≡ bit_value bit
    → IsLiteralIn c nodes (constant bit) place
constant_literal c nodes place bit wave some zeros less is = record {
  within = some;
  bits = λ lane small.
      ap (λ (n : NodeView). flipped bit (in_lane n.lane_bits lane)) zeros ∙ ap (flipped bit) (lane_zeros lane small)
      ∙ flipped_false bit
      ∙ sym (given_certain (job c) c.limits wave.fits.fits_job _ c.written c.lines wave.holds.sound place bit less is
      (lane_given (job c) lane));
  some = λ uncertain. unknown_not bit (sym (ap is_unknown is) ∙ uncertain);
  root = λ uncertain. unknown_not bit (sym (ap is_unknown is) ∙ uncertain);
  sources = λ uncertain. unknown_not bit (sym (ap is_unknown is) ∙ uncertain);
}

-- A place that isn't carried and has its own node.
pub node_literal : (c : Contents) (nodes : List NodeView) (node place : ℕ) → IsNodeIn c nodes node place
    → IsLiteralIn c nodes (plain node) place
node_literal c nodes node place holds = record {
  within = holds.within;
  bits = holds.bits;
  some = λ uncertain. holds.some;
  root = λ uncertain. holds.root;
  sources = λ uncertain. holds.sources;
}

-- A carried place that is written.
twice : (a b x : Bool) → flipped (flipped a b) x ≡ flipped a (flipped b x)
twice false b x = refl
twice true false x = refl
twice true true false = refl
twice true true true = refl

sources_same : (j : Job) (c : ℕ → Value) (place from : ℕ) (found : Option (List ℕ)) → sources j c place ≡ sources j c from
    → AreSources j c from found → AreSources j c place found
sources_same j c place from None same are = tt
sources_same j c place from (Some list) same are = are ∙ sym same

pub carried_literal : (c : Contents) (nodes : List NodeView) (literal : LiteralView) (place from : ℕ) (inverted : Bool)
    → IsWave c → place < length c.written → class_of (job c) (certain c.written) place ≡ Carried from inverted
    → IsLiteralIn c nodes literal from → IsLiteralIn c nodes (turned inverted literal) place
carried_literal c nodes literal place from inverted wave less is holds = record {
  within = holds.within;
  bits = λ lane small.
      twice inverted literal.inverted (in_lane (node_at nodes literal.node).lane_bits lane)
      ∙ ap (flipped inverted) (holds.bits lane small)
      ∙ sym (carry j fits known (lane_given j lane) (lane_bit j known lane) place from inverted
      (given_world j c.limits fits _ c.written c.lines wave.holds.sound place (omega (arith, less)) within
      (lane_given j lane)) is);
  some = λ unknown. holds.some (uncertain unknown);
  root = λ unknown. root_carried j fits known place from inverted within is
      ∙ ap (λ (r : Root). record { place = r.place; inverted = flipped inverted r.inverted })
      (holds.root (uncertain unknown));
  sources = λ unknown. sources_same j known place from (node_at nodes literal.node).sources
      (carried_law j known place from inverted fits within is) (holds.sources (uncertain unknown));
}
  where
    j : Job
    j = job c

    known : ℕ → Value
    known = certain c.written

    fits : Fits j
    fits = wave.fits.fits_job

    within : place < places_of j
    within = written_within c place wave less

    uncertain : is_unknown (known place) ≡ true → is_unknown (known from) ≡ true
    uncertain = sound_carries j c.limits fits _ c.written c.lines wave.holds.sound place from inverted less is

-- What a place reads is covered.
pub covered_near : (j : Job) (c : ℕ → Value) (covered : Covered) (place k : ℕ) → CoversBefore j c covered place → k < place
    → place < k + 3 * j.width → IsCovered covered k
covered_near j c covered place k before less near =
    let first = before.far k near in
    let up = before.up in
    let below : k < covered.first + length covered.literals.now.literals = omega (arith, less, up) in
    record { first = first; below = below; node = (before.each k first below).within }

-- What a place rests on are uncertain arguments before it, which are covered; its table is over these.
pub argument_is : (c : Contents) (place k : ℕ) (places : List ℕ) (values : List Value) → IsRuleIn c place places values
    → among places k ≡ true
    → (among (arguments (job c) (certain c.written) place) k ≡ true) × (is_unknown (certain c.written k) ≡ true)
    × (k < place)
argument_is c place k places values rests at =
    essential_argument (job c) (certain c.written) place k (subst (λ xs. among xs k ≡ true) rests.are_essential at)

pub covered_at : (c : Contents) (covered : Covered) (place k : ℕ) (places : List ℕ) (values : List Value) → IsWave c
    → IsInReach c place → IsRuleIn c place places values → CoversBeforeIn c covered place → among places k ≡ true
    → IsCovered covered k × (is_unknown (certain c.written k) ≡ true)
covered_at c covered place k places values wave reach rests before at =
    let argument = argument_is c place k places values rests at in (
      covered_near (job c) (certain c.written) covered place k before argument.2
          (near_argument (job c) wave.fits.fits_job (certain c.written) place k reach.within argument.0),
      argument.1,
    )

pub covered_arguments : (c : Contents) (covered : Covered) (place : ℕ) (places : List ℕ) (values : List Value)
    → IsWave c → IsInReach c place → IsRuleIn c place places values → CoversBeforeIn c covered place
    → AllByRecursion (IsCovered covered) places
covered_arguments c covered place places values wave reach rests before =
    among_all (IsCovered covered) places
    (λ k at. (covered_at c covered place k places values wave reach rests before at).0)

pub essential_table : (c : Contents) (place : ℕ) (places : List ℕ) (values : List Value)
    → IsRuleIn c place places values → IsTableOver (job c) (certain c.written) place (essentials (job c) (certain c.written) place) values
essential_table c place places values rests =
    subst (λ xs. IsTableOver (job c) (certain c.written) place xs values) rests.are_essential rests.is_table

-- In each lane the table gives what the place has there.
mask_same : (places : List ℕ) (f g : ℕ → Bool) → AllByRecursion (λ k. f k ≡ g k) places
    → mask_of places f ≡ mask_of places g
mask_same [] f g same = refl
mask_same (p ∷ ps) f g same = rw (same.0, mask_same ps f g same.1) refl

pub rule_bits : (c : Contents) (covered : Covered) (place : ℕ) (arguments : List ℕ) (values : List Value) (own lane_bits : List ℕ)
    → IsWave c → IsInReach c place → IsRuleIn c place arguments values → CoversBeforeIn c covered place
    → own ≡ given_lanes (place_at (job c) place)
    → HasLanes lane_bits (λ lane. table_bit values (mask_of arguments (covered_bit covered lane)) (in_lane own lane))
    → HasLanes lane_bits (bit_in_lane c place)
rule_bits c covered place arguments values own lane_bits wave reach rests before own_is has lane small =
    has lane small
    ∙ ap (λ n. table_bit values n (in_lane own lane)) (mask_same arguments (covered_bit covered lane) w agree)
    ∙ ap (λ xs. table_bit values (mask_of xs w) (in_lane own lane)) rests.are_essential
    ∙ ap (λ v. decided v (in_lane own lane)) (values_are j fits known place values reach.within
    (essential_table c place arguments values rests).are_values w
    ∙ sym (world_table j fits known f w place true_world))
    ∙ ap (λ o. decided (rule j known w place) (in_lane o lane)) own_is
    ∙ sym (true_world.world place (omega arith))
  where
    j : Job
    j = job c

    known : ℕ → Value
    known = certain c.written

    fits : Fits j
    fits = wave.fits.fits_job

    f : ℕ → Bool
    f = lane_given j lane

    w : ℕ → Bool
    w = lane_bit j known lane

    true_world : TrueWorld j known f w place
    true_world = given_world j c.limits fits _ c.written c.lines wave.holds.sound place reach.written reach.within f

    agree : AllByRecursion (λ k. covered_bit covered lane k ≡ w k) arguments
    agree = among_all (λ k. covered_bit covered lane k ≡ w k) arguments (λ k at.
        (let t = (covered_at c covered place k arguments values wave reach rests before at).0 in
        (before.each k t.first t.below).bits lane small))
