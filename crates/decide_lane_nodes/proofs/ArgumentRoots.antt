-- The roots of what a place rests on, by their nodes, from the literals of the places before it.
use Rattle.std.proofs.Common.{◌≡◌, ℕ, zero, suc, ◌-◌, ◌<◌, ◌^◌, List, [], ◌∷◌, length, map, slice_index, refl, sym, ap, ◌∙◌, subst, arith}
use Rattle.std.specs.List.{AllByRecursion}
use Rattle.std.proofs.lemmas.List.{get_or-map, length-map}
use Rattle.design_cell.specs.declared.value.Value.{Value}
use Rattle.design_circuit.specs.Waveform.{certain}
use Rattle.law_model.specs.Root.{root_of}
use Rattle.law_model.proofs.PlacesWhere.{among_all}
use Rattle.law_model.proofs.TracedCones.{values_are}
use Rattle.wave_proved.specs.Contents.{Contents, IsWave, job}
use Rattle.decide_nodes.proofs.NodeWorlds.{all_at}
use Rattle.decide_graph.specs.NodeRoots.{IsRooted, no_node_root, node_in, node_root_at}
use Rattle.decide_graph.specs.declared.node_root.NodeRoot.{NodeRoot}
use Rattle.decide_lane_nodes.specs.Covered.{AreBefore, HasOwnNode, IsCovered, covered_literal, covered_root}
use Rattle.decide_lane_nodes.specs.InWave.{CoversBeforeIn, IsInReach, IsRuleIn}
use Rattle.decide_lane_nodes.specs.Literal.{LiteralView}
use Rattle.decide_lane_nodes.specs.Made.{AreRootsIn}
use Rattle.decide_lane_nodes.specs.Nodes.{NodeView, node_at, numbers_of, place_of_node, zero_node}
use Rattle.decide_lane_nodes.specs.declared.literal.Covered.{Covered}
use Rattle.decide_lane_nodes.proofs.LiteralBits.{covered_arguments, covered_at, essential_table}

-- The numbers of the nodes after the first.
pub numbers_long : (nodes : List NodeView) → length (numbers_of nodes) ≡ length nodes - 1
numbers_long [] = refl
numbers_long (n ∷ ns) = (let long = length-map ns place_of_node in omega (arith, long))

pub number_at : (nodes : List NodeView) (node : ℕ) → 0 < node → node < length nodes
    → slice_index (numbers_of nodes) (node - 1) ≡ (node_at nodes node).place
number_at [] node some less = absurd (omega (arith, less))
number_at (n ∷ ns) zero some less = absurd (omega (arith, some))
number_at (n ∷ ns) (suc m) some less =
    (let same : suc m - 1 ≡ m = omega arith in
    ap (slice_index (map place_of_node ns)) same ∙ get_or-map place_of_node ns m zero_node 0 (omega (arith, less)))

-- The arguments of a place have nodes of their own, which are those of their roots.
pub own_arguments : (c : Contents) (covered : Covered) (place : ℕ) (arguments : List ℕ) (values : List Value) → IsWave c
    → IsInReach c place → IsRuleIn c place arguments values → CoversBeforeIn c covered place
    → AllByRecursion (HasOwnNode covered) arguments
own_arguments c covered place arguments values wave reach rests before =
    among_all (HasOwnNode covered) arguments (λ k at.
    (let is = covered_at c covered place k arguments values wave reach rests before at in
    (before.each k is.0.first is.0.below).some is.1))

abbrev IsRootIn : Contents → Covered → ℕ → Type 0
IsRootIn c covered k = root_of (job c) (certain c.written) k ≡ record {
  place = slice_index (numbers_of covered.nodes.now) (covered_root covered k).node;
  inverted = (covered_root covered k).inverted;
}

argument_roots : (c : Contents) (covered : Covered) (place : ℕ) (arguments : List ℕ) (values : List Value) → IsWave c
    → IsInReach c place → IsRuleIn c place arguments values → CoversBeforeIn c covered place
    → AllByRecursion (IsRootIn c covered) arguments
argument_roots c covered place arguments values wave reach rests before =
    among_all (IsRootIn c covered) arguments (λ k at.
    (let is = covered_at c covered place k arguments values wave reach rests before at in
    let literal : LiteralView = covered_literal covered k in
    let holds = before.each k is.0.first is.0.below in
    holds.root is.1 ∙ ap (λ p. record { place = p; inverted = literal.inverted })
    (sym (number_at covered.nodes.now literal.node (holds.some is.1) is.0.node))))

mapped_before : (covered : Covered) (n : ℕ) (places : List ℕ) → AllByRecursion (IsCovered covered) places
    → AllByRecursion (HasOwnNode covered) places → n ≡ length covered.nodes.now - 1
    → AllByRecursion (λ root. node_in root < n) (map (covered_root covered) places)
mapped_before covered n [] all own is = tt
mapped_before covered n (p ∷ ps) all own is =
    ((let low = all.0.node in let some = own.0 in omega (arith, low, some, is)), mapped_before covered n ps all.1 own.1 is)

rooted_at : (c : Contents) (covered : Covered) (place : ℕ) (arguments : List ℕ) (values : List Value)
    (roots : List NodeRoot) → IsWave c → IsInReach c place → IsRuleIn c place arguments values
    → CoversBeforeIn c covered place → AreBefore covered place → roots ≡ map (covered_root covered) arguments
    → IsRooted c (numbers_of covered.nodes.now) place roots values
rooted_at c covered place arguments values roots wave reach rests before after is =
    subst (λ (rs : List NodeRoot). IsRooted c (numbers_of covered.nodes.now) place rs values) (sym is) (record {
      reach = reach;
      free = rests.free;
      after = after;
      before = mapped_before covered (length (numbers_of covered.nodes.now)) arguments
          (covered_arguments c covered place arguments values wave reach rests before)
          (own_arguments c covered place arguments values wave reach rests before) (numbers_long covered.nodes.now);
      long = long ∙ ap length rests.are_essential;
      are_roots = λ k less.
          (let near : k < length arguments = omega (arith, less, long) in
          let here : node_root_at (map (covered_root covered) arguments) k ≡ covered_root covered (slice_index arguments k) =
          get_or-map (covered_root covered) arguments k 0 no_node_root near in
          ap (λ xs. root_of (job c) (certain c.written) (slice_index xs k)) (sym rests.are_essential)
          ∙ all_at (IsRootIn c covered) arguments k
          (argument_roots c covered place arguments values wave reach rests before) near
          ∙ ap (λ (r : NodeRoot). record { place = slice_index (numbers_of covered.nodes.now) r.node; inverted = r.inverted }) (sym here));
      values_long = rests.is_table.long ∙ ap (λ n. 2 ^ n) (sym long);
      are_values = λ bits. values_are (job c) wave.fits.fits_job (certain c.written) place values reach.within
          (essential_table c place arguments values rests).are_values bits;
    })
  where
    long : length (map (covered_root covered) arguments) ≡ length arguments
    long = length-map arguments (covered_root covered)

pub are_roots : (c : Contents) (covered : Covered) (place : ℕ) (arguments : List ℕ) (values : List Value)
    (roots : List NodeRoot) → IsWave c → IsInReach c place → IsRuleIn c place arguments values
    → CoversBeforeIn c covered place → AreBefore covered place → roots ≡ map (covered_root covered) arguments
    → AreRootsIn c covered.nodes.now place roots values
are_roots c covered place arguments values roots wave reach rests before after is = record {
  few = (let long = ap length is ∙ length-map arguments (covered_root covered) in let few = rests.few in omega (arith, long, few));
  rooted = rooted_at c covered place arguments values roots wave reach rests before after is;
}
