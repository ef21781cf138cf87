-- The places that are read are the boundary of the cone.
use Rattle.std.proofs.Common.{◌≡◌, ◌∙◌, ◌<◌, ℕ, List, ap, arith, length, slice_index, slice_index_or, subst, sym}
use Rattle.std.specs.List.{AllByRecursion}
use Rattle.std.specs.List.Sorted.{IsStrictlyIncreasing}
use Rattle.std.proofs.lemmas.List.{get_or_default, length-map}
use Rattle.design_circuit.specs.Circuit.{job_in}
use Rattle.design_circuit.specs.Job.{Job}
use Rattle.wave_proved.specs.Contents.{job}
use Rattle.decide_graph.specs.Reached.{AddsAll}
use Rattle.decide_nodes.specs.declared.node.Node.{Node}
use Rattle.decide_nodes.specs.Nodes.{no_node, node_at}
use Rattle.decide_nodes.specs.Traced.{cone_in}
use Rattle.decide_cone.specs.Boundary.{IsPlaceIn, number_in, read_in}
use Rattle.decide_graph.specs.InWave.{IsInReach}
use Rattle.decide_cone.proofs.BoundaryPlaces.{as_many, cone_rising, falling, nodes_placed, nodes_read, numbers_are, position_reach}
use Rattle.decide_cone.proofs.outside.falling_boundary.Goals as goal

pub numbers_of-requires : goal.numbers_of-requires
numbers_of-requires c = record {
  places =
      subst (λ (k : Job). AllByRecursion (IsPlaceIn k) c.nodes-nodes.result.now) (sym c.circuit-circuit.ensures.job)
      (subst (AllByRecursion (IsPlaceIn (job c.args.wave.now))) (sym c.nodes-nodes.ensures.nodes)
      (nodes_placed c.args.wave.now c.requires.root c.args.cone.now.nodes c.requires.is));
}

pub add_read-requires-clause-reach : goal.add_read-requires-clause-reach
add_read-requires-clause-reach c =
    let w = c.args.wave.now in
    let nodes = c.args.cone.now.nodes in
    let seen : c.as_slice.result.now ≡ cone_in w c.requires.root = c.as_slice.ensures.value
    ∙ numbers_are w c.requires.root nodes c.requires.is c.in_ok-numbers.numbers.items (job_in c.circuit-circuit.result)
    c.nodes-nodes.result.now c.in_ok-numbers.ensures c.circuit-circuit.ensures.job c.nodes-nodes.ensures.nodes in
    let less : c.nodes.position < length (cone_in w c.requires.root) =
    omega (arith, c.nodes-test.true, ap length c.nodes-nodes.ensures.nodes, as_many w c.requires.root nodes c.requires.is) in
    subst (λ (ks : List ℕ). IsInReach w (slice_index ks c.nodes.position)) (sym seen)
    (position_reach w c.requires.root nodes c.requires.is c.nodes.position less)

pub add_read-requires-clause-rising : goal.add_read-requires-clause-rising
add_read-requires-clause-rising c =
    let w = c.args.wave.now in
    let nodes = c.args.cone.now.nodes in
    let seen : c.as_slice.result.now ≡ cone_in w c.requires.root = c.as_slice.ensures.value
    ∙ numbers_are w c.requires.root nodes c.requires.is c.in_ok-numbers.numbers.items (job_in c.circuit-circuit.result)
    c.nodes-nodes.result.now c.in_ok-numbers.ensures c.circuit-circuit.ensures.job c.nodes-nodes.ensures.nodes in
    subst IsStrictlyIncreasing (sym seen) (cone_rising w c.requires.root nodes c.requires.is)

pub nodes-preserved : goal.nodes-preserved
nodes-preserved c =
    let w = c.args.wave.now in
    let nodes = c.args.cone.now.nodes in
    let i : ℕ = c.nodes.position in
    let node : Node = slice_index_or c.nodes-nodes.result.now i c.index-nodes-position.result in
    let same = numbers_are w c.requires.root nodes c.requires.is c.in_ok-numbers.numbers.items
    (job_in c.circuit-circuit.result) c.nodes-nodes.result.now c.in_ok-numbers.ensures c.circuit-circuit.ensures.job
    c.nodes-nodes.ensures.nodes in
    let less : i < length nodes = omega (arith, c.nodes-test.true, ap length c.nodes-nodes.ensures.nodes) in
    let node_is : node ≡ node_at nodes i =
    get_or_default c.nodes-nodes.result.now i c.index-nodes-position.result no_node c.nodes-test.true
    ∙ ap (λ (ns : List Node). node_at ns i) c.nodes-nodes.ensures.nodes in
    nodes_read w c.requires.root nodes c.requires.is c.in_ok-numbers.numbers.items c.nodes.reached
    c.add_read.new.reached i node same less node_is c.nodes.invariant
    (subst (λ (ks : List ℕ). AddsAll c.nodes.reached (read_in w ks node.body (slice_index ks i)) c.add_read.new.reached)
    c.as_slice.ensures.value c.in_ok-add_read.ensures)

pub returns : goal.returns
returns c =
    let w = c.args.wave.now in
    let nodes = c.args.cone.now.nodes in
    let numbers = c.in_ok-numbers.numbers.items in
    let past = c.nodes-test.false in
    let end = c.nodes.auto.position-end in
    let whole : c.nodes.position ≡ length numbers = omega (
      arith,
      past,
      end,
      ap length c.in_ok-numbers.ensures,
      length-map c.nodes-nodes.result.now (number_in (job_in c.circuit-circuit.result)),
    ) in
    falling c.taken_of.result w nodes c.requires.root c.requires.is numbers c.nodes.reached c.nodes.position
    (λ root is. numbers_are w root nodes is numbers (job_in c.circuit-circuit.result)
    c.nodes-nodes.result.now c.in_ok-numbers.ensures c.circuit-circuit.ensures.job c.nodes-nodes.ensures.nodes)
    whole c.nodes.invariant c.taken_of.ensures
