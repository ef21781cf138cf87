-- The root is at the place of the literal's node.
use Rattle.std.proofs.Common.{◌≡◌, ◌<◌, ◌∙◌, ℕ, List, ap, refl, subst, sym}
use Rattle.design_circuit.specs.Fits.{place_at}
use Rattle.design_circuit.specs.Job.{Job, places_of}
use Rattle.wave_proved.specs.Contents.{job}
use Rattle.decide_lane_nodes.specs.Literal.{literal_in}
use Rattle.decide_lane_nodes.specs.Nodes.{NodeView, node_at}
use Rattle.decide_lanes.specs.Roots.{place_of}
use Rattle.decide_lanes.proofs.RootedPlaces.{place_there, root_there}
use Rattle.decide_lanes.proofs.lanes.Lanes.covered_root.Goals as goal

pub place_of-root-requires : goal.place_of-root-requires
place_of-root-requires c = record {
  within =
      let wave = c.args.wave.now in
      let lanes = c.args.self.now in
      let literal = c.literal_at-literal.result in
      let literal_is : literal ≡ literal_in lanes.first lanes.literals c.args.number =
      c.literal_at-literal.ensures ∙ rw (c.covered-covered.ensures.first, c.covered-covered.ensures.literals) refl in
      let is : c.place.result ≡ place_of lanes literal.node =
      c.place.ensures ∙ ap (λ (k : ℕ). (node_at c.covered-covered.result.nodes.now k).place) c.node.ensures.node
      ∙ ap (λ (ns : List NodeView). (node_at ns literal.node).place) c.covered-covered.ensures.nodes in
      subst (λ (j : Job). c.place.result < places_of j) (sym c.circuit-circuit.ensures.job)
      (rw is (place_there wave lanes c.args.place c.args.number literal c.circuit-circuit.ensures.wave c.requires.right
      c.requires.written c.requires.number c.requires.uncertain c.requires.first c.requires.below literal_is));
}

pub returns : goal.returns
returns c =
    let wave = c.args.wave.now in
    let lanes = c.args.self.now in
    let literal = c.literal_at-literal.result in
    let literal_is : literal ≡ literal_in lanes.first lanes.literals c.args.number =
    c.literal_at-literal.ensures ∙ rw (c.covered-covered.ensures.first, c.covered-covered.ensures.literals) refl in
    let is : c.place.result ≡ place_of lanes literal.node =
    c.place.ensures ∙ ap (λ (k : ℕ). (node_at c.covered-covered.result.nodes.now k).place) c.node.ensures.node
    ∙ ap (λ (ns : List NodeView). (node_at ns literal.node).place) c.covered-covered.ensures.nodes in
    rw (c.node-2.ensures.node, c.is_inverted.ensures) (root_there wave lanes c.args.place c.args.number literal
    c.circuit-circuit.ensures.wave c.requires.right c.requires.written c.requires.number c.requires.uncertain
    c.requires.first c.requires.below literal_is c.place_of-root.result
    (c.place_of-root.ensures ∙ ap (λ (j : Job). place_at j c.place.result) c.circuit-circuit.ensures.job
    ∙ ap (place_at (job wave)) is))
