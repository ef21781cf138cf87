-- The places so far are those that are chosen of the sources so far.
use Rattle.std.proofs.Common.{◌≡◌, ◌∙◌, sym, take}
use Rattle.decide_nodes.specs.Lanes.{lane_of}
use Rattle.decide_nodes.specs.Nodes.{chosen, no_node}
use Rattle.decide_nodes.proofs.PickedLists.{chosen_more}
use Rattle.decide_nodes.proofs.lanes.chosen_places.Goals as goal

pub sources-preserved : goal.sources-preserved
sources-preserved c =
    let sources = c.args.sources.now in
    let bits = lane_of c.args.given.now c.args.lane in
    let before : c.sources.places.items ≡ chosen (take c.sources.source sources) bits = c.sources.invariant in
    let bit : c.in_lane-is_chosen.result ≡ bits c.sources.source =
    c.in_lane-is_chosen.ensures ∙ c.lane_bits_at.ensures c.args.lane c.requires in
    c.in_ok-add_if.ensures
    ∙ rw (before, bit) (sym (chosen_more sources bits c.sources.source no_node.place c.sources-test.true))
