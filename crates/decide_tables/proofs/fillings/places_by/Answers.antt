-- One place more, if the number has its bit.
use Rattle.std.proofs.Common.{◌≡◌, ◌∙◌, sym, take}
use Rattle.decide_nodes.specs.Nodes.{chosen, no_node, number_bits}
use Rattle.decide_nodes.proofs.PickedLists.{chosen_more}
use Rattle.decide_tables.proofs.fillings.places_by.Goals as goal

pub places-preserved : goal.places-preserved
places-preserved c =
    let list = c.args.list.now in
    let bits = number_bits c.args.number in
    let before : c.places.places.items ≡ chosen (take c.places.index list) bits = c.places.invariant in
    c.in_ok-add_if.ensures
    ∙ rw (before, c.bit_of.ensures) (sym (chosen_more list bits c.places.index no_node.place c.places-test.true))
