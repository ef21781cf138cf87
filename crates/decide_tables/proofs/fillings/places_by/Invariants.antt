-- The places so far are those that the number lists of the places so far.
use Rattle.std.proofs.Common.{◌≡◌, take}
use Rattle.decide_nodes.specs.Nodes.{chosen, number_bits}
use Rattle.decide_tables.proofs.fillings.places_by.Given as goal

abbrev pub invariant-places : goal.invariant-places
invariant-places l = l.places.items ≡ chosen (take l.index l.list) (number_bits l.number)
