-- What is left decides, behind the pins so far.
use Rattle.std.proofs.Common.{◌≡◌, [], drop, length}
use Rattle.elab_gates.specs.Primitives.{connected_pins}
use Rattle.elab_gates.proofs.primitives.connect_pins.Given as goal

abbrev pub invariant-inputs : goal.invariant-inputs
invariant-inputs l = record {
  pins : connected_pins l.at [] l.inputs l.fn.here ≡ connected_pins l.at l.pins.items (drop l.input-index l.inputs) l.here;
  count : length l.pins.items ≡ l.input-index;
}
