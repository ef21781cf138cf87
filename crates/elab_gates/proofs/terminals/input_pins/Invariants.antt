-- What is left decides, behind the pins so far.
use Rattle.std.proofs.Common.{◌≡◌, [], drop}
use Rattle.elab_gates.specs.Terminals.{input_pins}
use Rattle.elab_gates.proofs.terminals.input_pins.Given as goal

abbrev pub invariant-inputs : goal.invariant-inputs
invariant-inputs l = input_pins [] l.inputs l.fn.here ≡ input_pins l.pins.items (drop l.input-index l.inputs) l.here
