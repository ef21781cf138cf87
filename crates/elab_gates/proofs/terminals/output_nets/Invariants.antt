-- What is left decides, behind the nets so far.
use Rattle.std.proofs.Common.{◌≡◌, [], drop}
use Rattle.elab_gates.specs.Terminals.{output_nets}
use Rattle.elab_gates.proofs.terminals.output_nets.Given as goal

abbrev pub invariant-outputs : goal.invariant-outputs
invariant-outputs l = output_nets [] l.outputs l.fn.here ≡ output_nets l.numbers.items (drop l.output-index l.outputs) l.here
