-- What is left decides.
use Rattle.std.proofs.Common.{◌≡◌, drop}
use Rattle.elab_gates.specs.Gates.{cell, each_with}
use Rattle.elab_gates.proofs.gates.set_each.Given as goal

abbrev pub invariant-outputs : goal.invariant-outputs
invariant-outputs l = each_with l.outputs (cell l.gate l.pins) l.fn.nets ≡ each_with (drop l.net-index l.outputs) (cell l.gate l.pins) l.nets
