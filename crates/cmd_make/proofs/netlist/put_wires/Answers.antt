-- A net more.
use Rattle.std.proofs.Common.{sym}
use Rattle.std.proofs.lemmas.List.{append-nil}
use Rattle.cmd_make.specs.Netlist.{wire_lines}
use Rattle.cmd_make.proofs.Growing.{grown, wire_more}
use Rattle.cmd_make.proofs.netlist.put_wires.Goals as goal

pub gates-init : goal.gates-init
unfolding wire_lines
gates-init c = sym (append-nil c.args.text.now.items)

pub gates-preserved : goal.gates-preserved
gates-preserved c = grown _ _ _ _ _ _ c.gates.invariant c.in_ok-put_wire.ensures (wire_more c.gates.gate)
