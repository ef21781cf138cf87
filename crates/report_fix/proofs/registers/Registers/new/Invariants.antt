-- The registers among the nets so far.
use Rattle.std.proofs.Common.{take}
use Rattle.report_fix.specs.Registers.{ListsRegisters}
use Rattle.report_fix.proofs.registers.Registers.new.Given as goal

abbrev pub invariant-nets : goal.invariant-nets
invariant-nets l = ListsRegisters l.nets.entries (take l.number l.design.nets)
