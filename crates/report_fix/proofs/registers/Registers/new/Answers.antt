-- One net more.
use Rattle.std.proofs.Common.{◌<◌, length, rules}
use Rattle.report_fix.proofs.NamedRegisters.{registers_more}
use Rattle.report_fix.proofs.registers.Registers.new.Goals as goal

pub nets-preserved : goal.nets-preserved
nets-preserved c =
    let within : c.nets.number < length c.args.design.now.nets = search rules in
    registers_more c.args.design.now c.nets.nets.entries c.add_net.new.nets.entries c.nets.number within c.nets.invariant
    c.in_ok-add_net.ensures
