-- A blank history is handed in, which no place contradicts.
use Rattle.std.proofs.Common.{inr}
use Rattle.cmd_program.proofs.Auditing.{blank_refused}
use Rattle.cmd_program.proofs.audited.blank_wave.Goals as goal

pub wave_under-requires-clause-handed : goal.wave_under-requires-clause-handed
wave_under-requires-clause-handed g c = inr c.requires.blank

pub returns-clause-refused : goal.returns-clause-refused
returns-clause-refused g c =
    blank_refused c.args.limits c.args.agreed.now.parts.netlist c.args.agreed.now.parts.recorded c.args.blank.now c.requires.blank
    c.wave_under.result c.wave_under.ensures.refused
