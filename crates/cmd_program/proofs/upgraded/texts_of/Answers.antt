-- The forces are those of what the wave shows.
use Rattle.std.proofs.Common.{rules}
use Rattle.cmd_program.specs.Upgrade.{upgrade_values}
use Rattle.cmd_program.proofs.TextsOf.{upgrade_texts}
use Rattle.cmd_program.proofs.Walk.{forces_are}
use Rattle.cmd_program.proofs.upgraded.texts_of.Goals as goal

pub returns : goal.returns
returns c =
    upgrade_texts (upgrade_values c.args.words.now) c.args.agreed.now.parts c.args.wave.now c.args.conditions.now
    c.in_ok-forces.forces c.in_ok-cert.cert.items c.in_ok-report.report.items _
    (forces_are c.args.wave.now c.in_ok-forces.forces c.in_ok-forces.ensures) c.in_ok-cert.ensures c.in_ok-report.ensures (search rules)
