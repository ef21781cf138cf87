-- The certificate has no turns, and then it is upgraded.
use Rattle.base_run.specs.Prepared.{answer_of}
use Rattle.base_run.proofs.Then.{judged_then}
use Rattle.cmd_program.specs.Upgrade.{upgrade_values, checked_upgrade}
use Rattle.cmd_phases.specs.Certificate.{FormComes}
use Rattle.cmd_phases.specs.Phases.{nothing_in, uncertified_cause}
use Rattle.cmd_program.proofs.upgraded.upgraded.Goals as goal

pub returns : goal.returns
returns c =
    judged_then (FormComes c.args.cert) uncertified_cause (λ (plain : Unit {0}). checked_upgrade (upgrade_values c.args.words.now) c.args.agreed.now.parts c.args.cert)
    nothing_in answer_of c.in_ok-without_turns.field-0 c.with_turns.result c.in_ok-without_turns.ensures c.with_turns.ensures
