-- The job agrees, and then comes the fix.
use Rattle.std.proofs.Common.{◌≡◌, Err, rules}
use Rattle.cmd_phases.proofs.Agreeing.{agreed_prepared, agreed_refused}
use Rattle.cmd_program.specs.Fix.{fix_values, set_phases}
use Rattle.cmd_program.proofs.commands.fix.FixRun.prepare.Goals as goal

pub returns-clause-prepared : goal.returns-clause-prepared
returns-clause-prepared g c =
    let w = fix_values c.args.self.now in
    agreed_prepared w.job (set_phases w) c.in_ok-agreed.ensures (c.fixed.ensures.prepared _ _)

pub returns-in_err-agreed-clause-prepared : goal.returns-in_err-agreed-clause-prepared
returns-in_err-agreed-clause-prepared g c =
    let w = fix_values c.args.self.now in
    let is : c.from_residual.result ≡ Err c.in_err-agreed.field-0.0 = search rules in
    agreed_refused w.job (set_phases w) is c.in_err-agreed.ensures
