-- The job agrees, and then comes the audit.
use Rattle.std.proofs.Common.{◌≡◌, Err, rules}
use Rattle.cmd_phases.proofs.Agreeing.{agreed_prepared, agreed_refused}
use Rattle.cmd_program.specs.Audit.{audit_values, walk_audited}
use Rattle.cmd_program.proofs.commands.audit.AuditRun.prepare.Goals as goal

pub returns-clause-prepared : goal.returns-clause-prepared
returns-clause-prepared g c =
    let w = audit_values c.args.self.now in
    agreed_prepared w.job (walk_audited w) c.in_ok-agreed.ensures (c.audited.ensures.prepared _ _)

pub returns-in_err-agreed-clause-prepared : goal.returns-in_err-agreed-clause-prepared
returns-in_err-agreed-clause-prepared g c =
    let w = audit_values c.args.self.now in
    let is : c.from_residual.result ≡ Err c.in_err-agreed.field-0.0 = search rules in
    agreed_refused w.job (walk_audited w) is c.in_err-agreed.ensures
