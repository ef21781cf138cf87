-- What is read is what the grammar says of the text, and the changes that events make are events of the job.
use Rattle.std.proofs.Common.{Ok, rules, subst, sym}
use Rattle.design_circuit.specs.Force.{AreEvents, forced_by}
use Rattle.design_circuit.specs.Circuit.{job_in}
use Rattle.replay_forces.proofs.Forced.{are_events}
use Rattle.replay_code.specs.Code.{code_in}
use Rattle.replay_code.proofs.GrammarRead.{is_read, read_says}
use Rattle.replay_code.proofs.OwnCode.{own_is_read}
use Rattle.replay_code.proofs.read.read_code.Goals as goal

pub returns-clause-found : goal.returns-clause-found
returns-clause-found c =
    let said = code_in c.args.bytes.now c.args.circuit.now c.args.scope.now in
    read_says said c.in_ok-statements.statements.items c.in_ok-changes_of.field-0 c.requires c.read_statements.ensures.some c.in_ok-statements.ensures.reads (search rules)

pub returns-clause-only : goal.returns-clause-only
returns-clause-only c =
    let said = code_in c.args.bytes.now c.args.circuit.now c.args.scope.now in
    is_read said (Ok c.in_ok-changes_of.field-0) (search rules)

pub returns-in_err-statements-clause-only : goal.returns-in_err-statements-clause-only
returns-in_err-statements-clause-only c =
    let said = code_in c.args.bytes.now c.args.circuit.now c.args.scope.now in
    is_read said c.from_residual.result (search rules)

pub returns-clause-events : goal.returns-clause-events
returns-clause-events c =
    let j = job_in c.args.circuit.now in
    subst (AreEvents j) (sym c.in_ok-changes_of.ensures) (are_events j c.args.circuit.now.fits.fits_job (forced_by j c.as_slice.result.now))

pub returns-in_err-statements-clause-own : goal.returns-in_err-statements-clause-own
returns-in_err-statements-clause-own c =
    let said = code_in c.args.bytes.now c.args.circuit.now c.args.scope.now in
    own_is_read said c.from_residual.result c.args.circuit.now.fits c.requires (is_read said c.from_residual.result (search rules))

pub returns-clause-own : goal.returns-clause-own
returns-clause-own c =
    let said = code_in c.args.bytes.now c.args.circuit.now c.args.scope.now in
    own_is_read said (Ok c.in_ok-changes_of.field-0) c.args.circuit.now.fits c.requires (is_read said (Ok c.in_ok-changes_of.field-0) (search rules))
