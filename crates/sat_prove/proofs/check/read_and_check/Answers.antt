-- The formula's text fails, or the log's, or the log.
use Rattle.sat_prove.specs.Proof.{IsProofFault, err_of_text}
use Rattle.sat_prove.proofs.OneProof.{clause_fails, handed_on, log_fails, text_fails}
use Rattle.sat_prove.proofs.check.read_and_check.Goals as goal

pub returns-in_err-formula-clause-fault : goal.returns-in_err-formula-clause-fault
returns-in_err-formula-clause-fault c =
    handed_on (IsProofFault c.args.cnf.now c.args.log.now) c.from_residual.result (err_of_text c.in_err-formula.field-0.0) c.from_residual.ensures.1
    (text_fails c.args.cnf.now c.args.log.now c.in_err-formula.field-0.0 c.in_err-formula.ensures.first)

pub returns-in_err-lines-clause-fault : goal.returns-in_err-lines-clause-fault
returns-in_err-lines-clause-fault c =
    handed_on (IsProofFault c.args.cnf.now c.args.log.now) c.from_residual-in_err-lines.result (err_of_text c.in_err-lines.field-0.0) c.from_residual-in_err-lines.ensures.1
    (log_fails c.args.cnf.now c.args.log.now c.in_ok-formula.formula.vars c.in_ok-formula.formula.clauses c.in_err-lines.field-0.0
    c.in_ok-formula.ensures.found c.in_err-lines.ensures.first)

pub returns-clause-fault : goal.returns-clause-fault
returns-clause-fault c =
    clause_fails c.args.cnf.now c.args.log.now c.in_ok-formula.formula.vars c.in_ok-formula.formula.clauses c.in_ok-lines.lines
    c.in_ok-formula.ensures.found c.in_ok-lines.ensures.found c.check_log.result c.check_log.ensures.fault
