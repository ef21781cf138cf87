-- What the machine says is what the definitions say.
use Rattle.sat_dimacs.proofs.FaultLaws.{log_refused}
use Rattle.sat_dimacs.proofs.OwnLaws.{own_log}
use Rattle.sat_dimacs.proofs.TextLaws.{log_first, log_found, log_only}
use Rattle.sat_dimacs.proofs.read.read_log.Goals as goal

pub returns-clause-found : goal.returns-clause-found
returns-clause-found c = log_found c.args.bytes.now c.args.vars c.read_clauses_of_log.result c.read_clauses_of_log.ensures.reads

pub returns-clause-only : goal.returns-clause-only
returns-clause-only c = log_only c.args.bytes.now c.args.vars c.read_clauses_of_log.result c.read_clauses_of_log.ensures.reads

pub returns-clause-own : goal.returns-clause-own
returns-clause-own c =
    own_log c.args.bytes.now c.args.vars c.read_clauses_of_log.result c.ranges.vars.fits
    (log_only c.args.bytes.now c.args.vars c.read_clauses_of_log.result c.read_clauses_of_log.ensures.reads)

pub returns-clause-first : goal.returns-clause-first
returns-clause-first c = log_first c.args.bytes.now c.args.vars c.read_clauses_of_log.result c.read_clauses_of_log.ensures.reads

pub returns-clause-refused : goal.returns-clause-refused
returns-clause-refused c = log_refused c.args.bytes.now c.args.vars c.read_clauses_of_log.result c.read_clauses_of_log.ensures.reads
