-- What the machine says is what the definitions say.
use Rattle.sat_dimacs.proofs.FaultLaws.{cnf_refused}
use Rattle.sat_dimacs.proofs.OwnLaws.{own_cnf}
use Rattle.sat_dimacs.proofs.TextLaws.{cnf_first, cnf_found, cnf_only}
use Rattle.sat_dimacs.proofs.read.read_cnf.Goals as goal

pub returns-clause-found : goal.returns-clause-found
returns-clause-found c = cnf_found c.args.bytes.now c.read_formula.result c.read_formula.ensures.ok

pub returns-clause-only : goal.returns-clause-only
returns-clause-only c = cnf_only c.args.bytes.now c.read_formula.result c.read_formula.ensures.ok c.read_formula.ensures.err

pub returns-clause-own : goal.returns-clause-own
returns-clause-own c =
    own_cnf c.args.bytes.now c.read_formula.result
    (cnf_only c.args.bytes.now c.read_formula.result c.read_formula.ensures.ok c.read_formula.ensures.err)

pub returns-clause-first : goal.returns-clause-first
returns-clause-first c = cnf_first c.args.bytes.now c.read_formula.result c.read_formula.ensures.err

pub returns-clause-refused : goal.returns-clause-refused
returns-clause-refused c = cnf_refused c.args.bytes.now c.read_formula.result c.read_formula.ensures.ok c.read_formula.ensures.err
