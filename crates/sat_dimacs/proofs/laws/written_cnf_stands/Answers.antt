-- A formula's own text.
use Rattle.sat_dimacs.proofs.OwnLaws.{written_cnf}
use Rattle.sat_dimacs.proofs.laws.written_cnf_stands.Goals as goal

pub returns : goal.returns
returns c = written_cnf
