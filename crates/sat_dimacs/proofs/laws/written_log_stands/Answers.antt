-- A log's own text.
use Rattle.std.proofs.Common.{arith}
use Rattle.sat_dimacs.proofs.OwnLaws.{written_log}
use Rattle.sat_dimacs.proofs.laws.written_log_stands.Goals as goal

pub returns : goal.returns
returns c = λ vars log few some fit. written_log vars log (omega (arith, few)) some fit
