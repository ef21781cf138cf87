-- The law.
use Rattle.law_along.proofs.Fitted.{logs_along_fit}
use Rattle.law_along.proofs.laws.logs_along_lines_fit.Goals as goal

pub returns : goal.returns
returns c = logs_along_fit
