-- Clauses that are read are over the variables.
use Rattle.sat_dimacs.specs.Lines.{words_from}
use Rattle.sat_dimacs.proofs.TextLaws.{fit_after}
use Rattle.sat_dimacs.proofs.read.read_clauses.Goals as goal

pub returns-clause-fit : goal.returns-clause-fit
returns-clause-fit c =
    fit_after c.args.vars c.args.count c.new-start.result c.in_ok-progress.progress
    (words_from c.args.kind c.args.lines.now.number c.args.lines.now.lines) c.number.result c.finish.result c.new-start.ensures
    c.in_ok-progress.ensures.reads c.finish.ensures
