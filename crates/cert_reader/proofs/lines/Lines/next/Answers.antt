-- A line ends at the first newline.
use Rattle.cert_reader.proofs.StepLaws.{line_taken, no_line_taken}
use Rattle.cert_reader.proofs.lines.Lines.next.Goals as goal

pub returns-in-Some-clause-ok : goal.returns-in-Some-clause-ok
returns-in-Some-clause-ok c =
    line_taken c.args.self.now c.self.inside.number c.self.inside.rest.now c.first_piece.result.0.now c.in-Some.rest.now c.self.view_is
    (rw c.in-Some.is at c.first_piece.ensures.pieces)

pub returns-in-None-clause-err : goal.returns-in-None-clause-err
returns-in-None-clause-err c =
    no_line_taken c.args.self.now c.self.inside.number c.self.inside.rest.now c.first_piece.result.0.now c.self.view_is
    (rw c.in-None.is at c.first_piece.ensures.pieces)
