-- A line that is no title.
use Rattle.cert_reader.proofs.StepLaws.{no_title}
use Rattle.cert_reader.proofs.read.title.Goals as goal

pub returns-in-None : goal.returns-in-None
returns-in-None c =
    no_title c.args.lines.now c.in_ok-line.line.now c.next.new.self c.number-number.result c.number-number.ensures
    c.in_ok-line.ensures.ok c.in-None.ensures
