-- There is no word.
use Rattle.cert_reader.proofs.StepLaws.{before_none_at}
use Rattle.cert_reader.proofs.words.next_before.Goals as goal

pub returns-in-None-clause-reads : goal.returns-in-None-clause-reads
returns-in-None-clause-reads c = before_none_at c.args.words.now c.in-None.ensures.none
