-- A word is the mark, or begins a place.
use Rattle.cert_reader.proofs.StepLaws.{before_fails, before_grows, before_mark_at}
use Rattle.cert_reader.proofs.words.place_or_mark.Goals as goal

pub returns-then-is_word-clause-reads : goal.returns-then-is_word-clause-reads
returns-then-is_word-clause-reads c =
    before_mark_at c.args.word.now c.args.words.now c.is_word.result c.is_word.ensures c.if-is_word.true

pub returns-in-Ok-clause-reads : goal.returns-in-Ok-clause-reads
returns-in-Ok-clause-reads c =
    before_grows c.args.word.now c.args.words.now c.is_word.result c.in-Ok.place c.place_of_step.new.words c.is_word.ensures
    c.if-is_word.false c.in-Ok.ensures

pub returns-in-Err-clause-reads : goal.returns-in-Err-clause-reads
returns-in-Err-clause-reads c =
    before_fails c.args.word.now c.args.words.now c.is_word.result c.in-Err.e c.is_word.ensures c.if-is_word.false
    c.in-Err.ensures
