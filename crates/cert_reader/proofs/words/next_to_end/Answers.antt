-- No word is left, or one begins a place.
use Rattle.cert_reader.proofs.StepLaws.{to_end_fails, to_end_grows, to_end_over}
use Rattle.cert_reader.proofs.words.next_to_end.Goals as goal

pub returns-in-None-clause-reads : goal.returns-in-None-clause-reads
returns-in-None-clause-reads c = to_end_over c.args.words.now c.in-None.ensures.none

pub returns-in-Ok-clause-reads : goal.returns-in-Ok-clause-reads
returns-in-Ok-clause-reads c =
    to_end_grows c.args.words.now c.in-Some.word.now c.next.new.self c.in-Ok.place c.place_of_step.new.words c.in-Some.ensures.none
    c.in-Ok.ensures

pub returns-in-Err-clause-reads : goal.returns-in-Err-clause-reads
returns-in-Err-clause-reads c =
    to_end_fails c.args.words.now c.in-Some.word.now c.next.new.self c.in-Err.e c.in-Some.ensures.none c.in-Err.ensures
