-- No word is left, or one is a literal, or it is none.
use Rattle.std.proofs.Common.{rules, w32}
use Rattle.std.proofs.lemmas.Int.{to_z-of_z}
use mir.Val.{SFits}
use Rattle.cert_reader.proofs.StepLaws.{log_grows, log_over_at, log_wrong}
use Rattle.cert_reader.proofs.logs.next_literal.Goals as goal

pub returns-in-None-clause-reads : goal.returns-in-None-clause-reads
returns-in-None-clause-reads c = log_over_at c.args.words.now c.in-None.ensures.none

pub returns-in-None-literal_of_word-clause-reads : goal.returns-in-None-literal_of_word-clause-reads
returns-in-None-literal_of_word-clause-reads c =
    log_wrong c.args.words.now c.in-Some.word.now c.next.new.self c.in-Some.ensures.none c.in-None-literal_of_word.ensures

pub returns-in-Some-literal_of_word-clause-reads : goal.returns-in-Some-literal_of_word-clause-reads
returns-in-Some-literal_of_word-clause-reads c =
    let fits : SFits w32 c.in-Some-literal_of_word.literal = search rules in
    rw (to_z-of_z w32 c.in-Some-literal_of_word.literal fits)
    (log_grows c.args.words.now c.in-Some.word.now c.next.new.self c.in-Some-literal_of_word.literal c.in-Some.ensures.none
    c.in-Some-literal_of_word.ensures)
