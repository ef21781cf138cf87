-- A word is taken.
use Rattle.std.proofs.Common.{rules}
use Rattle.recording_reader.proofs.Scanned.{left_word}
use Rattle.recording_reader.proofs.words.next_word.Goals as goal

pub returns-then-not-is_white-clause-tells : goal.returns-then-not-is_white-clause-tells
returns-then-not-is_white-clause-tells c = left_word _ _ _ _ _ _ c.white.invariant.reads c.in-len1-up.len_at_least (let a = c.is_white.ensures in let b = c.if-not-is_white.true in search rules) c.split_word.ensures.within c.split_word.ensures.front c.split_word.ensures.back
