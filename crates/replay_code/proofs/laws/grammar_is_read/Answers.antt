-- The grammar and the machine say the same.
use Rattle.replay_code.proofs.GrammarRead.{grammar_is_read}
use Rattle.replay_code.proofs.laws.grammar_is_read.Goals as goal

pub returns : goal.returns
returns c = grammar_is_read
