-- All that is told from the first byte on is by the rules, and nothing else is.
use Rattle.std.proofs.Common.{sym, arith}
use Rattle.netlist_tokens.proofs.Told.{left_sound, left_follows, ascends, spans, count}
use Rattle.netlist_tokens.proofs.lexer.Lexer.new.Goals as goal

pub returns-clause-rules : goal.returns-clause-rules
returns-clause-rules c = left_sound 0 c.args.bytes.now

pub returns-clause-one : goal.returns-clause-one
returns-clause-one c = λ told d. sym (left_follows d)

pub returns-clause-ascend : goal.returns-clause-ascend
returns-clause-ascend c = ascends (left_sound 0 c.args.bytes.now)

pub returns-clause-spans : goal.returns-clause-spans
returns-clause-spans c = spans _ (omega arith) (left_sound 0 c.args.bytes.now)

pub returns-clause-count : goal.returns-clause-count
returns-clause-count c = count (left_sound 0 c.args.bytes.now)
