-- A lexer is made with the tokens that its text has.
use Rattle.netlist_reader.proofs.reader.Reader.new.Goals as goal

pub returns-clause-told : goal.returns-clause-told
returns-clause-told c = (c.new-lexer.result, c.new-lexer.ensures.rules)
