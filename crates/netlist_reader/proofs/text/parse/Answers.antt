-- A text is read as the run over its tokens.
use Rattle.netlist_grammar.proofs.Theorem.{found_is, whole_is, only_is, first_is}
use Rattle.netlist_reader.proofs.text.parse.Goals as goal

pub returns-clause-found : goal.returns-clause-found
returns-clause-found c =
    let said = c.new-tokens.ensures in found_is c.args.bytes.now said.told c.source.result (λ told tokens. rw (said.tokens told tokens) at c.source.ensures)

pub returns-clause-whole : goal.returns-clause-whole
returns-clause-whole c =
    let said = c.new-tokens.ensures in whole_is c.args.bytes.now said.told c.source.result (λ told tokens. rw (said.tokens told tokens) at c.source.ensures)

pub returns-clause-only : goal.returns-clause-only
returns-clause-only c =
    let said = c.new-tokens.ensures in only_is c.args.bytes.now said.told c.source.result (λ told tokens. rw (said.tokens told tokens) at c.source.ensures)

pub returns-clause-first : goal.returns-clause-first
returns-clause-first c =
    let said = c.new-tokens.ensures in first_is c.args.bytes.now said.told c.source.result (λ told tokens. rw (said.tokens told tokens) at c.source.ensures)
