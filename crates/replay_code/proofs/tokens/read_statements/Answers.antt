-- A refusal is the text's first fault.
use Rattle.replay_code.specs.View.{code_of}
use Rattle.replay_code.proofs.Runs.{reads_first}
use Rattle.replay_code.proofs.tokens.read_statements.Goals as goal

pub returns-clause-first : goal.returns-clause-first
returns-clause-first c = reads_first (code_of c.args.code) c.new-lexer.result c.run_tokens.result c.new-lexer.ensures.rules c.run_tokens.ensures.reads
