-- What is left to read leads to the whole.
use Rattle.std.proofs.Common.{◌≡◌, length}
use Rattle.replay_code.specs.Going.{HasNet, IsThere}
use Rattle.replay_code.specs.Machine.{run}
use Rattle.replay_code.specs.Says.{statements_of, stop_of}
use Rattle.replay_code.specs.View.{code_of}
use Rattle.replay_code.proofs.tokens.run_tokens.Given as goal

abbrev pub invariant-tokens : goal.invariant-tokens
invariant-tokens l = record {
  run : run l.state l.progress l.lexer.tokens (stop_of l.code.text.now l.lexer.fault) ≡ statements_of (code_of l.code) l.fn.lexer;
  there : IsThere l.progress;
  code : l.progress.code ≡ code_of l.code;
  net : HasNet l.progress.code l.state;
}

abbrev pub decreases-tokens : goal.decreases-tokens
decreases-tokens l = length l.lexer.tokens
