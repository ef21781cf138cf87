-- A token more is read.
use Rattle.std.proofs.Common.{◌≡◌, Option, Some, Ok, sym, ap, ◌∙◌, subst}
use Rattle.netlist_tokens.specs.Left.{Left, Tells, first}
use Rattle.netlist_tokens.specs.declared.token.Token.{Token}
use Rattle.replay_code.specs.Machine.{Next, run}
use Rattle.replay_code.specs.Says.{statements_of, stop_of}
use Rattle.replay_code.specs.View.{code_of}
use Rattle.replay_code.proofs.Runs.{run_more}
use Rattle.replay_code.proofs.Staying.{still_there}
use Rattle.replay_code.proofs.Steps.{begins}
use Rattle.replay_code.proofs.tokens.run_tokens.Goals as goal

pub tokens-init : goal.tokens-init
tokens-init c =
    let b = begins (code_of c.args.code) c.in_ok-progress.progress c.args.lexer.now c.in_ok-progress.ensures c.requires.design c.requires.times in
    record { run = b.whole; there = b.there; code = b.code; net = tt }

pub tokens-preserved : goal.tokens-preserved
tokens-preserved c =
    let n : Next = record { state = c.in_ok-state-in-Ok-Some.state; progress = c.step.new.progress } in
    let token : c.in-Ok-Some.field-0 ≡ Some c.in-Ok-Some.token = cc in
    let left : c.tokens.lexer ≡ first c.in-Ok-Some.token c.next_token.new.self = subst (λ (o : Option Token). Tells c.tokens.lexer (Ok o) c.next_token.new.self) token c.in-Ok-Some.ensures in
    let whole = statements_of (code_of c.args.code) c.args.lexer.now in
    let goes = still_there c.tokens.state c.tokens.progress c.in-Ok-Some.token n c.tokens.invariant.net c.tokens.invariant.there c.in_ok-state-in-Ok-Some.ensures in
    record {
      run = run_more c.tokens.state c.tokens.progress c.in-Ok-Some.token c.next_token.new.self.tokens (stop_of c.args.code.text.now c.next_token.new.self.fault) n whole c.in_ok-state-in-Ok-Some.ensures
          (sym (ap (λ (l : Left). run c.tokens.state c.tokens.progress l.tokens (stop_of c.args.code.text.now l.fault)) left) ∙ c.tokens.invariant.run);
      there = goes.there;
      code = goes.code ∙ c.tokens.invariant.code;
      net = goes.net;
    }
