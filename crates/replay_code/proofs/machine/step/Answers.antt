-- The last word.
use Rattle.std.proofs.Common.{ℕ, List, codes, ap, subst, sym}
use Rattle.replay_code.specs.Going.{Goes, Steps}
use Rattle.replay_code.specs.Machine.{Progress, step}
use Rattle.replay_code.specs.Words.{is_word}
use Rattle.replay_code.specs.declared.state.State.{State}
use Rattle.replay_code.specs.declared.state.State.TheVariants.{Done}
use Rattle.replay_code.proofs.Steps.{goes_on}
use Rattle.replay_code.proofs.machine.step.Goals as goal

pub returns-in-Tail : goal.returns-in-Tail
returns-in-Tail c =
    let p = c.args.progress.now in
    let text = ap (λ (q : Progress). q.code.text) c.progress.view_is in
    let goes = subst (λ (l : List ℕ). Goes (is_word l c.args.token (codes "endmodule")) c.args.token Done c.after_word-in-Tail.result) text c.after_word-in-Tail.ensures in
    subst (λ (s : State). Steps (step s p c.args.token) c.after_word-in-Tail.result p) (sym c.in-Tail.is) (goes_on (is_word p.code.text c.args.token (codes "endmodule")) c.args.token Done p c.after_word-in-Tail.result goes)
