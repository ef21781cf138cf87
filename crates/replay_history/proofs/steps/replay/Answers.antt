-- At first no event is taken.
use Rattle.std.proofs.Common.{◌≡◌, ◌∙◌, ℕ, List, None, Option, length, replicate, ap, subst, sym, rules}
use Rattle.design_cell.specs.declared.value.Value.{Value}
use Rattle.replay_history.specs.Forced.{HasTaken}
use Rattle.replay_history.proofs.Forces.{none_taken}
use Rattle.replay_history.proofs.steps.replay.Goals as goal

pub fill_steps-requires-clause-forced : goal.fill_steps-requires-clause-forced
fill_steps-requires-clause-forced c =
    let nets : ℕ = length c.args.circuit.now.design.now.nets in
    let items : c.in_ok-forced.forced.items ≡ replicate c.width_of-nets.result None = search rules in
    let values : c.deref_mut.result.now ≡ replicate (length c.args.circuit.now.design.now.nets) None =
    c.deref_mut.ensures.value
    ∙ items
    ∙ ap (λ (n : ℕ). replicate n None) c.width_of-nets.ensures in
    subst (λ (vs : List (Option Value)). HasTaken (length c.args.circuit.now.design.now.nets) c.as_slice.result.now 0 0 vs) (sym values) (none_taken nets c.as_slice.result.now)
