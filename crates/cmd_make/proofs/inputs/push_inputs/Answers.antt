-- An input more.
use Rattle.std.proofs.Common.{[], ◌∷◌, ◌++◌, refl, sym, ap, ◌∙◌}
use Rattle.std.proofs.lemmas.List.{append-nil}
use Rattle.cmd_make.specs.Stimulus.{after_input, after_inputs, drawn_input, drawn_inputs}
use Rattle.cmd_make.proofs.Growing.{after_input_more, grown, input_more}
use Rattle.cmd_make.proofs.inputs.push_inputs.Goals as goal

pub inputs-init : goal.inputs-init
unfolding drawn_inputs after_inputs
inputs-init c = record { values = sym (append-nil c.args.values.now.items); after = refl }

pub inputs-preserved : goal.inputs-preserved
inputs-preserved c =
    let start = c.args.draws.now.state in
    let here = c.inputs.invariant.after in
    let value = c.draw_input-value.ensures.value ∙ ap drawn_input here in
    record {
      values = grown _ _ _ _ _ _ c.inputs.invariant.values c.in_ok-push.ensures.items
          (input_more start c.inputs.counter ∙ ap (λ v. drawn_inputs start c.inputs.counter ++ v ∷ []) (sym value));
      after = c.draw_input-value.ensures.after ∙ ap after_input here ∙ sym (after_input_more start c.inputs.counter);
    }
