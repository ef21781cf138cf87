-- A net more.
use Rattle.std.proofs.Common.{[], ◌∷◌, ◌++◌, List, sym, ap, ◌∙◌}
use Rattle.recording_binding.specs.declared.binding.Bound.{Bound}
use Rattle.cmd_make.specs.Recording.{nets_bound}
use Rattle.cmd_make.proofs.Growing.{net_more}
use Rattle.cmd_make.proofs.bound.made_binding.Goals as goal

pub nets-init : goal.nets-init
unfolding nets_bound
nets-init c = c.new-bound.ensures.items

pub nets-preserved : goal.nets-preserved
nets-preserved c =
    c.in_ok-push.ensures.items ∙ ap (λ (l : List Bound). l ++ c.in_ok-net_bound.field-0 ∷ []) c.nets.invariant
    ∙ ap (λ (b : Bound). nets_bound c.args.design.now c.nets.net ++ b ∷ []) c.in_ok-net_bound.ensures
    ∙ sym (net_more c.args.design.now c.nets.net)
