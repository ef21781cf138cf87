-- A time more.
use Rattle.std.proofs.Common.{[], ◌∷◌, ◌++◌, List, ℕ, sym, ap, ◌∙◌}
use Rattle.cmd_make.specs.Stimulus.{times_of}
use Rattle.cmd_make.proofs.Growing.{time_more}
use Rattle.cmd_make.proofs.stimulus.times_of.Goals as goal

pub moments-init : goal.moments-init
unfolding times_of
moments-init c = c.new-times.ensures.items

pub moments-preserved : goal.moments-preserved
moments-preserved c =
    c.in_ok-push.ensures.items ∙ ap (λ (t : List ℕ). t ++ c.time_of.result ∷ []) c.moments.invariant
    ∙ ap (λ (time : ℕ). times_of c.moments.moment ++ time ∷ []) c.time_of.ensures ∙ sym (time_more c.moments.moment)
