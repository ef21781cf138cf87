-- A draw more.
use Rattle.std.proofs.Common.{refl, sym, ap, ◌∙◌}
use Rattle.cmd_make.specs.Draw.{after_draw, after_draws}
use Rattle.cmd_make.proofs.Growing.{draw_more}
use Rattle.cmd_make.proofs.stimulus.pass_draws.Goals as goal

pub draws-init : goal.draws-init
unfolding after_draws
draws-init c = refl

pub draws-preserved : goal.draws-preserved
draws-preserved c = c.pass.ensures ∙ ap after_draw c.draws.invariant ∙ sym (draw_more c.draws.counter c.args.draws.now.state)
