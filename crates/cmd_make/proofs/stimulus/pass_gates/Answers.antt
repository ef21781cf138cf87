-- A gate more.
use Rattle.std.proofs.Common.{refl, sym, ap, ◌∙◌}
use Rattle.cmd_make.specs.Draw.{after_draw}
use Rattle.cmd_make.specs.Netlist.{after_gates}
use Rattle.cmd_make.proofs.Growing.{after_gate}
use Rattle.cmd_make.proofs.stimulus.pass_gates.Goals as goal

pub gates-init : goal.gates-init
unfolding after_gates
gates-init c = refl

pub gates-preserved : goal.gates-preserved
gates-preserved c =
    c.pass-in-gates-2.ensures ∙ ap after_draw (c.pass-in-gates.ensures ∙ ap after_draw (c.pass.ensures ∙ ap after_draw c.gates.invariant))
    ∙ sym (after_gate c.args.draws.now.state c.gates.counter)
