-- A gate more.
use Rattle.std.proofs.Common.{◌++◌, refl, sym, ap, ◌∙◌}
use Rattle.std.proofs.lemmas.List.{append-nil}
use Rattle.cmd_make.specs.Draw.{after_draw}
use Rattle.cmd_make.specs.Netlist.{after_gates, gate_line, gate_lines}
use Rattle.cmd_make.proofs.Growing.{after_gate, gate_more, grown}
use Rattle.cmd_make.proofs.netlist.put_gates.Goals as goal

pub gates-init : goal.gates-init
unfolding gate_lines after_gates
gates-init c = record { text = sym (append-nil c.args.text.now.items); after = refl }

pub gates-preserved : goal.gates-preserved
gates-preserved c =
    let start = c.args.draws.now.state in
    let gate = c.gates.gate in
    let here = c.gates.invariant.after in
    record {
      text = grown _ _ _ _ _ _ c.gates.invariant.text c.in_ok-put_gate.ensures.text
          (gate_more start gate ∙ ap (λ s. gate_lines start gate ++ gate_line gate s) (sym here));
      after = c.in_ok-put_gate.ensures.after ∙ ap (λ s. after_draw (after_draw (after_draw s))) here ∙ sym (after_gate start gate);
    }
