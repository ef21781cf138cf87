-- A register more.
use Rattle.std.proofs.Common.{◌++◌, refl, sym, ap, ◌∙◌}
use Rattle.std.proofs.lemmas.List.{append-nil}
use Rattle.cmd_make.specs.Draw.{after_draw, after_draws}
use Rattle.cmd_make.specs.Netlist.{register_lines, register_text}
use Rattle.cmd_make.specs.Pool.{drawn_member, pool_of}
use Rattle.cmd_make.proofs.Growing.{draw_more, grown, register_more}
use Rattle.cmd_make.proofs.netlist.put_registers.Goals as goal

pub registers-init : goal.registers-init
unfolding register_lines after_draws
registers-init c = record { text = sym (append-nil c.args.text.now.items); after = refl }

pub registers-preserved : goal.registers-preserved
registers-preserved c =
    let start = c.args.draws.now.state in
    let register = c.registers.register in
    let pool = pool_of c.args.gates in
    let here = c.registers.invariant.after in
    let name = c.draw_member-pin.ensures.drawn ∙ ap (drawn_member pool) here in
    record {
      text = grown _ _ _ _ _ _ c.registers.invariant.text c.in_ok-put_register.ensures
          (register_more pool start register ∙ ap (λ n. register_lines pool start register ++ register_text register n) (sym name));
      after = c.draw_member-pin.ensures.after ∙ ap after_draw here ∙ sym (draw_more register start);
    }
