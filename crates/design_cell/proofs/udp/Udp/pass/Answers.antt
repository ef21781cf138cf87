-- A pin more of a pass.
use Rattle.std.proofs.Common.{◌<◌, ◌∙◌, sym, length, arith}
use Rattle.std.proofs.lemmas.List.{get_or_default}
use Rattle.design_cell.specs.declared.value.Value.TheVariants.{Zero, X}
use Rattle.design_cell.proofs.Nexts.{is_turned, pass_step, pass_stay, moved_pass}
use Rattle.design_cell.proofs.udp.Udp.pass.Goals as goal
use Rattle.design_cell.proofs.udp.Udp.pass.Goals.{then-is_turn, else-is_turn}

pub loop-pin-preserved : goal.loop-pin-preserved
loop-pin-preserved c = λ earlier same.
    let t = c.args.self.now in
    let old = c.args.old.now in
    let new = c.args.new.now in
    let pin = c.loop-pin.pin in
    let in_old : pin < length old = omega arith in
    let in_new : pin < length new = omega arith in
    let was = get_or_default old pin Zero X in_old in
    let now = get_or_default new pin Zero X in_new in
    let before = c.loop-pin.invariant earlier same in
    elim c.if-is_turn.branch [
      | then-is_turn w ↦
          let pins_are = w.turn-reached.ensures.pins in
          let turned = is_turned t old new pin _ _ c.loop-pin.reached.state w.turn-reached.result pins_are w.turn-reached.ensures.state w.turn-reached.ensures.row in
          moved_pass t old new earlier _ c.args.from _ _ _ _ (w.pins-is ∙ pins_are) w.reached-is (pass_step t c.args.clock c.args.clocks old new earlier c.args.from c.loop-pin.pins c.loop-pin.reached _ pin _ _ was now (sym c.is_turn.ensures ∙ w.if-is_turn.true) before turned)
      | else-is_turn w ↦ moved_pass t old new earlier _ c.args.from _ _ _ _ w.pins-is w.reached-is (pass_stay t c.args.clock c.args.clocks old new earlier c.args.from c.loop-pin.pins c.loop-pin.reached pin _ _ was now (sym c.is_turn.ensures ∙ w.if-is_turn.false) before)
    ]
