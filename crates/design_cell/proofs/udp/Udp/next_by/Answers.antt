-- Two passes over the pins.
use Rattle.std.proofs.Common.{[]}
use Rattle.design_cell.proofs.Nexts.{two_passes, two_rows}
use Rattle.design_cell.proofs.udp.Udp.next_by.Goals as goal

pub returns : goal.returns
returns c =
    let t = c.args.self.now in
    let old = c.args.old.now in
    let new = c.args.new.now in
    let first = c.pass-middle.ensures [] c.copy_from_slice.ensures.after in
    let second = c.pass.ensures _ first.pins_ in
    record {
      value = two_passes t c.args.clocks old new c.pass-middle.new.pins c.pass.new.pins _ c.pass-middle.result c.pass.result first second;
      row = two_rows t c.args.clocks old new c.pass-middle.new.pins c.pass.new.pins c.args.q c.pass-middle.result c.pass.result first second;
    }
