-- What the row shows is what the history shows at the bit's place.
use Rattle.std.proofs.Common.{rules}
use Rattle.design_cell.specs.Value.{IsKnown}
use Rattle.design_circuit.specs.History.{held_in, net_place}
use Rattle.report_blame.proofs.ShownBits.{known_bit, shown_there}
use Rattle.report_blame.proofs.bits.is_shown_unknown.Goals as goal

pub shown-requires : goal.shown-requires
shown-requires c =
    rw (c.requires.row.history, c.requires.row.step)
    (shown_there c.args.wave.now c.recall.ensures c.args.bit c.requires.bit)

pub returns : goal.returns
returns c = λ no.
    (let row = c.requires.row in
    let known : IsKnown (held_in c.args.replayed.now.history (net_place c.args.replayed.now.step c.args.bit.net)).shown =
    search rules in
    known_bit c.args.wave.now c.recall.ensures c.args.bit c.requires.bit (rw (row.history, row.step) at known))
