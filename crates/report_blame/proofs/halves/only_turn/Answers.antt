-- One place is listed, and there the bit turns.
use Rattle.report_blame.proofs.Turns.{one_turns, some_listed}
use Rattle.report_blame.proofs.halves.only_turn.Goals as goal

pub bounds-listed-0 : goal.bounds-listed-0
bounds-listed-0 c =
    let way = c.args.way.now in
    some_listed way.wave.now c.requires.way.wave way.number way.zero.now way.one.now c.requires.way c.args.listed.now
    c.requires.listed

pub returns : goal.returns
returns c =
    let way = c.args.way.now in
    one_turns way.wave.now c.requires.way.wave way.number way.zero.now way.one.now c.requires.way c.args.listed.now
    c.requires.listed c.requires.one
