-- Where a place of the last two rows stands.
use Rattle.std.proofs.Common.{arith}
use Rattle.wave_bytes.proofs.RowPlaces.{last_row, row_before}
use Rattle.wave_bytes.proofs.rows.front_of.Goals as goal

pub returns-then-number-start-clause-position : goal.returns-then-number-start-clause-position
returns-then-number-start-clause-position c =
    last_row c.args.width c.args.count c.args.number c.args.front c.requires.front c.requires.number
    (let test = c.if-number-start.true in omega (arith, test))

pub returns-then-start-number-clause-position : goal.returns-then-start-number-clause-position
returns-then-start-number-clause-position c =
    row_before c.args.width c.args.count c.args.number c.args.front c.requires.front
    (let test = c.if-number-start.false in omega (arith, test))
    (let test = c.if-start-number.true in omega (arith, test))
