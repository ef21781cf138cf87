-- The line, piece by piece.
use Rattle.std.proofs.Common.{codes, decimal}
use Rattle.cmd_phases.proofs.Lines.{five_puts}
use Rattle.cmd_phases.proofs.line.put_lack.Goals as goal

pub returns : goal.returns
returns c =
    let lack = c.args.lack.now in
    rw (c.in_ok-put_both.ensures, c.in_ok-put_number-2.ensures, c.in_ok-put-2.ensures, c.in_ok-put_number.ensures, c.in_ok-put.ensures, c.as_slice.ensures, c.from.ensures)
    (five_puts c.args.text.now.items (codes "refused: certificate lacks #") (decimal lack.time) (codes " round ") (decimal lack.round) (codes " ") lack.name)
