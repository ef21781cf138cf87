-- The line, piece by piece.
use Rattle.std.proofs.Common.{[], ◌∷◌, codes, decimal}
use Rattle.design_cell.specs.Value.{letter_of}
use Rattle.cmd_phases.proofs.Lines.{nine_puts}
use Rattle.cmd_phases.proofs.line.put_objection.Goals as goal

pub returns : goal.returns
returns c =
    let o = c.args.objection.now in
    rw (c.in_ok-put_number-3.ensures, c.in_ok-put-3.ensures, c.in_ok-put_both-3.ensures, c.in_ok-put_both-2.ensures, c.in_ok-put_both.ensures, c.in_ok-put_number-2.ensures, c.in_ok-put-2.ensures, c.in_ok-put_number.ensures, c.in_ok-put.ensures, c.letter.ensures, c.letter-2.ensures, c.as_slice.ensures, c.from.ensures)
    (nine_puts c.args.text.now.items (codes "refused: optimistic #") (decimal o.time) (codes " round ") (decimal o.round) (codes " ") o.name
    (codes " replayed ") (letter_of o.replayed ∷ []) (codes " found ") (letter_of o.found ∷ []) (codes " undecided ") (decimal o.undecided))
