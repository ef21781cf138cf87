-- The pieces so far and those of what is left are all.
use Rattle.cmd_phases.proofs.CutTexts.{CutAt}
use Rattle.cmd_phases.proofs.pieces.pieces_of.Given as goal

abbrev pub invariant-bytes : goal.invariant-bytes
invariant-bytes l = CutAt l.cut l.text l.pieces.items l.piece.items l.byte-index
