-- What a list of starts says, and what it comes to that they are set.
use Rattle.std.specs.Prelude.{ℕ, ◌-◌, ◌==◌, Bool, true, false, List, [], ◌∷◌, ◌++◌, Result, Ok, Err, length, map, take}
use Rattle.std.specs.Prelude.{slice_index_or}
use Rattle.design_circuit.specs.declared.stim.Stim.{Stim}
use Rattle.report_fix.specs.Started.{IsFirstFault, IsStarted, Piece}
use Rattle.report_fix.specs.declared.refusal.StartFault.{StartFault}
use Rattle.cmd_job.specs.declared.netlist.Netlist.{Netlist as ANetlist}
use Rattle.base_line.specs.Line.{pieces_of}

-- A piece is a name, `=`, and the digit of a bit.
abbrev pub digit_of : Bool → ℕ
digit_of false = 48
digit_of true = 49

abbrev pub piece_text : Piece → List ℕ
piece_text piece = piece.0 ++ 61 ∷ digit_of piece.1 ∷ []

-- So the name stands before the last two bytes, and the bit is the last.
abbrev pub set_of : List ℕ → Piece
set_of piece = (take (length piece - 2) piece, slice_index_or piece (length piece - 1) 48 == 49)

-- The pieces of a list, which commas join.
abbrev pub sets_of : List ℕ → List Piece
sets_of list = map set_of (pieces_of 44 list)

-- The starts are set, with all else equal; or a piece is the first that can't be set.
abbrev pub StartsCome : ANetlist → Stim → List Piece → Result Stim StartFault → Type 0
StartsCome n stim pieces (Ok new) = IsStarted n.design stim pieces new
StartsCome n stim pieces (Err fault) = IsFirstFault n.design stim.starts pieces fault
