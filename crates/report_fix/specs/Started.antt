-- A stimulus whose registers start with given bits.
use Rattle.std.specs.Prelude.{◌≡◌, ◌⊎◌, ℕ, zero, suc, ◌+◌, ◌<◌, Bool, true, false, Option, None, Some, List, [], length}
use Rattle.std.specs.Prelude.{map, take, slice_index_or, slice_set}
use Rattle.design_cell.specs.declared.value.Value.{Value}
use Rattle.design_cell.specs.declared.value.Value.TheVariants.{Zero, One, X, Z}
use Rattle.design_cell.specs.Value.{IsKnown, bit_value}
use Rattle.design_circuit.specs.declared.design.Design.{Design}
use Rattle.design_circuit.specs.declared.stim.Stim.{Stim}
use Rattle.elab_names.specs.Sets.{has}
use Rattle.law_waveforms.specs.Starts.{DifferInStarts}
use Rattle.report_fix.specs.Registers.{register_named}
use Rattle.report_fix.specs.declared.refusal.StartFault.{StartFault}
use Rattle.report_fix.specs.declared.refusal.StartFault.TheVariants.{NoRegister, Twice, KnownStart}

-- A written name, and the bit that its register is to start with.
abbrev pub Piece : Type 0
Piece = List ℕ × Bool

abbrev pub names_of : List Piece → List (List ℕ)
names_of pieces = map (λ (piece : Piece). piece.0) pieces

abbrev pub piece_at : List Piece → ℕ → Piece
piece_at pieces k = slice_index_or pieces k ([], false)

-- The register of a piece.
abbrev pub register_at : Design → List Piece → ℕ → Option ℕ
register_at design pieces k = register_named design.nets (piece_at pieces k).0

-- A start that isn't x can't be set.
abbrev pub start_fault : Value → ℕ → Option StartFault
start_fault Zero index = Some (KnownStart index)
start_fault One index = Some (KnownStart index)
start_fault X index = None
start_fault Z index = Some (KnownStart index)

-- Why a piece is at fault, by its register, whether an earlier piece has its name, the starts, and its number from 1.
abbrev pub fault_by : Option ℕ → Bool → List Value → ℕ → Option StartFault
fault_by None twice starts index = Some (NoRegister index)
fault_by (Some net) true starts index = Some (Twice index)
fault_by (Some net) false starts index = start_fault (slice_index_or starts net X) index

abbrev pub fault_at : Design → List Value → List Piece → ℕ → Option StartFault
fault_at design starts pieces k =
    fault_by (register_at design pieces k) (has (names_of (take k pieces)) (piece_at pieces k).0) starts (k + 1)

-- None of the first n pieces is at fault.
abbrev pub AreFine : Design → List Value → List Piece → ℕ → Type 0
AreFine design starts pieces n = (k : ℕ) → k < n → fault_at design starts pieces k ≡ None

-- The first piece at fault, and why.
pub record IsFirstFault (design : Design) (starts : List Value) (pieces : List Piece)
    (fault : StartFault) : Type 0 where
  pub at : ℕ
  pub within : at < length pieces
  pub is : fault_at design starts pieces at ≡ Some fault
  pub before : AreFine design starts pieces at

-- The starts with the bit of one piece, with those of the first n, and with those of all.
abbrev pub with_start : List Value → Option ℕ → Bool → List Value
with_start starts None bit = starts
with_start starts (Some net) bit = slice_set starts net (bit_value bit)

abbrev pub started_below : Design → List Value → List Piece → ℕ → List Value
started_below design starts pieces zero = starts
started_below design starts pieces (suc n) =
    with_start (started_below design starts pieces n) (register_at design pieces n) (piece_at pieces n).1

abbrev pub started : Design → List Value → List Piece → List Value
started design starts pieces = started_below design starts pieces (length pieces)

-- A stimulus with the bits of all pieces, none of which is at fault, as starts, and all else equal.
pub record IsStarted (design : Design) (old : Stim) (pieces : List Piece) (new : Stim) : Type 0 where
  pub fine : AreFine design old.starts pieces (length pieces)
  pub starts : new.starts ≡ started design old.starts pieces
  pub others : DifferInStarts old new

-- Each start stays, or is x and is set to 0 or 1; all else is equal.
abbrev pub start_in : Stim → ℕ → Value
start_in stim net = slice_index_or stim.starts net X

pub record SetsUnknown (design : Design) (old new : Stim) : Type 0 where
  pub starts : (net : ℕ) → net < length design.nets
      → (start_in new net ≡ start_in old net) ⊎ ((start_in old net ≡ X) × IsKnown (start_in new net))
  pub others : DifferInStarts old new
