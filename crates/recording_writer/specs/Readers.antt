-- What has which net among its bits, and what of it isn't due.
use Rattle.std.specs.Prelude.{◌≡◌, ℕ, ◌-◌, ◌<◌, ◌≤◌, ◌^◌, true, false, List, Contains, length, slice_index_or}
use Rattle.design_circuit.specs.History.{HistoryView}
use Rattle.design_circuit.specs.Settled.{last_round}
use Rattle.recording_binding.specs.declared.binding.Binding.{Binding}
use Rattle.recording_binding.specs.declared.binding.Bound.{Bound}
use Rattle.replay_history.specs.Fault.{no_variable}
use Rattle.replay_history.specs.Watched.{AreBitReaders}
use Rattle.replay_due.specs.Due.{is_due}
use Rattle.replay_due.specs.Readers.{IsReaderTable, ReadersView, readers_of}
use Rattle.recording_writer.specs.Moments.{are_same, letter_at}
use Rattle.recording_writer.specs.declared.readers.BitReaders.{BitReaders}

-- Readers of so many nets: no net and no reader is as great as their room.
pub record FitsReaders (nets : ℕ) (readers : BitReaders) : Type 0 where
  pub small : readers.room ≤ 2 ^ 20
  pub inside : nets ≤ readers.room
  pub table : IsReaderTable readers.room readers.table

-- They have each bit of a binding.
pub record AreReadersOf (nets : ℕ) (binding : Binding) (readers : BitReaders) : Type 0 where
  pub fits : FitsReaders nets readers
  pub bits : AreBitReaders binding readers.table

-- Each net has at a step the letter that it has at an earlier one, or its readers are due.
abbrev pub KeepLetters : HistoryView → ReadersView → ℕ → ℕ → List ℕ → Type 0
KeepLetters history readers earlier step due = (reader net : ℕ) → net < history.nets
    → Contains (readers_of readers net) reader → is_due due reader ≡ false → letter_at history step net
    ≡ letter_at history earlier net

-- The same of the last rounds of a moment and of the one before.
abbrev pub KeepLettersIn : HistoryView → ReadersView → ℕ → ℕ → List ℕ → Type 0
KeepLettersIn history readers rounds moment due =
    KeepLetters history readers (last_round rounds (moment - 1)) (last_round rounds moment) due

-- Each of some variables is due, or shows the same at two steps.
abbrev pub SameUnlessDue : HistoryView → List Bound → ℕ → ℕ → List ℕ → Type 0
SameUnlessDue history bound step before due = (number : ℕ) → number < length bound → is_due due number ≡ false
    → are_same history step before (slice_index_or bound number no_variable).bits ≡ true
