-- What is looked at anew in a moment: each register and each bound variable is due, or has what it has in the moment
-- before.
use Rattle.std.specs.Prelude.{◌≡◌, ℕ, zero, suc, ◌-◌, ◌<◌, ◌≤◌, ◌^◌, false, true, List, [], ◌++◌, Option, Some, None}
use Rattle.std.specs.Prelude.{Contains, length, slice_index, slice_index_or}
use Rattle.design_circuit.specs.Settled.{last_step}
use Rattle.base_ledger.specs.Change.{change_position, nth_change}
use Rattle.base_ledger.specs.declared.change.Change.{Change}
use Rattle.recording_binding.specs.declared.binding.Binding.{Binding}
use Rattle.recording_reader.specs.Recording.{Recording, value_at}
use Rattle.replay_due.specs.Due.{is_due}
use Rattle.replay_due.specs.Readers.{IsReaderTable, ReadersView, readers_of}
use Rattle.replay_due.specs.declared.readings.Reading.{Reading}
use Rattle.replay_fans.specs.Nets.{looked_at}
use Rattle.replay_fans.specs.Readings.{AreReaders, readings_of}
use Rattle.replay_history.specs.Fault.{bound_at}
use Rattle.replay_history.specs.Read.{shown_in}
use Rattle.replay_history.specs.Sides.{AgreesBeside, SettlesIn, job_beside}
use Rattle.replay_history.specs.declared.sides.Sides.{Sides}
use Rattle.replay_history.specs.declared.watchers.Watchers.{Watchers}

-- The number of each bound variable is at the place of its variable.
abbrev pub HasNumbers : Binding → List (Option ℕ) → Type 0
HasNumbers binding numbers = (number : ℕ) → number < length binding.bound
    → slice_index_or numbers (bound_at binding number).variable None ≡ Some number

-- Each variable of a recording has a place, with its number among the bound ones or none.
pub record AreNumbers (recording : Recording) (binding : Binding) (numbers : List (Option ℕ)) : Type 0 where
  pub long : length numbers ≡ length recording.variables
  pub has : HasNumbers binding numbers
  pub below : (variable number : ℕ) → slice_index_or numbers variable None ≡ Some number → number < length binding.bound

-- The nets of all bits are below a number.
abbrev pub AreBitsWithin : ℕ → Binding → Type 0
AreBitsWithin room binding = (number bit : ℕ) → number < length binding.bound → bit
    < length (bound_at binding number).bits → slice_index (bound_at binding number).bits bit < room

-- Each bound variable is among the readers of the net of each of its bits.
abbrev pub AreBitReaders : Binding → ReadersView → Type 0
AreBitReaders binding readers = (number bit : ℕ) → number < length binding.bound → bit
    < length (bound_at binding number).bits
    → Contains (readers_of readers (slice_index (bound_at binding number).bits bit)) number

-- the readings of the bits of the first bound variables
abbrev pub bit_readings : Binding → ℕ → List Reading
bit_readings binding zero = []
bit_readings binding (suc n) = bit_readings binding n ++ readings_of n (bound_at binding n).bits

-- The tables of a comparison: no net and no number in them is as great as their room, and each variable of the
-- recording has a place.
pub record FitsWatchers (sides : Sides) (watchers : Watchers) : Type 0 where
  pub small : watchers.room ≤ 2 ^ 20
  pub nets : (job_beside sides).width ≤ watchers.room
  pub registers : AreReaders (job_beside sides) looked_at watchers.registers
  pub table : IsReaderTable watchers.room watchers.variables
  pub changes : watchers.changes ≡ sides.recording.now
  pub long : length watchers.numbers.items ≡ length sides.recording.now.variables
  pub below : (variable number : ℕ) → slice_index_or watchers.numbers.items variable None ≡ Some number → number
      < watchers.room

-- They have each bit and the number of each bound variable.
pub record AreWatchers (sides : Sides) (binding : Binding) (watchers : Watchers) : Type 0 where
  pub fits : FitsWatchers sides watchers
  pub bits : AreBitReaders binding watchers.variables
  pub numbers : HasNumbers binding watchers.numbers.items

-- The readers of a net are due.
abbrev pub AreReadersDue : ReadersView → ℕ → List ℕ → Type 0
AreReadersDue readers net due = (reader : ℕ) → Contains (readers_of readers net) reader → is_due due reader ≡ true

-- So are those of the nets of the first changes.
abbrev pub AreDueTo : ReadersView → List Change → ℕ → List ℕ → Type 0
AreDueTo readers changes n due = (i : ℕ) → i < n → AreReadersDue readers (change_position (nth_change changes i)) due

-- Each net shows at a step what it shows at an earlier one, or its readers are due.
abbrev pub ShowSame : Sides → ReadersView → ℕ → ℕ → List ℕ → Type 0
ShowSame sides readers earlier step due = (reader net : ℕ) → net < (job_beside sides).width
    → Contains (readers_of readers net) reader → is_due due reader ≡ false → shown_in sides.history.now step net
    ≡ shown_in sides.history.now earlier net

-- The same of the last steps of a moment and of the one before.
abbrev pub ShowSameIn : Sides → ReadersView → ℕ → List ℕ → Type 0
ShowSameIn sides readers moment due =
    ShowSame sides readers (last_step (job_beside sides) (moment - 1)) (last_step (job_beside sides) moment) due

-- A variable is recorded in a moment as in the one before.
abbrev pub IsRecordedAsBefore : Recording → ℕ → ℕ → Type 0
IsRecordedAsBefore recording moment variable =
    (bit : ℕ) → value_at recording variable bit moment ≡ value_at recording variable bit (moment - 1)

-- So is each that has a number, or its number is due.
abbrev pub AreRecordedAsBefore : Recording → List (Option ℕ) → ℕ → List ℕ → Type 0
AreRecordedAsBefore recording numbers moment due = (variable number : ℕ) → variable < length recording.variables
    → slice_index_or numbers variable None ≡ Some number → is_due due number ≡ false
    → IsRecordedAsBefore recording moment variable

-- The number of a variable is due, where it has one.
abbrev pub IsNumberDue : List (Option ℕ) → ℕ → List ℕ → Type 0
IsNumberDue numbers variable due =
    (number : ℕ) → slice_index_or numbers variable None ≡ Some number → is_due due number ≡ true

-- Each register is due, or settled at the last step of a moment.
abbrev pub AreAtRest : Sides → ℕ → List ℕ → Type 0
AreAtRest sides moment due = (position : ℕ) → position < (job_beside sides).width → is_due due position ≡ false
    → SettlesIn sides moment (slice_index (job_beside sides).order position)
    ((job_beside sides).driver (slice_index (job_beside sides).order position))

-- Each bound variable is due, or agrees in a moment.
abbrev pub AgreeUnlessDue : Sides → Binding → ℕ → List ℕ → Type 0
AgreeUnlessDue sides binding moment due = (number : ℕ) → number < length binding.bound → is_due due number ≡ false
    → AgreesBeside sides moment (bound_at binding number)
