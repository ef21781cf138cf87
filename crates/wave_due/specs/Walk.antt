-- What a walk knows of the places ahead of a waveform.
use Rattle.std.specs.Prelude.{◌≡◌, ◌⊎◌, ℕ, ◌%◌, ◌<◌, Bool, true, false, Contains, List, length}
use Rattle.design_cell.specs.declared.value.Value.{Value}
use Rattle.design_circuit.specs.Fits.{Fits}
use Rattle.design_circuit.specs.Handed.{HasPlaces, shown_of}
use Rattle.design_circuit.specs.Job.{Job, places_of, step_of}
use Rattle.design_circuit.specs.Waveform.{certain}
use Rattle.design_circuit.specs.declared.waveform.Written.{Written}
use Rattle.replay_fans.specs.Readings.{AreFans}
use Rattle.law_model.specs.Class.{class_of}
use Rattle.law_model.specs.Growth.{Holds}
use Rattle.law_model.specs.declared.line.Line.{Line as ALine}
use Rattle.law_model.specs.declared.limits.Limits.{Limits}
use Rattle.wave_bytes.specs.OfQuiet.{CopiesShow, tells_calm_of, driver_of, IsRun, IsGoneOver}
use Rattle.replay_due.specs.Due.{HasRoomFor, is_due}
use Rattle.replay_due.specs.Readers.{readers_of}
use Rattle.wave_bytes.specs.View as view
use Rattle.wave_bytes.specs.View.{WaveformView}
use Rattle.wave_due.specs.Sources.{AreSources, ShowsOn}
use Rattle.wave_due.specs.declared.walk.Walk.{Walk}

-- What the history that it reads shows.
abbrev pub shown_by : Job → Walk → ℕ → Value
shown_by j walk = shown_of j walk.replayed.history

-- It has a history of the job, tables of who reads which net and of what the recording may stir, and sets of positions.
pub record HasTables (j : Job) (walk : Walk) : Type 0 where
  pub places : HasPlaces j walk.replayed.history
  pub fans : AreFans j walk.fans
  pub sources : AreSources j j.width walk.sources.items
  pub due_room : HasRoomFor walk.waiting.due j.width
  pub ahead_room : HasRoomFor walk.waiting.ahead j.width

-- A waveform is gone over up to a position of a step; where no position is due, the history shows what it showed.
pub record IsWalkAt (j : Job) (shown : ℕ → Value) (waveform : List Written) (walk : Walk) (step position : ℕ)
    : Type 0 where
  pub gone : IsGoneOver j waveform step position (is_due walk.waiting.due) (is_due walk.waiting.ahead)
  pub shows : ShowsOn j shown step position walk.waiting.due

-- So it is up to its next place, if there is one, and the history is read at the step of that.
pub record IsWalk (j : Job) (waveform : List Written) (walk : Walk) : Type 0 where
  pub tables : HasTables j walk
  pub here : length waveform < places_of j
      → IsWalkAt j (shown_by j walk) waveform walk (step_of j (length waveform)) (length waveform % j.width)
  pub reads : length waveform < places_of j → walk.replayed.step ≡ step_of j (length waveform)

abbrev pub IsWalkOf : WaveformView → Walk → Type 0
IsWalkOf v walk = IsWalk (view.job v) v.written walk

-- What is always true of a waveform that lines justify, whatever they are, and its job fits: over a history that shows
-- at copies what it shows at their arguments.
pub record IsHeld (j : Job) (shown : ℕ → Value) (waveform : List Written) : Type 0 where
  pub fits : Fits j
  pub copies : CopiesShow j shown
  pub limits : Limits
  pub lines : List ALine
  pub holds : Holds j limits shown waveform lines

abbrev pub IsHeldFor : WaveformView → Walk → Type 0
IsHeldFor v walk = IsHeld (view.job v) (shown_by (view.job v) walk) v.written

-- So many places from the next one on may be passed over.
abbrev pub IsRunOf : WaveformView → Walk → ℕ → Type 0
IsRunOf v walk many = IsRun (view.job v) (shown_by (view.job v) walk) v.written many

-- The class of a place tells that it is calm.
abbrev pub TellsCalm : Job → List Written → ℕ → Type 0
TellsCalm j waveform place =
    tells_calm_of j.levels (step_of j place) (driver_of j place) (class_of j (certain waveform) place) ≡ true

-- A set has lost no position, and the readers of a net are in it, unless the net keeps.
pub record AreReadersIn (keeps : Bool) (readers old new : List ℕ) : Type 0 where
  pub long : length new ≡ length old
  pub more : (p : ℕ) → is_due new p ≡ false → is_due old p ≡ false
  pub unread : (p : ℕ) → is_due new p ≡ false → (keeps ≡ true) ⊎ (Contains readers p → ⊥)

-- A walk with other sets has the tables that it had, and reads the history where it did.
pub record HasSameTables (old new : Walk) : Type 0 where
  pub fans : new.fans ≡ old.fans
  pub sources : new.sources ≡ old.sources
  pub replayed : new.replayed ≡ old.replayed

-- The net at a position is visited: its readers are due, and those that look back at it one step later, unless it
-- keeps; and one step later so is the position itself, unless it is calm.
pub record IsVisited (net position : ℕ) (keeps calm : Bool) (old new : Walk) : Type 0 where
  pub same : HasSameTables old new
  pub due : AreReadersIn keeps (readers_of old.fans.cells net) old.waiting.due new.waiting.due
  pub ahead : AreReadersIn keeps (readers_of old.fans.registers net) old.waiting.ahead new.waiting.ahead
  pub itself : is_due new.waiting.ahead position ≡ false → calm ≡ true
