-- Places of a step that have what their nets' places a step before have.
use Rattle.std.specs.Prelude.{◌≡◌, ℕ, ◌+◌, ◌-◌, ◌*◌, ◌≤◌, ◌<◌, ◌==◌, List, length, nat_lt, true, if◌then◌else◌}
use Rattle.design_circuit.specs.Job.{Job}
use Rattle.design_circuit.specs.Waveform.{written_at}
use Rattle.design_circuit.specs.declared.waveform.Written.{Written}
use Rattle.wave_bytes.specs.Anew.{anew_number, anew_written, nth_anew}
use Rattle.wave_bytes.specs.View.{WaveformView, job, keeps_there}
use Rattle.wave_bytes.specs.declared.anew.Anew.{Anew}

-- So do those at the positions from a first one up to a next.
abbrev pub AreSameFrom : Job → List Written → ℕ → ℕ → ℕ → Type 0
AreSameFrom j written step first next =
    (position : ℕ) → first ≤ position → position < next
    → written_at written (step * j.width + position) ≡ written_at written ((step - 1) * j.width + position)

-- The net of each place from a first one up to a next keeps there: the place has what its net's a step before has.
abbrev pub AllKeepFrom : Job → List Written → ℕ → ℕ → Type 0
AllKeepFrom j waveform first next =
    (place : ℕ) → place < next → first ≤ place → keeps_there j waveform place ≡ true

-- Every place of a step is written, and there is a step before.
pub record IsWholeLater (j : Job) (written : List Written) (step : ℕ) : Type 0 where
  pub later : 0 < step
  pub whole : (step + 1) * j.width ≤ length written

-- The position of one of some places of a step.
abbrev pub anew_position : Job → ℕ → List Anew → ℕ → ℕ
anew_position j step places i = anew_number (nth_anew places i) - step * j.width

-- The position behind the first so many of them.
abbrev pub anew_behind : Job → ℕ → List Anew → ℕ → ℕ
anew_behind j step places i = if i == 0 then 0 else anew_position j step places (i - 1) + 1

-- That of the next one, or the step's end.
abbrev pub anew_next : Job → ℕ → List Anew → ℕ → ℕ
anew_next j step places i = if nat_lt i (length places) then anew_position j step places i else j.width

-- The places of a step that were written anew, in place order: each of them with what stands there, and the others have
-- what their nets' places a step before have.
pub record AreAnewAt (j : Job) (written : List Written) (step : ℕ) (places : List Anew) : Type 0 where
  pub start : (i : ℕ) → i < length places → step * j.width ≤ anew_number (nth_anew places i)
  pub inside : (i : ℕ) → i < length places → anew_position j step places i < j.width
  pub rising : (i : ℕ) → i < length places → anew_behind j step places i ≤ anew_position j step places i
  pub says : (i : ℕ) → i < length places
      → anew_written (nth_anew places i) ≡ written_at written (anew_number (nth_anew places i))
  pub same : (i : ℕ) → i ≤ length places
      → AreSameFrom j written step (anew_behind j step places i) (anew_next j step places i)

-- The place at a position of a step is written.
pub record IsWrittenAt (j : Job) (written : List Written) (step position : ℕ) : Type 0 where
  pub inside : position < j.width
  pub reached : step * j.width + position < length written

-- A waveform and one of its steps.
pub record RowOf : Type 0 where
  pub waveform : WaveformView
  pub step : ℕ

-- A row has what stands at the places of a step, as far as they are written.
pub record IsRowAt (v : WaveformView) (step : ℕ) (row : List Written) : Type 0 where
  pub long : length row ≡ (job v).width
  pub says : (position : ℕ) → position < (job v).width
      → step * (job v).width + position < length v.written
      → written_at row position ≡ written_at v.written (step * (job v).width + position)

-- A row is another one with what stands at a position of a step put there, if it is one of the row.
pub record IsPut (v : WaveformView) (step position : ℕ) (old new : List Written) : Type 0 where
  pub long : length new ≡ length old
  pub here : position < length old → written_at new position ≡ written_at v.written (step * (job v).width + position)
  pub others : (other : ℕ) → (other ≡ position → ⊥) → written_at new other ≡ written_at old other

-- A row has what stands at the places of a step behind another one up to a position, and from there on of that one.
pub record IsRowUpTo (v : WaveformView) (step end : ℕ) (row : List Written) : Type 0 where
  pub long : length row ≡ (job v).width
  pub later : (position : ℕ) → position < (job v).width → position < end
      → written_at row position ≡ written_at v.written ((step + 1) * (job v).width + position)
  pub earlier : (position : ℕ) → position < (job v).width → end ≤ position
      → written_at row position ≡ written_at v.written (step * (job v).width + position)
