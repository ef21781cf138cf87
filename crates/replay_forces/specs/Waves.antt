-- What a wave shows, by number of place, and the law that its forces give its text.
use Rattle.std.specs.Prelude.{◌≡◌, ℕ, ◌<◌, List}
use Rattle.design_cell.specs.declared.value.Value.{Value}
use Rattle.design_circuit.specs.Parts.{PartsFit}
use Rattle.design_circuit.specs.Force.{forced_by}
use Rattle.design_circuit.specs.Handed.{IsReplayUnder, shown_of}
use Rattle.design_circuit.specs.History.{HistoryView}
use Rattle.design_circuit.specs.Job.{job_of, places_of}
use Rattle.design_circuit.specs.Waveform.{written_at}
use Rattle.design_circuit.specs.declared.design.Design.{Design}
use Rattle.design_circuit.specs.declared.force.Event.{Event}
use Rattle.design_circuit.specs.declared.stim.Stim.{Stim}
use Rattle.recording_binding.specs.Binding.{FitsBinding}
use Rattle.recording_binding.specs.declared.binding.Binding.{Binding}
use Rattle.recording_writer.specs.Text.{vcd_text}
use Rattle.wave_proved.specs.Contents.{Contents, IsFinished, job}
use Rattle.wave_proved.specs.Shown.{ShowsWave}
use Rattle.replay_forces.specs.ForcesOf.{AreForcesOf}

abbrev pub values_of : Contents → ℕ → Value
values_of c place = (written_at c.written place).value

-- The replay under the forces of values has the text of any history that shows the values.
abbrev pub ForcesShowTheText : Type 0
ForcesShowTheText = (design : Design) (order : List ℕ) (stim : Stim) (binding : Binding) (values : ℕ → Value)
    (events : List Event) (replayed shown : HistoryView) → PartsFit design order stim → FitsBinding design binding
    → AreForcesOf (job_of design order stim) values events
    → IsReplayUnder (job_of design order stim) (forced_by (job_of design order stim) events) replayed
    → ((place : ℕ) → place < places_of (job_of design order stim)
    → shown_of (job_of design order stim) shown place ≡ values place)
    → vcd_text design binding stim replayed ≡ vcd_text design binding stim shown

-- So it has the text of a history that shows a finished wave, under the forces of that wave.
abbrev pub ForcesShowTheWave : Type 0
ForcesShowTheWave = (c : Contents) (binding : Binding) (events : List Event) (replayed shown : HistoryView)
    → PartsFit c.design c.order c.stim → FitsBinding c.design binding → IsFinished c
    → AreForcesOf (job c) (values_of c) events → IsReplayUnder (job c) (forced_by (job c) events) replayed
    → ShowsWave c shown → vcd_text c.design binding c.stim replayed ≡ vcd_text c.design binding c.stim shown
