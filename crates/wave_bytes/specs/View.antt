-- What a waveform holds, and what is said of its next place.
use Rattle.std.specs.Prelude.{ℕ, ◌≤◌, ◌<◌, ◌++◌, ◌∷◌, [], Bool, Option, None, Some, List, length, nat_lt, if◌then◌else◌}
use Rattle.design_circuit.specs.declared.circuit.Circuit.{Circuit}
use Rattle.design_circuit.specs.declared.design.Design.{Design}
use Rattle.design_circuit.specs.declared.stim.Stim.{Stim}
use Rattle.design_circuit.specs.declared.waveform.Written.{Written}
use Rattle.design_circuit.specs.Job.{Job, job_of, net_of, places_of, step_of}
use Rattle.design_circuit.specs.Waveform.{certain}
use Rattle.law_model.specs.Class.{class_of, keeps}
use Rattle.law_model.specs.declared.class.ClassByNumber.{ClassByNumber}
use Rattle.law_quiet.specs.Runs.{repeated}

-- The circuit, and what is written of its places, in place order.
pub record WaveformView : Type 0 where
  pub design : Design
  pub order : List ℕ
  pub stim : Stim
  pub written : List Written

abbrev pub waveform_of : Circuit → List Written → WaveformView
waveform_of circuit written = record {
  design = circuit.design.now;
  order = circuit.order.now;
  stim = circuit.stim.now;
  written = written;
}

abbrev pub job : WaveformView → Job
job v = job_of v.design v.order v.stim

-- It, with one more place written.
abbrev pub and_one : WaveformView → Written → WaveformView
and_one v written = record v { written = v.written ++ written ∷ [] }

-- It, with so many places more, each of which has what its net's place a step before has.
abbrev pub and_repeated : WaveformView → ℕ → WaveformView
and_repeated v many = record v { written = repeated (job v) v.written many }

-- There is a next place: one that isn't written.
abbrev pub HasMore : WaveformView → Type 0
HasMore v = length v.written < places_of (job v)

-- The number of a place of the job that is written, or of the next one.
pub record IsNumber (v : WaveformView) (number : ℕ) : Type 0 where
  pub reached : number ≤ length v.written
  pub within : number < places_of (job v)

-- The net of a place keeps there.
abbrev pub keeps_there : Job → List Written → ℕ → Bool
keeps_there j written number =
    keeps j (certain written) (class_of j (certain written)) (step_of j number) (net_of j number)

-- The class of the next place, if there is one.
abbrev pub next_class : Job → List Written → Option ClassByNumber
next_class j written =
    if nat_lt (length written) (places_of j) then Some (class_of j (certain written) (length written)) else None
