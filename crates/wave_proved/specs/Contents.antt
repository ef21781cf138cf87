-- What a wave holds, and what is always true of it.
use Rattle.std.specs.Prelude.{◌≡◌, ℕ, ◌<◌, ◌≤◌, ◌^◌, Option, None, Some, List, [], length, nat_lt, if◌then◌else◌}
use Rattle.std.specs.Coded.{le_prop}
use Rattle.design_cell.specs.declared.value.Value.{Value}
use Rattle.design_circuit.specs.declared.circuit.Circuit.{Circuit}
use Rattle.design_circuit.specs.declared.design.Design.{Design}
use Rattle.design_circuit.specs.declared.stim.Stim.{Stim}
use Rattle.design_circuit.specs.declared.place.Place.{Place}
use Rattle.design_circuit.specs.declared.waveform.Written.{Written}
use Rattle.design_circuit.specs.Parts.{PartsFit}
use Rattle.design_circuit.specs.Filling.{IsPlace}
use Rattle.design_circuit.specs.Fits.{place_at}
use Rattle.design_circuit.specs.Handed.{IsHandedIn, shown_of}
use Rattle.design_circuit.specs.History.{HistoryView}
use Rattle.design_circuit.specs.Job.{Job, job_of, number_of, places_of}
use Rattle.design_circuit.specs.Rule.{rule}
use Rattle.design_circuit.specs.Waveform.{certain, written_at}
use Rattle.law_model.specs.Assignment.{argument_places}
use Rattle.law_model.specs.Class.{class_of, class_seen}
use Rattle.law_model.specs.Growth.{Holds}
use Rattle.law_model.specs.Mask.{masked}
use Rattle.law_model.specs.declared.class.Class.{Class}
use Rattle.law_model.specs.declared.class.Class.TheVariants as seen
use Rattle.law_model.specs.declared.class.ClassByNumber.{ClassByNumber}
use Rattle.law_model.specs.declared.class.ClassByNumber.TheVariants.{Local, Free, Carried, Line}
use Rattle.law_model.specs.declared.line.Line.{Line as ALine}
use Rattle.law_model.specs.declared.limits.Limits.{Limits}
use Rattle.wave_due.specs.OfWaveBytes.{WaveformView, next_class}
use Rattle.wave_due.specs.Walk.{IsWalk}
use Rattle.wave_due.specs.declared.walk.Walk.{Walk}

-- The circuit, the history that was handed in, the limits of decisions, the waveform of the places that are written,
-- and the lines.
pub record Contents : Type 0 where
  pub design : Design
  pub order : List ℕ
  pub stim : Stim
  pub history : HistoryView
  pub limits : Limits
  pub written : List Written
  pub lines : List ALine

-- A waveform of a circuit with the other parts.
abbrev pub contents_of : WaveformView → HistoryView → Limits → List ALine → Contents
contents_of waveform history limits lines = record {
  design = waveform.design;
  order = waveform.order;
  stim = waveform.stim;
  history = history;
  limits = limits;
  written = waveform.written;
  lines = lines;
}

abbrev pub job : Contents → Job
job c = job_of c.design c.order c.stim

-- Nothing is written yet.
abbrev pub nothing_written : Design → List ℕ → Stim → HistoryView → Limits → Contents
nothing_written design order stim history limits = record {
  design = design;
  order = order;
  stim = stim;
  history = history;
  limits = limits;
  written = [];
  lines = [];
}

-- Nothing is written yet of a circuit.
abbrev pub nothing_of : Circuit → HistoryView → Limits → Contents
nothing_of circuit = nothing_written circuit.design.now circuit.order.now circuit.stim.now

-- What the history shows at the place of a number.
abbrev pub shown_in : Contents → ℕ → Value
shown_in c = shown_of (job c) c.history

-- The log of a licence may have 1 to 100,000 clauses, and of 12 to 16 sources all fillings may be tried.
pub record AreLimits (limits : Limits) : Type 0 where
  pub some : 0 < limits.conflicts
  pub few : limits.conflicts ≤ 100000
  pub least : 12 ≤ limits.enumerated
  pub most : limits.enumerated ≤ 16

pub AreLimits-prop : (limits : Limits) → IsProp (AreLimits limits)
AreLimits-prop limits x y = λ i. record {
  some = le_prop x.some y.some i;
  few = le_prop x.few y.few i;
  least = le_prop x.least y.least i;
  most = le_prop x.most y.most i;
}

-- It is of a circuit that fits and has at most 2^40 places, a history of its job and limits; it is sound, and its
-- lines yield it.
pub record IsWave (c : Contents) : Type 0 where
  pub fits : PartsFit c.design c.order c.stim
  pub few : places_of (job c) ≤ 2 ^ 40
  pub handed : IsHandedIn (job c) c.history
  pub limited : AreLimits c.limits
  pub holds : Holds (job c) c.limits (shown_in c) c.written c.lines

-- The same of a wave beside which a walk knows what is due ahead.
pub record IsWaveAt (c : Contents) (beside : Walk) : Type 0 where
  pub wave : IsWave c
  pub walk : IsWalk (job c) c.written beside

-- The number of the next place, and the class of a place.
abbrev pub next_number : Contents → ℕ
next_number c = length c.written

abbrev pub class_in : Contents → ℕ → ClassByNumber
class_in c place = class_of (job c) (certain c.written) place

-- The argument places of a place, and what its rule gives where they have the bits of a number.
abbrev pub arguments_in : Contents → ℕ → List ℕ
arguments_in c place = argument_places (job c) (certain c.written) place

abbrev pub rule_in : Contents → ℕ → ℕ → Value
rule_in c place number = rule (job c) (certain c.written) (masked (arguments_in c place) number) place

-- The next place, if there is one, and its class as callers see it.
abbrev pub next_place : Job → List Written → Option Place
next_place j written = if nat_lt (length written) (places_of j) then Some (place_at j (length written)) else None

abbrev pub class_or_done : Job → Option ClassByNumber → Class
class_or_done j None = seen.Done
class_or_done j (Some class) = class_seen j class

abbrev pub next_seen : Contents → Class
next_seen c = class_or_done (job c) (next_class (job c) c.written)

-- The place that a class is carried from is below a number.
abbrev pub FromWithin : ℕ → ClassByNumber → Type 0
FromWithin n (Local bit) = Unit {0}
FromWithin n Free = Unit {0}
FromWithin n (Carried from inverted) = from < n
FromWithin n Line = Unit {0}

-- A place of the job that is written, and what is written there.
pub record IsWritten (c : Contents) (place : Place) : Type 0 where
  pub within : IsPlace (job c) place
  pub written : number_of (job c) place < length c.written

abbrev pub written_of : Contents → Place → Written
written_of c place = written_at c.written (number_of (job c) place)

-- Every place is written.
abbrev pub IsFinished : Contents → Type 0
IsFinished c = length c.written ≡ places_of (job c)

-- A place of the job that is written, or the next one.
pub record IsReached (c : Contents) (place : Place) : Type 0 where
  pub within : IsPlace (job c) place
  pub reached : number_of (job c) place ≤ length c.written
