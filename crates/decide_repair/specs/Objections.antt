-- What the objections of a job tell.
use Rattle.std.specs.Prelude.{◌≡◌, length}
use Rattle.design_circuit.specs.Waveform.{ExactBy}
use Rattle.law_waveforms.specs.Alike.{IsOneFor, IsOneForHistories}
use Rattle.law_waveforms.specs.Objection.{AllDecide, Objects}
use Rattle.wave_proved.specs.Contents.{Contents, IsWave, job, shown_in}
use Rattle.wave_proved.specs.declared.advance.Optimistic.{Optimistic}
use Rattle.decide_repair.specs.Repaired.{IsObjection}
use Rattle.law_model.specs.declared.limits.Limits.{Limits}

-- An objection of a walk is one of the job's, by the lines that it tells.
abbrev pub ObjectionsObject : Type 0
ObjectionsObject = (start : Contents) (optimistic : Optimistic) (o : IsObjection start optimistic)
    → Objects (job start) start.limits (shown_in start) o.before.written optimistic.lines.items o.written

-- Every filling gives what is found there, or two fillings give 0 and 1.
abbrev pub ObjectionsAreExact : Type 0
ObjectionsAreExact = (start : Contents) (optimistic : Optimistic) (o : IsObjection start optimistic)
    → ExactBy (job start) o.before.written (length o.before.written) o.written.mark o.written.value

-- The same contents with logs of another length for licences.
abbrev pub with_limits : Contents → Limits → Contents
with_limits c limits = record c { limits = limits }

-- Two tell the same place, the same value that the history shows, and the same one that is found.
pub record AreTheSame (a b : Optimistic) : Type 0 where
  pub place : a.place ≡ b.place
  pub replayed : a.replayed ≡ b.replayed
  pub found : a.found ≡ b.found

-- Without an undecided body among their lines all objections of a job tell the same, whatever their limits are.
abbrev pub ObjectionsAreOne : Type 0
ObjectionsAreOne = (start : Contents) (limits : Limits) (optimistic other : Optimistic)
    → IsObjection start optimistic → IsObjection (with_limits start limits) other
    → AllDecide optimistic.lines.items → AllDecide other.lines.items → AreTheSame optimistic other

-- A wave without undecided places has the marks and certain values of every sound waveform without any, for whatever
-- history and limit, and its values where the history is the same.
pub record IsOne (c : Contents) : Type 0 where
  pub alike : IsOneForHistories (job c) c.written
  pub one : IsOneFor (job c) (shown_in c) c.written

abbrev pub WavesAreAlike : Type 0
WavesAreAlike = (c : Contents) → IsWave c → IsOne c
