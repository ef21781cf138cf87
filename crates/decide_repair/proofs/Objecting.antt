-- From what a call of a wave says to an objection.
use Rattle.std.proofs.Common.{◌≡◌, Bool, true, false, Some, None, if◌then◌else◌, length, refl, ◌∙◌}
use Rattle.std.specs.Prelude.{nat_lt}
use Rattle.std.proofs.lemmas.Bool.{ltb-true}
use Rattle.design_circuit.specs.Job.{Job, places_of}
use Rattle.design_circuit.specs.Waveform.{certain}
use Rattle.law_model.specs.Class.{class_of}
use Rattle.law_model.specs.declared.class.ClassByNumber.{ClassByNumber}
use Rattle.law_model.specs.declared.line.Line.{Line as ALine}
use Rattle.wave_proved.specs.Advance.{Contradicts, IsPlain, Reports}
use Rattle.wave_proved.specs.Contents.{Contents, IsWave, class_or_done, job, next_seen}
use Rattle.wave_proved.specs.Token.{HasNext, IsLineNext, LineHolds, written_by_line}
use Rattle.wave_proved.specs.declared.advance.Optimistic.{Optimistic}
use Rattle.decide_repair.specs.Repaired.{IsObjection, IsOfJob, by_line}
use Rattle.decide_repair.specs.Step.{RefusedStep}
use Rattle.decide_repair.specs.declared.refusal.RepairErr.{RepairErr}
use Rattle.decide_repair.specs.declared.refusal.RepairErr.TheVariants.{Optimistic as Objects, Memory}

pub same_job : (c : Contents) → IsOfJob c c
same_job c = record { design = refl; order = refl; stim = refl; history = refl; limits = refl }

pub job_along : (a b c : Contents) → IsOfJob a b → IsOfJob b c → IsOfJob a c
job_along a b c first second = record {
  design = second.design ∙ first.design;
  order = second.order ∙ first.order;
  stim = second.stim ∙ first.stim;
  history = second.history ∙ first.history;
  limits = second.limits ∙ first.limits;
}

-- A Line place is found otherwise.
pub line_objects : (c : Contents) (line : ALine) (optimistic : Optimistic) → IsWave c → IsLineNext c → LineHolds c line
    → Contradicts c (written_by_line c line) → Reports c (written_by_line c line) optimistic → IsObjection c optimistic
line_objects c line optimistic wave next holds contradicts is = record {
  before = c;
  same = same_job c;
  wave = wave;
  next = holds.within;
  written = written_by_line c line;
  found = by_line line next holds;
  contradicts = contradicts;
  reports = is;
}

-- There is a next place where its class says what it is.
plain_less : (j : Job) (less : Bool) (class : ClassByNumber) → IsPlain (class_or_done j (if less then Some class else None))
    → less ≡ true
plain_less j true class plain = refl
plain_less j false class plain = absurd plain

pub plain_more : (c : Contents) → IsPlain (next_seen c) → HasNext c
plain_more c plain =
    ltb-true (length c.written) (places_of (job c)) (plain_less (job c) (nat_lt (length c.written) (places_of (job c)))
    (class_of (job c) (certain c.written) (length c.written)) plain)

-- What is objected later in the walk is objected of the job.
pub objects_along : (start c : Contents) (optimistic : Optimistic) → IsOfJob start c → IsObjection c optimistic
    → IsObjection start optimistic
objects_along start c optimistic same objection = record {
  before = objection.before;
  same = job_along start c objection.before same objection.same;
  wave = objection.wave;
  next = objection.next;
  written = objection.written;
  found = objection.found;
  contradicts = objection.contradicts;
  reports = objection.reports;
}

pub refused_along : (start c : Contents) (refusal : RepairErr) → IsOfJob start c → RefusedStep c refusal
    → RefusedStep start refusal
refused_along start c (Objects optimistic) same refused = objects_along start c optimistic same refused
refused_along start c Memory same refused = tt
