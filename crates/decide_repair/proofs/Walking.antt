-- How the walk goes on, and what it ends with.
use Rattle.std.proofs.Common.{◌≡◌, ◌≤◌, ◌+◌, ◌∷◌, [], IfOk, IfErr, if◌then◌else◌, length, length-append, refl, sym, ap, ◌∙◌, arith, subst}
use Rattle.std.specs.Prelude.{Result, Ok, Err}
use Rattle.decide_cone.proofs.GrownCones.{cones_go, cones_grow}
use Rattle.design_circuit.specs.Job.{job_of, places_of}
use Rattle.law_model.specs.declared.class.Class.TheVariants as seen
use Rattle.law_model.specs.declared.class.ClassByNumber.TheVariants.{Line}
use Rattle.design_circuit.proofs.Exact.{one_exact}
use Rattle.law_model.proofs.Uniqueness.{sound_exact, unique_certain}
use Rattle.wave_proved.specs.Advance.{GoesOn, IfObjects, IsAdvanced, IsObjected, Objects, Reports, more, plain_written, stays}
use Rattle.wave_proved.specs.Advance.{with_written}
use Rattle.wave_proved.specs.declared.advance.AdvanceErr.{AdvanceErr}
use Rattle.wave_proved.specs.declared.advance.AdvanceErr.TheVariants as stopped
use Rattle.wave_proved.specs.Contents.{Contents, IsFinished, IsWave, job, shown_in}
use Rattle.wave_proved.specs.Token.{IsLineNext, LineAgrees, LineContradicts, LineHolds, with_line, written_by_line}
use Rattle.law_model.specs.declared.line.Line.{Line as ALine}
use Rattle.law_along.specs.Accepted.{AcceptsLine}
use Rattle.law_along.specs.Along.{GoesAlong, by_line}
use Rattle.law_along.specs.Along as walk
use Rattle.law_along.proofs.Fitted.{along}
use Rattle.decide_repair.proofs.Objecting.{job_along, line_objects, plain_more, refused_along, same_job}
use Rattle.decide_repair.specs.Repaired.{IsOfJob, IsOnlyOne, by_class}
use Rattle.decide_repair.specs.Step.{IsFurther, IsNextOf, RefusedStep, stopped_by}
use Rattle.decide_repair.specs.Walk.{AreRightOf}
use Rattle.decide_repair.specs.declared.aids.Aids.{Aids}
use Rattle.decide_repair.specs.declared.refusal.RepairErr.{RepairErr}

-- The job of a wave stays.
pub job_stays : (a b : Contents) → IsOfJob a b → job b ≡ job a
job_stays a b same =
    ap (λ d. job_of d b.order b.stim) same.design ∙ (ap (λ o. job_of a.design o b.stim) same.order
    ∙ ap (λ s. job_of a.design a.order s) same.stim)

-- A wave that goes on stays in its job, and gets no shorter.
pub goes_same : {a b : Contents} → GoesOn a b → IsOfJob a b
goes_same {a} stays = same_job a
goes_same {a} (more {c = c} goes plain agrees) =
    job_along a c (with_written c (plain_written c)) (goes_same goes)
    (record { design = refl; order = refl; stim = refl; history = refl; limits = refl })

-- A wave that doesn't go on ends the walk.
pub stopped_refused : (start : Contents) (err : AdvanceErr) → IfObjects (IsObjected start) err
    → RefusedStep start (stopped_by err)
stopped_refused start (stopped.Optimistic optimistic) objected = record {
  before = objected.before;
  same = goes_same objected.goes;
  wave = objected.wave;
  next = plain_more objected.before objected.plain;
  written = plain_written objected.before;
  found = by_class objected.plain;
  contradicts = objected.contradicts;
  reports = objected.reports;
}
stopped_refused start stopped.Memory objected = tt

pub goes_long : {a b : Contents} → GoesOn a b → length a.written ≤ length b.written
goes_long stays = omega arith
goes_long (more {c = c} goes plain agrees) =
    let up = goes_long goes in
    let long = length-append c.written (plain_written c ∷ []) in
    omega (arith, up, long)

-- There is one place more.
pub one_more : (a b : Contents) → IsNextOf a b → length b.written ≡ length a.written + 1
one_more a b next = ap length next.is ∙ length-append a.written (next.written ∷ [])

-- All places are written once there are as many as the job has.
pub all_written : (c : Contents) → IsWave c → places_of (job c) ≤ length c.written → IsFinished c
all_written c wave many = omega (arith, wave.holds.sound.within, many)

-- A finished wave is the only one.
pub only_one : (c : Contents) → IsWave c → IsFinished c → IsOnlyOne c
only_one c wave finished = record {
  same = λ decided limits other lines long sound other_decided.
      one_exact (job c) (shown_in c) other c.written wave.fits.fits_job (long ∙ sym finished) sound.within
      (sound_exact (job c) limits (shown_in c) other lines other_decided sound)
      (sound_exact (job c) c.limits (shown_in c) c.written c.lines decided wave.holds.sound) sound.shows
      wave.holds.sound.shows;
  alike = λ decided limits shown other lines long sound other_decided place less.
      (let same = unique_certain (job c) limits c.limits wave.fits.fits_job shown (shown_in c) other c.written lines c.lines
      (long ∙ sym finished) sound.within other_decided decided sound wave.holds.sound place less in
      record { mark = same.mark; certain_value = same.certain_value });
}

-- What helps is right of the next wave too.
pub right_next : (a : Contents) (aids : Aids) (result : Result Contents RepairErr) → IsWave a → AreRightOf a aids
    → IfOk result (IsNextOf a) → IfOk result (λ b. AreRightOf b aids)
right_next a aids (Ok b) wave right next =
    cones_grow a b aids.cones next.written wave (job_stays a b next.same) next.is right
right_next a aids (Err e) wave right next = tt

-- A place is written and then those up to the next Line place.
pub next_further : (a b : Contents) (result : Result Contents RepairErr) → IsNextOf a b → IfOk result (IsAdvanced b)
    → IfOk result (IsFurther a)
next_further a b (Ok c) next advanced =
    let long = one_more a b next in
    let up = goes_long advanced.goes in
    record {
      same = job_along a b c next.same (goes_same advanced.goes);
      more = omega (arith, long, up);
      stops = advanced.stops;
    }
next_further a b (Err e) next advanced = tt

pub right_advanced : (b : Contents) (aids : Aids) (result : Result Contents RepairErr) → IsWave b → AreRightOf b aids
    → IfOk result (IsAdvanced b) → IfOk result (λ c. AreRightOf c aids)
right_advanced b aids (Ok c) wave right advanced = cones_go advanced.goes aids.cones wave right
right_advanced b aids (Err e) wave right advanced = tt

pub refused_further : (a b : Contents) (result : Result Contents RepairErr) → IsOfJob a b → IfErr result (RefusedStep b)
    → IfErr result (RefusedStep a)
refused_further a b (Ok c) same refused = tt
refused_further a b (Err e) same refused = refused_along a b e same refused

-- A verdict that isn't written ends the walk.
pub written_refused : (c : Contents) (line : ALine) (err : AdvanceErr) → IsWave c → IsLineNext c → LineHolds c line
    → (Objects {A = Contents} (Err err) → LineContradicts c line) → IfObjects (Reports c (written_by_line c line)) err
    → RefusedStep c (stopped_by err)
written_refused c line (stopped.Optimistic optimistic) wave next holds contradicts reports =
    line_objects c line optimistic wave next holds (contradicts tt) reports
written_refused c line stopped.Memory wave next holds contradicts reports = tt

-- A place more is written by a verdict, and the wave goes along its line.
pub next_written : (a b : Contents) (line : ALine) → b ≡ with_line a line → IsNextOf a b
next_written a b line is = record {
  same = subst (IsOfJob a) (sym is) (record { design = refl; order = refl; stim = refl; history = refl; limits = refl });
  written = written_by_line a line;
  is = ap (λ (c : Contents). c.written) is;
}

pub spent_along : (a b : Contents) (line : ALine) → IsLineNext a → AcceptsLine a line → LineAgrees a line → b ≡ with_line a line
    → GoesAlong a b
spent_along a b line next accepts agrees is = subst (GoesAlong a) (sym is) (by_line walk.stays line next accepts agrees)

pub along_all : (a b : Contents) (result : Result Contents RepairErr) → GoesAlong a b → IfOk result (GoesAlong b)
    → IfOk result (GoesAlong a)
along_all a b (Ok c) first next = along a b c first next
along_all a b (Err e) first next = tt
