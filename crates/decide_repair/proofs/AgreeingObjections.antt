-- Objections of a walk are those of the job, so they are exact and one.
use Rattle.std.proofs.Common.{◌≡◌, ℕ, Bool, true, false, Some, None, List, [], ◌∷◌, length, refl, sym, ap, ◌∙◌, subst, if◌then◌else◌}
use Rattle.std.specs.Prelude.{nat_lt}
use Rattle.std.proofs.lemmas.Bool.{ltb-true}
use Rattle.design_circuit.specs.declared.waveform.Written.{Written}
use Rattle.design_circuit.specs.declared.design.Design.{Design}
use Rattle.design_circuit.specs.declared.stim.Stim.{Stim}
use Rattle.design_circuit.specs.Fits.{Fits, place_at}
use Rattle.design_circuit.specs.History.{HistoryView}
use Rattle.design_circuit.specs.Job.{Job, number_of, places_of}
use Rattle.design_circuit.specs.Waveform.{certain, certain_by, written_at}
use Rattle.design_circuit.proofs.Numbers.{number_of_place_at}
use Rattle.law_model.specs.Class.{class_of}
use Rattle.law_model.specs.Growth.{IsLineOf, NextLines, NextSaid}
use Rattle.law_model.specs.Stated.{body_at}
use Rattle.law_model.specs.Yields.{line_of, written_by}
use Rattle.law_model.specs.declared.class.Class.TheVariants as seen
use Rattle.law_model.specs.declared.class.ClassByNumber.{ClassByNumber}
use Rattle.law_model.specs.declared.class.ClassByNumber.TheVariants.{Local, Free, Carried, Line}
use Rattle.law_model.specs.declared.line.Line.{Line as ALine}
use Rattle.law_model.proofs.LinesByPlace.{body_one}
use Rattle.law_model.specs.declared.limits.Limits.{Limits}
use Rattle.law_waveforms.specs.Objection.{Objects}
use Rattle.law_waveforms.proofs.Alikes.{alike_law, one_law}
use Rattle.law_waveforms.proofs.Objections.{objection_law, one_objection}
use Rattle.wave_proved.specs.Advance.{IsPlain}
use Rattle.wave_proved.specs.Contents.{Contents, IsWave, class_or_done, job, shown_in}
use Rattle.wave_proved.specs.declared.advance.Optimistic.{Optimistic}
use Rattle.decide_repair.specs.Repaired.{IsFoundNext, IsObjection, IsOfJob, by_class, by_line}
use Rattle.decide_repair.specs.Objections.{ObjectionsObject, ObjectionsAreExact, ObjectionsAreOne, WavesAreAlike, with_limits}

-- ---- what is found is said

plain_less : (j : Job) (less : Bool) (class : ClassByNumber)
    → IsPlain (class_or_done j (if less then Some class else None)) → less ≡ true
plain_less j true class plain = refl
plain_less j false class plain = absurd plain

plain_lines : (j : Job) (limits : Limits) (waveform : List Written) (less : Bool) (class : ClassByNumber)
    → IsPlain (class_or_done j (if less then Some class else None)) → NextLines j limits waveform [] class
plain_lines j limits waveform true (Local bit) plain = refl
plain_lines j limits waveform true Free plain = refl
plain_lines j limits waveform true (Carried from inverted) plain = refl
plain_lines j limits waveform true Line plain = absurd plain
plain_lines j limits waveform false class plain = absurd plain

line_class : (j : Job) (less : Bool) (class : ClassByNumber)
    → class_or_done j (if less then Some class else None) ≡ seen.Line → class ≡ Line
line_class j true (Local bit) is = cc
line_class j true Free is = cc
line_class j true (Carried from inverted) is = cc
line_class j true Line is = refl
line_class j false class is = cc

-- The new lines of what is found.
found_lines : (c : Contents) (written : Written) → IsFoundNext c written → List ALine
found_lines c written (by_class plain) = []
found_lines c written (by_line line next holds) = line ∷ []

found_said : (c : Contents) (written : Written) (found : IsFoundNext c written) → IsWave c
    → NextSaid (job c) c.limits (shown_in c) c.written written (found_lines c written found)
unfolding found_lines
found_said c written (by_class plain) wave =
    let less = nat_lt (length c.written) (places_of (job c)) in
    let class = class_of (job c) (certain c.written) (length c.written) in
    record {
      within = ltb-true (length c.written) (places_of (job c)) (plain_less (job c) less class plain);
      lines = plain_lines (job c) c.limits c.written less class plain;
      as_said = refl;
    }
found_said c written (by_line line next holds) wave =
    let j = job c in
    let n = length c.written in
    let fits = wave.fits.fits_job in
    let is : class_of j (certain c.written) n ≡ Line = line_class j (nat_lt n (places_of j)) (class_of j (certain c.written) n) next in
    let number : number_of j line.place ≡ n =
    ap (number_of j) holds.place_is ∙ number_of_place_at j n fits.ordering fits.all holds.within in
    let here : IsLineOf j c.limits c.written (line ∷ []) =
    record { line = line; one = refl; place = holds.place_is; holds = holds.holds } in
    record {
      within = holds.within;
      lines = subst (NextLines j c.limits c.written (line ∷ [])) (sym is) here;
      as_said = ap (λ body. line_of body (shown_in c n)) (sym (body_one j line n number))
          ∙ ap (λ class. written_by (written_at c.written) class (body_at j (line ∷ []) n) (shown_in c n)) (sym is);
    }

-- ---- over the start

abbrev contents : Design → List ℕ → Stim → HistoryView → Limits → List Written → List ALine → Contents
contents design order stim history limits written lines = record {
  design = design;
  order = order;
  stim = stim;
  history = history;
  limits = limits;
  written = written;
  lines = lines;
}

over : (start c : Contents) → IsOfJob start c
    → c ≡ contents start.design start.order start.stim start.history start.limits c.written c.lines
over start c same = rw (← same.design, ← same.order, ← same.stim, ← same.history, ← same.limits) refl

objects_before : (start : Contents) (optimistic : Optimistic) (o : IsObjection start optimistic)
    → Objects (job o.before) o.before.limits (shown_in o.before) o.before.written o.before.lines o.written
objects_before start optimistic o = record {
  sound = o.wave.holds.sound;
  new = found_lines o.before o.written o.found;
  said = found_said o.before o.written o.found o.wave;
  optimistic = o.contradicts;
}

pub objections_object : ObjectionsObject
objections_object start optimistic o =
    let c = o.before in
    subst (λ (ls : List ALine). Objects (job start) start.limits (shown_in start) c.written ls o.written)
    (sym o.reports.lines_are)
    (subst (λ (x : Contents). Objects (job x) x.limits (shown_in x) x.written x.lines o.written) (over start c o.same)
    (objects_before start optimistic o))

pub fits_start : (start : Contents) (optimistic : Optimistic) → IsObjection start optimistic → Fits (job start)
fits_start start optimistic o =
    subst (λ (x : Contents). Fits (job x)) (over start o.before o.same) o.wave.fits.fits_job

pub objections_are_exact : ObjectionsAreExact
objections_are_exact start optimistic o =
    objection_law (job start) start.limits (shown_in start) o.before.written optimistic.lines.items o.written
    (fits_start start optimistic o) (objections_object start optimistic o)

pub place_reported : (start : Contents) (optimistic : Optimistic) (o : IsObjection start optimistic)
    → optimistic.place ≡ place_at (job start) (length o.before.written)
place_reported start optimistic o = subst (λ (x : Contents). optimistic.place ≡ place_at (job x) (length x.written))
    (over start o.before o.same) o.reports.place_is

pub replayed_reported : (start : Contents) (optimistic : Optimistic) (o : IsObjection start optimistic)
    → optimistic.replayed ≡ shown_in start (length o.before.written)
replayed_reported start optimistic o = subst (λ (x : Contents). optimistic.replayed ≡ shown_in x (length x.written))
    (over start o.before o.same) o.reports.replayed_is

pub objections_agree : ObjectionsAreOne
objections_agree start limits optimistic other o p decide_o decide_p =
    let one = one_objection (job start) start.limits limits (shown_in start) o.before.written p.before.written
    optimistic.lines.items other.lines.items o.written p.written (fits_start start optimistic o) (objections_object start optimistic o)
    (objections_object (with_limits start limits) other p) decide_o decide_p in
    record {
      place = place_reported start optimistic o ∙ ap (place_at (job start)) one.0
          ∙ sym (place_reported (with_limits start limits) other p);
      replayed = replayed_reported start optimistic o ∙ ap (shown_in start) one.0
          ∙ sym (replayed_reported (with_limits start limits) other p);
      found = o.reports.found_is ∙ ap (λ (w : Written). certain_by w.mark w.value) one.1 ∙ sym p.reports.found_is;
    }

pub waves_are_alike : WavesAreAlike
waves_are_alike c wave = record {
  alike = alike_law (job c) c.limits (shown_in c) c.written c.lines wave.fits.fits_job wave.holds.sound;
  one = one_law (job c) c.limits (shown_in c) c.written c.lines wave.fits.fits_job wave.holds.sound;
}
