-- Waves go on over runs of places that have what their nets' places a step before have.
use Rattle.std.proofs.Common.{◌≡◌, ℕ, zero, suc, ◌+◌, ◌-◌, ◌<◌, ◌≤◌, Bool, true, false, Err, Some, None, List, [], ◌∷◌}
use Rattle.std.proofs.Common.{length}
use Rattle.std.proofs.Common.{◌∙◌, length-append, refl, sym, ap, arith, subst, if◌then◌else◌}
use Rattle.std.specs.Prelude.{nat_lt}
use Rattle.std.proofs.lemmas.Bool.{lt-ltb}
use Rattle.design_circuit.specs.declared.waveform.Written.{Written}
use Rattle.design_circuit.specs.Job.{Job, places_of}
use Rattle.law_model.specs.Growth.{NextHolds, NextLines, NextSaid}
use Rattle.law_model.specs.Sound.{IsOptimistic}
use Rattle.law_model.specs.declared.class.ClassByNumber.{ClassByNumber}
use Rattle.law_model.specs.declared.class.ClassByNumber.TheVariants.{Local, Free, Carried, Line}
use Rattle.wave_due.specs.OfQuiet.{IsRepeated, IsRun, before_next, repeated}
use Rattle.wave_due.proofs.LawsOfQuiet.{run_law}
use Rattle.wave_proved.specs.declared.advance.AdvanceErr.{AdvanceErr}
use Rattle.wave_proved.specs.declared.advance.AdvanceErr.TheVariants.{Memory as OutOfMemory, Optimistic as Objection}
use Rattle.wave_proved.specs.Advance.{Contradicts, GoesOn, IfObjects, IsObjected, IsPlain, Objects, Reports, more, plain_written}
use Rattle.wave_proved.specs.Advance.{stays, with_written}
use Rattle.design_circuit.specs.History.{HistoryView}
use Rattle.law_model.specs.declared.line.Line.{Line as ALine}
use Rattle.law_model.specs.declared.limits.Limits.{Limits}
use Rattle.wave_due.specs.OfWaveBytes.{WaveformView}
use Rattle.wave_proved.specs.Contents.{Contents, IsWave, class_in, class_or_done, contents_of, job, next_number, next_seen}
use Rattle.wave_proved.specs.Contents.{shown_in}
use Rattle.wave_proved.proofs.WaveGrowth.{plain_within}

-- A class that needs no line says what its place is.
no_line : (class : ClassByNumber) (j : Job) (limits : Limits) (waveform : List Written) → NextLines j limits waveform [] class
    → IsPlain (class_or_done j (Some class))
no_line (Local bit) j limits waveform none = tt
no_line Free j limits waveform none = tt
no_line (Carried from inverted) j limits waveform none = tt
no_line Line j limits waveform none = let one = none.one in cc

plain_by : (j : Job) (b : Bool) (class : ClassByNumber) → b ≡ true → IsPlain (class_or_done j (Some class))
    → IsPlain (class_or_done j (if b then Some class else None))
plain_by j true class is plain = plain
plain_by j false class is plain = cc

said_plain : (c : Contents) (x : Written) → NextSaid (job c) c.limits (shown_in c) c.written x [] → IsPlain (next_seen c)
said_plain c x said =
    plain_by (job c) (nat_lt (length c.written) (places_of (job c))) (class_in c (next_number c))
    (lt-ltb (length c.written) (places_of (job c)) said.within)
    (no_line (class_in c (next_number c)) (job c) c.limits c.written said.lines)

-- One more, by what holds of it.
one_on : (start c : Contents) (x : Written) → GoesOn start c → NextHolds (job c) c.limits (shown_in c) c.written x []
    → GoesOn start (with_written c x)
one_on start c x goes next =
    let is : plain_written c ≡ x = sym next.said.as_said in
    subst (λ w. GoesOn start (with_written c w)) is
    (more goes (said_plain c x next.said)
    (subst (λ (w : Written). IsOptimistic w.mark w.value (shown_in c (next_number c)) → ⊥) next.said.as_said
    next.honest))

-- A wave with other places written.
abbrev pub with_places : Contents → List Written → Contents
with_places c written = record c { written = written }

goes_by : (c : Contents) (many done : ℕ) → done ≤ many
    → IsRepeated (job c) c.limits (shown_in c) c.written c.lines many
    → GoesOn c (with_places c (repeated (job c) c.written done))
unfolding repeated
goes_by c many zero up run = stays
goes_by c many (suc done) up run =
    let now = repeated (job c) c.written done in
    one_on c (with_places c now) (before_next (job c) now) (goes_by c many done (omega arith) run)
    (run.each done (omega arith))

-- Over a run it goes on, and stays a wave.
pub run_goes : (c : Contents) (many : ℕ) → IsWave c → IsRun (job c) (shown_in c) c.written many
    → GoesOn c (with_places c (repeated (job c) c.written many))
run_goes c many wave run = goes_by c many many (omega arith)
    (run_law (job c) c.limits (shown_in c) c.written c.lines many wave.fits.fits_job wave.holds run)

pub run_wave : (c : Contents) (many : ℕ) → IsWave c → IsRun (job c) (shown_in c) c.written many
    → IsWave (with_places c (repeated (job c) c.written many))
run_wave c many wave run = record {
  fits = wave.fits;
  few = wave.few;
  handed = wave.handed;
  limited = wave.limited;
  holds = (run_law (job c) c.limits (shown_in c) c.written c.lines many wave.fits.fits_job wave.holds run).holds;
}

-- So it is with parts that are the same.
pub goes_pushed : (start : Contents) (written new : WaveformView) (old after : HistoryView) (limits now : Limits)
    (lines kept : List ALine) → new ≡ written → after ≡ old → now ≡ limits → kept ≡ lines
    → GoesOn start (contents_of written old limits lines) → GoesOn start (contents_of new after now kept)
goes_pushed start written new old after limits now lines kept new_is history_is limits_are lines_is goes =
    subst (λ (w : WaveformView). GoesOn start (contents_of w after now kept)) (sym new_is)
    (subst (λ (h : HistoryView). GoesOn start (contents_of written h now kept)) (sym history_is)
    (subst (λ (n : Limits). GoesOn start (contents_of written old n kept)) (sym limits_are)
    (subst (λ (ls : List ALine). GoesOn start (contents_of written old limits ls)) (sym lines_is) goes)))

-- Going on twice is going on.
pub goes_goes : {start mid end : Contents} → GoesOn start mid → GoesOn mid end → GoesOn start end
goes_goes first stays = first
goes_goes first (more goes plain honest) = more (goes_goes first goes) plain honest

-- It takes no place away, and the job stays.
pub goes_longer : {start c : Contents} → GoesOn start c → length start.written ≤ length c.written
goes_longer stays = omega arith
goes_longer (more {c} goes plain honest) =
    let before = goes_longer goes in
    let grows = length-append c.written (plain_written c ∷ []) in
    omega (arith, before, grows)

pub goes_in_job : {start c : Contents} → GoesOn start c → job c ≡ job start
goes_in_job stays = refl
goes_in_job (more goes plain honest) = goes_in_job goes

-- Each run leaves fewer to write, or is the last.
left_over : (again : Bool) → (if again then 1 else 0) ≤ 1
left_over true = omega arith
left_over false = omega arith

pub fewer_left : (start c : Contents) (some again : Bool) → GoesOn start c
    → (some ≡ true → length start.written < length c.written) → (again ≡ true → some ≡ true)
    → length start.written < places_of (job start)
    → (places_of (job c) - length c.written) + (places_of (job c) - length c.written) + (if again then 1 else 0)
    < (places_of (job start) - length start.written) + (places_of (job start) - length start.written) + 1
fewer_left start c true again goes grows any next =
    let longer = grows refl in
    let same = ap places_of (goes_in_job goes) in
    let one = left_over again in
    omega (arith, longer, same, one, next)
fewer_left start c false true goes grows any next = let no = any refl in cc
fewer_left start c false false goes grows any next =
    let longer = goes_longer goes in
    let same = ap places_of (goes_in_job goes) in
    omega (arith, longer, same, next)

-- So does a place that its class says, and a run behind it.
pub fewer_behind : (start mid c : Contents) → IsPlain (next_seen start) → mid ≡ with_written start (plain_written start)
    → GoesOn mid c
    → places_of (job c) - length c.written < places_of (job start) - length start.written
fewer_behind start mid c plain is goes =
    let next = plain_within start plain in
    let longer = goes_longer goes in
    let grown : length mid.written ≡ length start.written + 1 =
    ap (λ (v : Contents). length v.written) is ∙ length-append start.written (plain_written start ∷ []) in
    let same : places_of (job c) ≡ places_of (job start) = ap places_of (goes_in_job goes ∙ ap job is) in
    omega (arith, next, longer, grown, same)

-- Where the next place is objected to, the wave has gone on up to it.
pub objected_by : (start c : Contents) (err : AdvanceErr) → GoesOn start c → IsWave c → IsPlain (next_seen c)
    → (Objects {A = Contents} (Err err) → Contradicts c (plain_written c)) → IfObjects (Reports c (plain_written c)) err
    → IfObjects (IsObjected start) err
objected_by start c (Objection optimistic) goes wave plain contradicts reports = record {
  before = c;
  goes = goes;
  wave = wave;
  plain = plain;
  contradicts = contradicts tt;
  reports = reports;
}
objected_by start c OutOfMemory goes wave plain contradicts reports = tt
