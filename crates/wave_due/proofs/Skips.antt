-- Places of which none is due are passed over.
use Rattle.std.proofs.Common.{◌≡◌, ℕ, zero, suc, ◌+◌, ◌*◌, ◌%◌, ◌<◌, ◌≤◌, ◌==◌, false, List, length, refl, sym, arith}
use Rattle.std.proofs.Common.{subst}
use Rattle.design_cell.specs.declared.value.Value.{Value}
use Rattle.design_circuit.specs.declared.waveform.Written.{Written}
use Rattle.design_circuit.specs.Fits.{Fits}
use Rattle.design_circuit.specs.Job.{Job, places_of, step_of}
use Rattle.design_circuit.specs.Waveform.{certain}
use Rattle.law_model.specs.Class.{class_of}
use Rattle.design_circuit.proofs.Rules.{spot}
use Rattle.wave_bytes.specs.OfQuiet.{taken_on, IsRepeated, IsRun, repeated, spot_at}
use Rattle.wave_bytes.proofs.LawsOfQuiet.{agrees_before, copies_law, quiet_later, run_law}
use Rattle.wave_bytes.proofs.LawsOfQuiet.{none_due_law, repeated_long, skip_law}
use Rattle.replay_due.specs.Due.{NoneBetween, is_due}
use Rattle.wave_bytes.specs.Repeat.{IsRepeatable, IsStretch}
use Rattle.wave_bytes.specs.View.{WaveformView, and_repeated, job}
use Rattle.wave_due.specs.Walk.{IsHeld, IsWalk, IsWalkAt, shown_by}
use Rattle.wave_due.specs.declared.walk.Walk.{Walk}
use Rattle.wave_due.proofs.Fronts.{step_room}

-- No places are a run.
row_end : (w s p n : ℕ) → s * w + p ≡ n → p < w → n ≤ (s + 1) * w
row_end w s p n whole low = omega (arith, whole, low)

no_run : (j : Job) → Fits j → (shown : ℕ → Value) (waveform : List Written) → length waveform < places_of j
    → IsRun j shown waveform 0
no_run j fits shown waveform within =
    let n : ℕ = length waveform in
    let here = spot j fits n within in
    let up = row_end j.width (step_of j n) (n % j.width) n here.whole here.position in
    record {
      within = omega (arith, within);
      one_step = omega (arith, up);
      rests = λ place from less. absurd (omega (arith, from, less));
      shows = λ place from less. absurd (omega (arith, from, less));
    }

pub none_due : (j : Job) → Fits j → (shown : ℕ → Value) (waveform : List Written) (walk : Walk) (step position many : ℕ)
    → length waveform < places_of j → position + many ≤ j.width → spot_at j step j.width ≤ places_of j
    → IsWalkAt j shown waveform walk step position → NoneBetween walk.waiting.due position (position + many)
    → IsRun j shown waveform many
none_due j fits shown waveform walk step position zero within up room at_it none = no_run j fits shown waveform within
none_due j fits shown waveform walk step position (suc many) within up room at_it none =
    none_due_law j shown waveform step position (suc many) (is_due walk.waiting.due) (is_due walk.waiting.ahead) fits
    (omega arith) up room at_it.gone
    (λ p from less. (none p from less, at_it.shows p from (omega (arith, less, up)) (none p from less)))

-- They can be written again, and are gone over.
pub held_run : (j : Job) → Fits j → (shown : ℕ → Value) (waveform : List Written) (many : ℕ)
    → (held : IsHeld j shown waveform) → IsRun j shown waveform many
    → IsRepeated j held.limits shown waveform held.lines many
held_run j fits shown waveform many held run = run_law j held.limits shown waveform held.lines many fits held.holds run

pub skipped : (j : Job) → Fits j → (shown : ℕ → Value) (waveform : List Written) (walk : Walk) (step position many : ℕ)
    → (held : IsHeld j shown waveform) → position + many ≤ j.width → spot_at j step j.width ≤ places_of j
    → IsWalkAt j shown waveform walk step position → IsRun j shown waveform many
    → IsWalkAt j shown (repeated j waveform many) walk step (position + many)
skipped j fits shown waveform walk step position many held up room at_it run = record {
  gone = skip_law j held.limits shown waveform held.lines step position many (is_due walk.waiting.due)
      (is_due walk.waiting.ahead) fits up room at_it.gone (held_run j fits shown waveform many held run);
  shows = λ p from low none. at_it.shows p (omega (arith, from)) low none;
}

-- So the waveform can have them written again.
behind_first : (w s p n : ℕ) → s * w + p ≡ n → (s == 0) ≡ false → w ≤ n
behind_first w zero p n whole later = cc
behind_first w (suc s) p n whole later = omega (arith, whole)

pub run_stretch : (j : Job) → Fits j → (shown : ℕ → Value) (waveform : List Written) (many : ℕ) → 0 < many
    → IsRun j shown waveform many → IsStretch j (length waveform) many
run_stretch j fits shown waveform many some run =
    let n : ℕ = length waveform in
    let within = run.within in
    let here = spot j fits n (omega (arith, within, some)) in
    let later = quiet_later j (certain waveform) (taken_on j (class_of j (certain waveform)) n) n
    (run.rests n (omega arith) (omega (arith, some))) in
    record {
      later = behind_first j.width (step_of j n) (n % j.width) n here.whole later;
      within = within;
      one_step = run.one_step;
    }

pub run_repeatable : (v : WaveformView) → Fits (job v) → (shown : ℕ → Value) (many : ℕ) → 0 < many
    → IsHeld (job v) shown v.written → IsRun (job v) shown v.written many → IsRepeatable v many
run_repeatable v fits shown many some held run =
    let j = job v in
    let again = held_run j fits shown v.written many held run in
    let after = repeated j v.written many in
    let long = repeated_long j v.written many in
    record {
      stretch = run_stretch j fits shown v.written many some run;
      agrees = agrees_before j held.limits shown after held.lines again.holds.sound (length after) (omega arith);
      copies = copies_law j held.limits shown after held.lines fits again.holds held.copies;
      steady = record {
        says = λ place from less. again.says place from (omega (arith, less, long));
        steady = λ place from less. again.steady place from (omega (arith, less, long));
      };
    }

-- The positions up to the next one that is due, or the end of the step, are a run;
pub due_run : (j : Job) → Fits j → (waveform : List Written) (walk : Walk) (next end many : ℕ) → IsWalk j waveform walk
    → length waveform < places_of j → NoneBetween walk.waiting.due (length waveform % j.width) next → end ≤ next
    → end ≤ j.width → length waveform % j.width + many ≡ end → IsRun j (shown_by j walk) waveform many
due_run j fits waveform walk next end many is more none within_next within_row whole =
    let n : ℕ = length waveform in
    let here = spot j fits n more in
    none_due j fits (shown_by j walk) waveform walk (step_of j n) (n % j.width) many more
    (omega (arith, whole, within_row))
    (step_room j (step_of j n) (n % j.width) n here.position (sym here.whole) more) (is.here more)
    (λ p from less. none p from (omega (arith, less, whole, within_next)))

-- and once they are written again the walk has gone on over them.
pub skipped_walk : (j : Job) → Fits j → (waveform : List Written) (walk : Walk) (many : ℕ) → IsWalk j waveform walk
    → length waveform < places_of j → IsHeld j (shown_by j walk) waveform → length waveform % j.width + many ≤ j.width
    → IsRun j (shown_by j walk) waveform many
    → IsWalkAt j (shown_by j walk) (repeated j waveform many) walk walk.replayed.step (length waveform % j.width + many)
skipped_walk j fits waveform walk many is more held up run =
    let n : ℕ = length waveform in
    let here = spot j fits n more in
    subst (λ s. IsWalkAt j (shown_by j walk) (repeated j waveform many) walk s (n % j.width + many))
    (sym (is.reads more))
    (skipped j fits (shown_by j walk) waveform walk (step_of j n) (n % j.width) many held up
    (step_room j (step_of j n) (n % j.width) n here.position (sym here.whole) more) (is.here more) run)

-- No places written again leave the waveform as it is.
pub repeat_none : (v : WaveformView) (many : ℕ) → many ≡ 0 → v ≡ and_repeated v many
unfolding repeated
repeat_none v zero is = refl
repeat_none v (suc many) is = absurd (omega (arith, is))
