-- The step is written as a whole, and each place that was written anew is marked.
use Rattle.std.proofs.Common.{◌≡◌, ◌∙◌, ◌-◌, ◌*◌, ℕ, ap, arith, length, refl, subst}
use Rattle.std.specs.Prelude.{slice_index}
use Rattle.design_circuit.specs.Job.{Job}
use Rattle.replay_history.specs.Watched.{AreReadersDue}
use Rattle.wave_proved.specs.Contents.{job}
use Rattle.wave_proved.specs.Row.{anew_behind, anew_number, anew_position, nth_anew}
use Rattle.recording_shown.proofs.Keeping.{KeptTo, kept_all, kept_letters, kept_more, kept_none}
use Rattle.recording_shown.proofs.Showing.{whole_step}
use Rattle.recording_shown.proofs.marks.mark_anew.Goals as goal

pub anew_at-anew-requires : goal.anew_at-anew-requires
anew_at-anew-requires c = record {
  later = c.requires.later;
  whole = whole_step c.args.wave.now c.args.step c.requires.finished c.requires.step;
}

pub places-init : goal.places-init
places-init c = record {
  long = refl;
  more = λ position was. was;
  kept = kept_none c.args.wave.now c.args.readers.now.table c.args.step c.args.due.now;
}

pub places-preserved : goal.places-preserved
places-preserved c =
    let wave = c.args.wave.now in
    let table = c.args.readers.now.table in
    let marked = c.mark_position.ensures in
    let anew = c.anew_at-anew.result.now in
    let i = c.places.place-index in
    let same = c.circuit-circuit.ensures.job in
    let width : c.width_of.result ≡ (job wave).width = c.width_of.ensures ∙ ap (λ (j : Job). j.width) same in
    let position : c.number.result - c.args.step * c.width_of.result ≡ anew_position (job wave) c.args.step anew i =
    ap (λ (n : ℕ). n - c.args.step * c.width_of.result) c.number.ensures
    ∙ ap (λ (w : ℕ). anew_number (nth_anew anew i) - c.args.step * w) width in
    let net : slice_index c.circuit-circuit.result.order.now (c.number.result - c.args.step * c.width_of.result)
    ≡ slice_index (job wave).order (anew_position (job wave) c.args.step anew i) =
    ap (λ (j : Job). slice_index j.order (c.number.result - c.args.step * c.width_of.result)) same
    ∙ ap (λ (p : ℕ). slice_index (job wave).order p) position in
    record {
      long = marked.long ∙ c.places.invariant.long;
      more = λ position was. marked.more position (c.places.invariant.more position was);
      kept = kept_more wave table c.args.step anew i c.places.due c.mark_position.new.due c.anew_at-anew.ensures
          c.places-test.true marked.more
          (subst (λ (n : ℕ). AreReadersDue table n c.mark_position.new.due) net marked.due) c.places.invariant.kept;
    }

pub returns-clause-kept : goal.returns-clause-kept
returns-clause-kept c =
    let wave = c.args.wave.now in
    let table = c.args.readers.now.table in
    let anew = c.anew_at-anew.result.now in
    let test = c.places-test.false in
    let end = c.places.auto.place-index-end in
    let last : c.places.place-index ≡ length anew = omega (arith, test, end) in
    kept_letters wave table c.args.step c.places.due c.circuit-circuit.ensures.wave.fits.fits_job c.requires.step
    (kept_all wave table c.args.step anew c.places.due c.anew_at-anew.ensures
    (subst (λ (n : ℕ). KeptTo wave table c.args.step (anew_behind (job wave) c.args.step anew n) c.places.due) last
    c.places.invariant.kept))
