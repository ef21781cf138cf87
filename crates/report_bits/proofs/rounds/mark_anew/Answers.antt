-- One place more is marked.
use Rattle.std.proofs.Common.{◌≡◌, ◌-◌, ◌*◌, ◌∙◌, ℕ, length, ap, arith, subst}
use Rattle.design_circuit.specs.Job.{Job}
use Rattle.replay_history.proofs.Watching.{gains_more}
use Rattle.replay_due.specs.Readers.{readers_of}
use Rattle.std.specs.Prelude.{slice_index}
use Rattle.report_bits.proofs.AnewBits.{AreMarkedTo, marked_more, whole_later, written_kept}
use Rattle.wave_proved.specs.Contents.{job}
use Rattle.wave_proved.specs.Row.{anew_position}
use Rattle.report_bits.proofs.rounds.mark_anew.Goals as goal

pub anew_at-places-requires : goal.anew_at-places-requires
anew_at-places-requires c =
    whole_later c.args.wave.now c.args.step c.requires.finished c.requires.later c.requires.step

pub places-preserved : goal.places-preserved
places-preserved c =
    let wave = c.args.wave.now in
    let bits = c.args.bits.now in
    let step = c.args.step in
    let places = c.anew_at-places.result.now in
    let n = c.places.anew-index in
    let less = c.places-test.true in
    let width = c.width_of.ensures ∙ ap (λ (j : Job). j.width) c.circuit.ensures.job in
    let first = ap (λ w. step * w) width in
    let number = c.number.ensures in
    let position = c.number.result - step * c.width_of.result in
    let at : position ≡ anew_position (job wave) step places n = omega (arith, first, number) in
    record {
      long = c.mark_position.ensures.long ∙ c.places.invariant.long;
      more = λ p due. gains_more c.places.due c.mark_position.new.due
          (readers_of bits.readers (slice_index wave.order position)) c.mark_position.ensures.gains p
          (c.places.invariant.more p due);
      marked = marked_more wave bits step places c.anew_at-places.ensures c.places.due c.mark_position.new.due n
          position less at c.mark_position.ensures.gains c.places.invariant.marked;
    }

pub returns-clause-written : goal.returns-clause-written
returns-clause-written c =
    let wave = c.args.wave.now in
    let bits = c.args.bits.now in
    let step = c.args.step in
    let places = c.anew_at-places.result.now in
    let are = c.anew_at-places.ensures in
    let test = c.places-test.false in
    let end = c.places.auto.anew-index-end in
    let all : c.places.anew-index ≡ length places = omega (arith, test, end) in
    written_kept wave bits step places are c.places.due c.circuit.ensures.wave.fits.fits_job c.requires.bits
    (subst (λ (n : ℕ). AreMarkedTo wave bits step places are n c.places.due) all c.places.invariant.marked)
