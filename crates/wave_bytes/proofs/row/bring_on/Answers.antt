-- The row is brought on past a change.
use Rattle.std.proofs.Common.{◌≡◌, ◌+◌, ◌-◌, ◌*◌, ◌∙◌, length, slice_set, ap, sym, subst, arith}
use Rattle.wave_bytes.specs.Anew.{anew_number, nth_anew}
use Rattle.wave_bytes.specs.Changed.{IsRowUpTo, anew_behind, anew_position}
use Rattle.wave_bytes.specs.View.{job}
use Rattle.wave_bytes.proofs.AnewPlaces.{row_ends, row_past}
use Rattle.wave_bytes.proofs.row.bring_on.Goals as goal

pub places-preserved : goal.places-preserved
places-preserved c =
    let v = c.args.waveform.now in
    let places = c.anew_at-places.result.now in
    let test = c.places-test.true in
    let at : anew_position (job v) (c.args.step + 1) places c.places.k
    ≡ c.number.result - (c.args.step + 1) * length c.args.row.now =
    sym (ap (λ n. n - (c.args.step + 1) * length c.args.row.now) c.number.ensures
    ∙ ap (λ w. anew_number (nth_anew places c.places.k) - (c.args.step + 1) * w) c.requires.row.long) in
    record {
      row = subst (λ p. IsRowUpTo v c.args.step (anew_behind (job v) (c.args.step + 1) places (c.places.k + 1))
          (slice_set c.places.row p c.written.result)) at
          (row_past v c.args.step c.places.k places c.places.row c.written.result c.anew_at-places.ensures
          (omega (arith, test)) c.written.ensures c.places.invariant.row);
    }

pub returns : goal.returns
returns c =
    let test = c.places-test.false in
    let end = c.places.auto.k-end in
    row_ends c.args.waveform.now c.args.step c.places.k c.anew_at-places.result.now c.places.row c.anew_at-places.ensures
    (omega (arith, test, end)) c.places.invariant.row
