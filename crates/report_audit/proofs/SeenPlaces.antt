-- Places that are seen one after another.
use Rattle.std.proofs.Common.{◌≡◌, ℕ, zero, suc, ◌+◌, ◌*◌, ◌<◌, ◌≤◌, Bool, true, false, List, ◌++◌, length, sym, ap, ◌∙◌, subst, add-one, arith}
use Rattle.std.proofs.Math.Nat.{mul_comm}
use Rattle.std.specs.Prelude.{slice_index}
use Rattle.design_cell.specs.declared.value.Value.{Value}
use Rattle.design_circuit.specs.declared.place.Place.{Place}
use Rattle.design_circuit.specs.declared.waveform.Written.{Written}
use Rattle.design_circuit.specs.Filling.{IsPlace}
use Rattle.design_circuit.specs.Fits.{place_at}
use Rattle.design_circuit.specs.History.{HasPlace, HistoryView, held_in, net_place}
use Rattle.design_circuit.specs.Job.{Job, number_of, places_of}
use Rattle.design_circuit.specs.Row.{RowView}
use Rattle.design_circuit.specs.Waveform.{written_at}
use Rattle.design_circuit.proofs.Numbers.{is_place_at, number_of_place_at}
use Rattle.design_circuit.proofs.Reaching.{step_small}
use Rattle.report_bits.specs.Counts.{one_if}
use Rattle.report_bits.proofs.Steps.{place_in_step, step_within}
use Rattle.wave_proved.specs.Contents.{Contents, IsWave, job, written_of}
use Rattle.report_audit.specs.Found.{Adds, AreFound, listed_below, listed_if, open_below}
use Rattle.report_audit.specs.Listed.{IsAudit, is_listed, is_open, leaves_open, lists}
use Rattle.report_audit.specs.Seen.{AreSeen, BeginsStep, StandsInRow}
use Rattle.report_audit.specs.declared.found.Found.{Found}
use Rattle.report_audit.proofs.AddedPlaces.{more_added}
use Rattle.report_audit.proofs.Audited.{is_replayed}

module _ (c : Contents) where
  few_one : (open_ : Bool) → one_if open_ ≤ 1
  few_one true = omega arith
  few_one false = omega arith

  -- No more places are open than there are.
  pub open_few : (replay : HistoryView) (n : ℕ) → open_below c replay n ≤ n
  open_few replay zero = omega arith
  open_few replay (suc n) =
      let rest = open_few replay n in
      let one = few_one (is_open c replay (place_at (job c) n)) in
      omega (arith, rest, one)

  -- The next place is seen too.
  pub seen_more : (replay : HistoryView) (n : ℕ) (place : Place) (old new : List Found) (unsure more : ℕ)
      → place ≡ place_at (job c) n → AreSeen c replay n old unsure
      → Adds c replay old (listed_if (is_listed c replay place) place) new
      → more ≡ unsure + one_if (is_open c replay place) → AreSeen c replay (n + 1) new more
  seen_more replay n place old new unsure more at seen adds is = record {
    told = subst (λ (m : ℕ). AreFound c replay (listed_below c replay m) new) (sym (add-one n))
        (subst (λ (p : Place). AreFound c replay (listed_below c replay n ++ listed_if (is_listed c replay p) p) new) at
        (more_added c replay old new (listed_below c replay n) _ seen.told adds));
    counted = is ∙ ap (λ (m : ℕ). m + one_if (is_open c replay place)) seen.counted
        ∙ ap (λ (p : Place). open_below c replay n + one_if (is_open c replay p)) at
        ∙ ap (open_below c replay) (sym (add-one n));
  }

  -- The replay has a place that stands in a row of it.
  pub row_has : (row : RowView) (place : Place) (written : Written) → StandsInRow c row place written
      → HasPlace row.history (net_place row.step place.net)
  row_has row place written stands =
      subst (λ (step : ℕ). HasPlace row.history (net_place step place.net)) stands.step
      (is_replayed c row.history stands.audit place stands.within.step stands.within.net)

  -- The test of a place in hand is that of a listed one.
  pub listed_as : (row : RowView) (place : Place) (written : Written) (shown : Value) → StandsInRow c row place written
      → shown ≡ (held_in row.history (net_place row.step place.net)).shown
      → lists written.mark written.value shown ≡ is_listed c row.history place
  listed_as row place written shown stands is =
      ap (λ (w : Written). lists w.mark w.value shown) stands.written_is
      ∙ ap (lists (written_of c place).mark (written_of c place).value)
      (is ∙ ap (λ (step : ℕ). (held_in row.history (net_place step place.net)).shown) (sym stands.step))

  -- So is that of an open one.
  pub open_as : (row : RowView) (place : Place) (written : Written) (shown : Value) → StandsInRow c row place written
      → shown ≡ (held_in row.history (net_place row.step place.net)).shown
      → leaves_open written.mark shown ≡ is_open c row.history place
  open_as row place written shown stands is =
      ap (λ (w : Written). leaves_open w.mark shown) stands.written_is
      ∙ ap (leaves_open (written_of c place).mark)
      (is ∙ ap (λ (step : ℕ). (held_in row.history (net_place step place.net)).shown) (sym stands.step))

  -- The step that begins at a number has room in a finished wave.
  pub step_ends : (row : RowView) (first : ℕ) → BeginsStep c row first → first + (job c).width ≤ length c.written
  step_ends row first begins =
      let j = job c in
      let room = step_small j.width row.step (j.moments * j.rounds) begins.step in
      let finished = begins.audit.finished in
      let is = begins.first_of in
      let turned : (j.moments * j.rounds) * j.width ≡ j.width * (j.moments * j.rounds) =
      mul_comm (j.moments * j.rounds) j.width in
      omega (arith, room, finished, is, turned)

  -- A step begins at the number of a place.
  pub begins_at : (row : RowView) (first : ℕ) → IsAudit c row.history → first ≡ row.step * (job c).width
      → first < length c.written → BeginsStep c row first
  begins_at row first audit is less =
      let j = job c in
      let finished = audit.finished in
      let below : row.step * j.width < j.width * (j.moments * j.rounds) = omega (arith, finished, is, less) in
      record { audit = audit; step = step_within j.width row.step (j.moments * j.rounds) below; first_of = is }

  module _ (wave : IsWave c) where
    -- What stands at a position of a step is that of its number.
    pub stands_at : (j : Job) → j ≡ job c → (row : RowView) (first position net : ℕ) (place : Place) (written : Written)
        → BeginsStep c row first → position < (job c).width → net ≡ slice_index j.order position
        → place ≡ net_place row.step net → written ≡ written_at c.written (first + position)
        → (place ≡ place_at (job c) (first + position)) × StandsInRow c row place written
    stands_at j same row first position net place written begins low is place_is written_is =
        let i = job c in
        let fits = wave.fits.fits_job in
        let ends = step_ends row first begins in
        let finished = begins.audit.finished in
        let within : first + position < places_of i = omega (arith, ends, finished, low) in
        let at : place ≡ place_at i (first + position) =
        place_is ∙ ap (λ (n : ℕ). net_place row.step n) (is ∙ ap (λ (k : Job). slice_index k.order position) same)
        ∙ sym (place_in_step i row.step position low)
        ∙ ap (λ (n : ℕ). place_at i (n + position)) (sym begins.first_of) in
        let number : number_of i place ≡ first + position =
        ap (number_of i) at ∙ number_of_place_at i (first + position) fits.ordering fits.all within in (
          at,
          record {
            audit = begins.audit;
            within = subst (IsPlace i) (sym at) (is_place_at i (first + position) fits.ordering fits.all within);
            step = ap (λ (p : Place). p.step) place_is;
            written_is = written_is ∙ ap (written_at c.written) (sym number);
          },
        )
