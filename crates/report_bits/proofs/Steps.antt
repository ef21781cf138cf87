-- Places by the steps and positions at which they stand.
use Rattle.std.proofs.Common.{◌≡◌, ℕ, ◌+◌, ◌*◌, ◌<◌, ◌≤◌, ◌^◌, length, sym, ap, ◌∙◌, subst, arith, ⊎_elim}
use Rattle.std.proofs.Math.Nat.{mul_comm, mul-le-mul_right}
use Rattle.std.proofs.lemmas.Bool.{cases_lt}
use Rattle.std.proofs.lemmas.Nat.{div-mul-add, mod-mul-add}
use Rattle.std.specs.Prelude.{slice_index}
use Rattle.design_cell.specs.declared.value.Value.{Value}
use Rattle.design_circuit.specs.Fits.{place_at}
use Rattle.design_circuit.specs.History.{HasPlace, HistoryView, held_in, net_place}
use Rattle.design_circuit.specs.Job.{Job, net_of}
use Rattle.design_circuit.specs.Row.{RowView}
use Rattle.design_circuit.specs.Waveform.{written_at}
use Rattle.design_circuit.specs.declared.place.Place.{Place}
use Rattle.design_circuit.specs.declared.waveform.Written.{Written}
use Rattle.design_circuit.proofs.Numbers.{few_steps}
use Rattle.design_circuit.proofs.Rules.{some_width}
use Rattle.report_bits.proofs.Reach.{there_at}
use Rattle.wave_proved.specs.Contents.{Contents, IsWave, job}
use Rattle.wave_proved.specs.Row.{IsWrittenAt, WaveRowView}

-- The place at a position of a step.
pub place_in_step : (j : Job) (step position : ℕ) → position < j.width
    → place_at j (step * j.width + position) ≡ net_place step (slice_index j.order position)
place_in_step j step position less =
    ap (λ (s : ℕ). net_place s (net_of j (step * j.width + position))) (div-mul-add step j.width position less)
    ∙ ap (λ (p : ℕ). net_place step (slice_index j.order p)) (mod-mul-add step j.width position less)

-- A step that begins at a place of a job is one of the job's.
pub step_within : (width step steps : ℕ) → step * width < width * steps → step < steps
step_within width step steps less = ⊎_elim (λ (below : step < steps). below)
    (λ (up : steps ≤ step).
    let more : steps * width ≤ step * width = mul-le-mul_right width up in
    let turned : steps * width ≡ width * steps = mul_comm steps width in
    absurd (omega (arith, less, more, turned))) (cases_lt step steps)

-- The next step begins behind the last place of one.
pub next_first : (first many step width : ℕ) → first ≡ step * width → many ≡ width
    → first + many ≡ (step + 1) * width
next_first first many step width is whole = omega (arith, is, whole)

module _ (c : Contents) (wave : IsWave c) where
  -- The step of a place that is written has a small number.
  pub step_small : (step first : ℕ) → first ≡ step * length c.design.nets → first < length c.written → step < 2 ^ 32
  step_small step first is less =
      let j = job c in
      let up = wave.holds.sound.within in
      let begins : step * j.width < j.width * (j.moments * j.rounds) = omega (arith, is, less, up) in
      let low = step_within j.width step (j.moments * j.rounds) begins in
      let few = few_steps c.stim in
      omega (arith, low, few)

  -- A job with a place that is written has a net.
  pub some_net : (first : ℕ) → first < length c.written → 0 < length c.design.nets
  some_net first less =
      let j = job c in
      let up = wave.holds.sound.within in
      some_width j.width (j.moments * j.rounds) first (omega (arith, less, up))

  -- The place at a position of a step whose places are written, and that the history has it.
  pub position_there : (step position : ℕ) → (step + 1) * length c.design.nets ≤ length c.written
      → position < length c.design.nets
      → HasPlace c.history (net_place step (slice_index c.order position))
  position_there step position whole low =
      let w = length c.design.nets in
      let reached : step * w + position < length c.written = omega (arith, whole, low) in
      subst (λ (p : Place). HasPlace c.history p) (place_in_step (job c) step position low)
      (there_at c wave (step * w + position) reached).history

-- What the row of a wave has at a position of its step.
module _ (c : Contents) (row : WaveRowView) (step : ℕ) (is : row.wave ≡ c) (stands : row.step ≡ step) where
  pub row_written : (position : ℕ) → (step + 1) * length c.design.nets ≤ length c.written
      → position < length c.design.nets → IsWrittenAt (job row.wave) row.wave.written row.step position
  row_written position whole low =
      subst (λ (w : Contents). IsWrittenAt (job w) w.written row.step position) (sym is)
      (subst (λ (s : ℕ). IsWrittenAt (job c) c.written s position) (sym stands)
      (record { inside = low; reached = omega (arith, whole, low) }))

  pub row_has : (position : ℕ) (written : Written)
      → written ≡ written_at row.wave.written (row.step * (job row.wave).width + position)
      → written ≡ written_at c.written (step * length c.design.nets + position)
  row_has position written it_is =
      it_is ∙ ap (λ (w : Contents). written_at w.written (row.step * (job w).width + position)) is
      ∙ ap (λ (s : ℕ). written_at c.written (s * length c.design.nets + position)) stands

-- What the row of a history has of a net.
module _ (c : Contents) (row : RowView) (step : ℕ) (is : row.history ≡ c.history) (stands : row.step ≡ step) where
  pub row_place : (net : ℕ) → HasPlace c.history (net_place step net) → HasPlace row.history (net_place row.step net)
  row_place net has =
      subst (λ (h : HistoryView). HasPlace h (net_place row.step net)) (sym is)
      (subst (λ (s : ℕ). HasPlace c.history (net_place s net)) (sym stands) has)

  pub row_shown : (net : ℕ) (shown : Value) → shown ≡ (held_in row.history (net_place row.step net)).shown
      → shown ≡ (held_in c.history (net_place step net)).shown
  row_shown net shown it_is =
      it_is ∙ ap (λ (h : HistoryView). (held_in h (net_place row.step net)).shown) is
      ∙ ap (λ (s : ℕ). (held_in c.history (net_place s net)).shown) stands
