-- A row of a finished wave that stands at a step, and goes on to the next one.
use Rattle.std.proofs.Common.{◌≡◌, ℕ, ◌+◌, ◌*◌, ◌<◌, ◌≤◌, length, ap, arith, sym, ⊎_elim}
use Rattle.std.proofs.Math.Nat.{mul_comm, mul-le-mul_right}
use Rattle.std.proofs.lemmas.Bool.{cases_lt}
use Rattle.design_circuit.specs.Fits.{Fits}
use Rattle.design_circuit.specs.History.{HasPlace, held_in, net_place}
use Rattle.design_circuit.specs.Order.{position_of}
use Rattle.design_circuit.specs.Replay.{Held}
use Rattle.design_circuit.specs.Waveform.{written_at}
use Rattle.design_circuit.proofs.Reaching.{step_small}
use Rattle.design_circuit.proofs.Rules.{position_in}
use Rattle.wave_proved.specs.Contents.{Contents, job}
use Rattle.wave_proved.specs.Row.{IsWrittenAt, WaveRowView, next_row}
use Rattle.recording_shown.specs.History.{StandsIn, shown_history}
use Rattle.recording_shown.proofs.Showing.{shown_long, shown_there}

module _ (c : Contents) (step : ℕ) (row : WaveRowView) (stands : StandsIn c step row) where
  abbrev w : ℕ
  w = (job c).width

  abbrev steps : ℕ
  steps = (job c).moments * (job c).rounds

  -- Where there is a step more, it is written as a whole.
  pub next_whole : step + 1 < steps → (row.step + 2) * (job row.wave).width ≤ length row.wave.written
  next_whole less =
      let here = stands.there (omega (arith, less)) in
      let wide : (step + 2) * w ≤ steps * w = mul-le-mul_right w (omega (arith, less)) in
      let turned = mul_comm w steps in
      let finished = stands.finished in
      let whole : (step + 2) * w ≤ length c.written = omega (arith, wide, turned, finished) in
      rw (stands.wave, here) whole

  pub stands_next : StandsIn c (step + 1) (next_row row)
  stands_next = record {
    wave = stands.wave;
    finished = stands.finished;
    there = λ less. ap (λ (n : ℕ). n + 1) (stands.there (omega (arith, less)));
  }

  -- Behind the last step it stays.
  pub stands_still : steps ≤ step + 1 → StandsIn c (step + 1) row
  stands_still last = record {
    wave = stands.wave;
    finished = stands.finished;
    there = λ less. absurd (omega (arith, less, last));
  }

  module _ (fits : Fits (job c)) (net : ℕ) (has : HasPlace (shown_history c) (net_place step net)) where
    -- A step at which a net has a place is one of the wave's.
    step_there : step < steps
    step_there =
        let long = shown_long c in
        let inside = has.step in
        let turned = mul_comm w steps in
        ⊎_elim (λ (less : step < steps). less)
        (λ past. absurd (let wide : steps * w ≤ step * w = mul-le-mul_right w past in
        omega (arith, wide, turned, inside, long)))
        (cases_lt step steps)

    pub written_there : IsWrittenAt (job row.wave) row.wave.written row.step (position_of (job c).order net)
    written_there =
        let here = stands.there step_there in
        let low = position_in (job c) fits net has.net in
        let room = step_small w step steps step_there in
        let turned = mul_comm w steps in
        let finished = stands.finished in
        rw (stands.wave, here) (record { inside = low; reached = omega (arith, low, room, turned, finished) })

    -- The net shows what is written there.
    pub value_there :
        (written_at row.wave.written (row.step * (job row.wave).width + position_of (job c).order net)).value
        ≡ (held_in (shown_history c) (net_place step net)).shown
    value_there =
        let here = stands.there step_there in
        rw (stands.wave, here) (sym (ap (λ (held : Held). held.shown) (shown_there c step net has)))
