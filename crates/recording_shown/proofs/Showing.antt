-- The places of the history that shows a wave.
use Rattle.std.proofs.Common.{◌≡◌, ◌∙◌, ℕ, zero, suc, ◌+◌, ◌*◌, ◌/◌, ◌%◌, ◌≤◌, length, ap, arith, refl}
use Rattle.std.proofs.lemmas.List.FromFn.{get_or-map-range_with_len, length-map-range_with_len}
use Rattle.std.proofs.lemmas.Nat.{div-mul-add, mod-mul-add, mul-add-lt}
use Rattle.design_circuit.specs.Filling.{IsPlace}
use Rattle.design_circuit.specs.Fits.{Fits}
use Rattle.design_circuit.specs.History.{HasPlace, held_in, net_place}
use Rattle.design_circuit.specs.Job.{places_of}
use Rattle.design_circuit.specs.Replay.{blank}
use Rattle.design_circuit.specs.declared.place.Place.{Place}
use Rattle.recording_writer.specs.Steps.{HasStep}
use Rattle.recording_writer.specs.Text.{HasSteps}
use Rattle.wave_proved.specs.Contents.{Contents, IsFinished, job}
use Rattle.wave_proved.specs.Shown.{ShowsWave}
use Rattle.recording_shown.specs.History.{held_at, shown_history}

module _ (c : Contents) where
  abbrev w : ℕ
  w = (job c).width

  -- It has the places of the job.
  pub shown_long : length (shown_history c).places ≡ places_of (job c)
  shown_long = length-map-range_with_len (λ n. held_at c (n / w) (n % w)) 0 (places_of (job c))

  pub shown_there : (step net : ℕ) → HasPlace (shown_history c) (net_place step net)
      → held_in (shown_history c) (net_place step net) ≡ held_at c step net
  shown_there step net has =
      let long = shown_long in
      let inside = has.step in
      let number = step * w + net in
      get_or-map-range_with_len (λ n. held_at c (n / w) (n % w)) 0 (places_of (job c)) number number blank
      (omega (arith, long, inside)) (omega arith)
      ∙ ap (λ s. held_at c s ((step * w + net) % w)) (div-mul-add step w net has.net)
      ∙ ap (held_at c step) (mod-mul-add step w net has.net)

  -- Each place of the job is one of it.
  pub has_shown : (place : Place) → IsPlace (job c) place → HasPlace (shown_history c) place
  has_shown place is =
      let below = mul-add-lt place.step w place.net ((job c).moments * (job c).rounds) is.step is.net in
      let long = shown_long in
      record { net = is.net; step = omega (arith, below, long) }

  pub shows_wave : ShowsWave c (shown_history c)
  shows_wave = record {
    places = record { nets = refl; all = shown_long };
    held = λ place written. shown_there place.step place.net (has_shown place written.within);
  }

  pub has_steps : Fits (job c) → HasSteps c.design c.stim (shown_history c)
  has_steps fits =
      let long = shown_long in
      let few = fits.few_places in
      record { nets = refl; places = long; few = omega (arith, long, few); few_nets = fits.few_nets }

  -- A step at which each net has a place is written as a whole, and is one of the job where there is any net.
  pub whole_step : (step : ℕ) → IsFinished c → HasStep (shown_history c) step → (step + 1) * w ≤ length c.written
  whole_step step finished has = whole w refl
    where
      whole : (n : ℕ) → n ≡ w → (step + 1) * w ≤ length c.written
      whole zero same = rw (← same) (omega arith)
      whole (suc n) same =
          let long = shown_long in
          let last = (has.places n (omega (arith, same))).step in
          omega (arith, same, last, long, finished)
