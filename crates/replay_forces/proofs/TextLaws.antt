-- The replay under the forces of values has their text.
use Rattle.std.proofs.Common.{◌≡◌, ℕ, ◌+◌, ◌*◌, ◌<◌, ◌≤◌, List, length, sym, ap, ◌∙◌, arith}
use Rattle.std.proofs.Math.Nat.{mul-le-mul_right}
use Rattle.design_cell.specs.declared.value.Value.{Value}
use Rattle.design_circuit.specs.Parts.{PartsFit}
use Rattle.design_circuit.specs.Fits.{Fits}
use Rattle.design_circuit.specs.Force.{forced_by}
use Rattle.design_circuit.specs.Handed.{IsReplayUnder, shown_of}
use Rattle.design_circuit.specs.History.{HistoryView, held_in}
use Rattle.design_circuit.specs.Job.{Job, at, job_of, places_of}
use Rattle.design_circuit.specs.Replay.{Held}
use Rattle.design_circuit.specs.declared.design.Design.{Design}
use Rattle.design_circuit.specs.declared.force.Event.{Event}
use Rattle.design_circuit.specs.declared.stim.Stim.{Stim}
use Rattle.design_circuit.proofs.Numbers.{is_place_at, number_of_place_at}
use Rattle.design_circuit.proofs.Rules.{position_in}
use Rattle.recording_binding.specs.Binding.{FitsBinding}
use Rattle.recording_binding.specs.declared.binding.Binding.{Binding}
use Rattle.recording_writer.specs.Laws.{ShowTheSame}
use Rattle.design_circuit.specs.Settled.{last_round}
use Rattle.recording_writer.specs.Text.{vcd_text}
use Rattle.recording_writer.proofs.OneText.{text_same}
use Rattle.replay_history.proofs.Places.{place_at_net}
use Rattle.replay_history.proofs.Writing.{place_within}
use Rattle.wave_proved.specs.Contents.{Contents, IsFinished, job}
use Rattle.wave_proved.specs.Shown.{ShowsWave}
use Rattle.replay_forces.specs.ForcesOf.{AreForcesOf}
use Rattle.replay_forces.specs.Waves.{values_of}
use Rattle.replay_forces.proofs.Showing.{forces_show}

-- Histories that show the same at each place do so at the last round of each moment.
last_same : (design : Design) (order : List ℕ) (stim : Stim) (first second : HistoryView) → Fits (job_of design order stim) → ((place : ℕ) → place < places_of (job_of design order stim) → shown_of (job_of design order stim) first place ≡ shown_of (job_of design order stim) second place) → ShowTheSame design stim first second
last_same design order stim first second fits same moment net less low =
    sym (shown first) ∙ (same (at j step net) inside ∙ shown second)
  where
    j : Job
    j = job_of design order stim

    step : ℕ
    step = last_round stim.rounds moment

    within : step < j.moments * j.rounds
    within =
        let more : (moment + 1) * stim.rounds ≤ length stim.times * stim.rounds = mul-le-mul_right stim.rounds (omega (arith, less)) in
        let some = fits.some_round in
        omega (arith, more, some)

    inside : at j step net < places_of j
    inside = place_within j step _ within (position_in j fits net low)

    shown : (h : HistoryView) → shown_of j h (at j step net) ≡ (held_in h record { step = step; net = net }).shown
    shown h = ap (λ place. (held_in h place).shown) (place_at_net j fits step net low)

pub text_shown : (design : Design) (order : List ℕ) (stim : Stim) (binding : Binding) (values : ℕ → Value) (events : List Event) (replayed shown : HistoryView) → PartsFit design order stim → FitsBinding design binding → AreForcesOf (job_of design order stim) values events → IsReplayUnder (job_of design order stim) (forced_by (job_of design order stim) events) replayed → ((place : ℕ) → place < places_of (job_of design order stim) → shown_of (job_of design order stim) shown place ≡ values place) → vcd_text design binding stim replayed ≡ vcd_text design binding stim shown
text_shown design order stim binding values events replayed shown fits bound are is shows =
    text_same design binding stim replayed shown bound (last_same design order stim replayed shown fits.fits_job (λ place within. forces_show (job_of design order stim) values events replayed are is place within ∙ sym (shows place within)))

pub wave_shown : (c : Contents) (binding : Binding) (events : List Event) (replayed shown : HistoryView) → PartsFit c.design c.order c.stim → FitsBinding c.design binding → IsFinished c → AreForcesOf (job c) (values_of c) events → IsReplayUnder (job c) (forced_by (job c) events) replayed → ShowsWave c shown → vcd_text c.design binding c.stim replayed ≡ vcd_text c.design binding c.stim shown
wave_shown c binding events replayed shown fits bound finished are is shows =
    text_shown c.design c.order c.stim binding (values_of c) events replayed shown fits bound are is each
  where
    each : (place : ℕ) → place < places_of (job c) → shown_of (job c) shown place ≡ values_of c place
    each place within =
        let f = fits.fits_job in
        let number = number_of_place_at (job c) place f.ordering f.all within in
        ap (λ (held : Held). held.shown) (shows.held _ record { within = is_place_at (job c) place f.ordering f.all within; written = omega (arith, number, within, finished) })
        ∙ ap (values_of c) number
