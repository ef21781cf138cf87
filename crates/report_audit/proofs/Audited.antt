-- The places of an audit are written, and the replay has them.
use Rattle.std.proofs.Common.{◌≡◌, ℕ, ◌*◌, ◌<◌, ◌∙◌, length, arith, ap, sym, subst}
use Rattle.design_circuit.proofs.PlaceNumbers.{place_back}
use Rattle.design_circuit.proofs.Numbers.{is_place_at}
use Rattle.design_circuit.specs.Filling.{IsPlace}
use Rattle.design_circuit.specs.Fits.{place_at}
use Rattle.design_circuit.specs.Job.{Job, number_of, places_of}
use Rattle.design_circuit.specs.Replay.{Held, shown_at}
use Rattle.design_circuit.specs.History.{HasPlace, HistoryView}
use Rattle.design_circuit.specs.declared.place.Place.{Place}
use Rattle.design_circuit.proofs.Handed.{has_place, number_within}
use Rattle.wave_proved.specs.Contents.{Contents, IsWave, IsWritten, job}
use Rattle.design_circuit.proofs.Replays.{replay_prefix}
use Rattle.report_audit.specs.Listed.{IsAudit, replayed_at}

pub is_written : (c : Contents) (replay : HistoryView) → IsWave c → IsAudit c replay → (place : Place)
    → place.step < (job c).moments * (job c).rounds → place.net < (job c).width → IsWritten c place
is_written c replay wave audit place step net =
    let is : IsPlace (job c) place = record { step = step; net = net } in
    let low = number_within (job c) wave.fits.fits_job place is in
    let finished = audit.finished in
    record { within = is; written = omega (arith, finished, low) }

pub is_replayed : (c : Contents) (replay : HistoryView) → IsAudit c replay → (place : Place)
    → place.step < (job c).moments * (job c).rounds → place.net < (job c).width → HasPlace replay place
is_replayed c replay audit place step net =
    has_place (job c) replay place audit.replayed.places (record { step = step; net = net })

-- The place of a number that is written.
pub record IsAt (c : Contents) (number : ℕ) (place : Place) : Type 0 where
  pub at : place ≡ place_at (job c) number
  pub within : IsPlace (job c) place

pub place_there : (c : Contents) → IsWave c → (j : Job) → j ≡ job c → (number : ℕ) → number < length c.written
    → (place : Place) → place ≡ place_at j number → IsAt c number place
place_there c wave j same number less place is =
    let fits = wave.fits.fits_job in
    let up = wave.holds.sound.within in
    let at : place ≡ place_at (job c) number = is ∙ ap (λ (i : Job). place_at i number) same in
    record { at = at; within = subst (IsPlace (job c)) (sym at) (is_place_at (job c) number fits.ordering fits.all (omega (arith, up, less))) }

-- What is read in the history is what the replay shows.
pub replay_shows : (c : Contents) (replay : HistoryView) → IsWave c → IsAudit c replay → (place : Place)
    → IsPlace (job c) place → replayed_at replay place ≡ shown_at (job c) (number_of (job c) place)
replay_shows c replay wave audit place is =
    let j = job c in
    let n = number_of j place in
    let less = number_within j wave.fits.fits_job place is in
    ap (λ (p : Place). replayed_at replay p) (sym (place_back j wave.fits.fits_job place is))
    ∙ ap (λ (h : Held). h.shown) (audit.replayed.held n less) ∙ replay_prefix j (places_of j) n less
