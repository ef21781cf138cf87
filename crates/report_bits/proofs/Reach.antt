-- Places of a wave that its history has too.
use Rattle.std.proofs.Common.{ℕ, ◌+◌, ◌*◌, ◌<◌, ◌≤◌, length, arith}
use Rattle.std.proofs.Math.Nat.{mul_comm, mul-le-mul_right}
use Rattle.design_circuit.specs.Filling.{IsPlace}
use Rattle.design_circuit.specs.Fits.{Fits, place_at}
use Rattle.design_circuit.specs.History.{HasPlace}
use Rattle.design_circuit.specs.Job.{Job, number_of, places_of}
use Rattle.design_circuit.specs.Settled.{last_step}
use Rattle.design_circuit.specs.declared.place.Place.{Place}
use Rattle.design_circuit.proofs.Handed.{handed_places, has_place, number_within}
use Rattle.design_circuit.proofs.Numbers.{is_place_at, number_of_place_at}
use Rattle.design_circuit.proofs.Reaching.{step_small}
use Rattle.report_bits.specs.Finished.{HasStep}
use Rattle.wave_proved.specs.Contents.{Contents, IsFinished, IsWave, IsWritten, job}

-- A place is written, and the history has it.
pub record IsThere (c : Contents) (place : Place) : Type 0 where
  pub written : IsWritten c place
  pub history : HasPlace c.history place

there : (c : Contents) → IsWave c → (place : Place) → IsPlace (job c) place → number_of (job c) place < length c.written
    → IsThere c place
there c wave place is less = record {
  written = record { within = is; written = less };
  history = has_place (job c) c.history place (handed_places (job c) c.history wave.handed) is;
}

-- The place of a number that is written is there.
pub there_at : (c : Contents) → IsWave c → (number : ℕ) → number < length c.written → IsThere c (place_at (job c) number)
there_at c wave number less =
    let j = job c in
    let fits = wave.fits.fits_job in
    let room = wave.holds.sound.within in
    let within : number < places_of j = omega (arith, room, less) in
    there c wave (place_at j number) (is_place_at j number fits.ordering fits.all within)
    (rw (number_of_place_at j number fits.ordering fits.all within) less)

-- The last step of a moment is one of the job's.
last_within : (j : Job) → Fits j → (moment : ℕ) → moment < j.moments → last_step j moment < j.moments * j.rounds
last_within j fits moment less =
    let room = step_small j.rounds moment j.moments less in
    let some = fits.some_round in
    omega (arith, room, some)

net_there : (c : Contents) → IsWave c → IsFinished c → (moment net : ℕ) → moment < length c.stim.times
    → net < length c.design.nets → IsThere c (record { step = last_step (job c) moment; net = net })
net_there c wave finished moment net less within =
    let j = job c in
    let fits = wave.fits.fits_job in
    let place : Place = record { step = last_step j moment; net = net } in
    let is : IsPlace j place = record { step = last_within j fits moment less; net = within } in
    let low = number_within j fits place is in
    there c wave place is (omega (arith, finished, low))

-- All places of the last step of a moment are written.
whole_there : (c : Contents) → IsWave c → IsFinished c → (moment : ℕ) → moment < length c.stim.times
    → (last_step (job c) moment + 1) * length c.design.nets ≤ length c.written
whole_there c wave finished moment less =
    let j = job c in
    let steps = j.moments * j.rounds in
    let low : last_step j moment + 1 ≤ steps = omega (arith, last_within j wave.fits.fits_job moment less) in
    let most : (last_step j moment + 1) * j.width ≤ steps * j.width = mul-le-mul_right j.width low in
    let turned = mul_comm steps j.width in
    omega (arith, most, turned, finished)

-- In a finished wave each net's place at the last step of a moment is there.
pub moment_there : (c : Contents) → IsWave c → IsFinished c → (moment : ℕ) → moment < length c.stim.times
    → HasStep c (last_step (job c) moment)
moment_there c wave finished moment less = record {
  written = λ net within. (net_there c wave finished moment net less within).written;
  history = λ net within. (net_there c wave finished moment net less within).history;
  whole = whole_there c wave finished moment less;
}
