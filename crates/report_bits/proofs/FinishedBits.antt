-- A finished wave has each bound bit.
use Rattle.std.proofs.Common.{ℕ, ◌*◌, ◌<◌, length, arith}
use Rattle.design_circuit.specs.Filling.{IsPlace}
use Rattle.design_circuit.specs.Fits.{Fits}
use Rattle.design_circuit.specs.Job.{Job}
use Rattle.design_circuit.specs.Settled.{last_step}
use Rattle.design_circuit.proofs.Handed.{number_within}
use Rattle.design_circuit.proofs.Reaching.{step_small}
use Rattle.recording_binding.specs.BoundBits.{IsBitOf}
use Rattle.recording_binding.specs.declared.bound_bits.BoundBit.{BoundBit}
use Rattle.wave_proved.specs.Contents.{Contents, IsFinished, IsWave, job}
use Rattle.report_bits.specs.BoundPlaces.{HasBit, bit_place}

last_within : (j : Job) → Fits j → (moment : ℕ) → moment < j.moments → last_step j moment < j.moments * j.rounds
last_within j fits moment less =
    let room = step_small j.rounds moment j.moments less in
    let some = fits.some_round in
    omega (arith, room, some)

pub bit_there : (c : Contents) → IsWave c → IsFinished c → (bit : BoundBit)
    → IsBitOf c.design (length c.stim.times) bit → HasBit c bit
bit_there c wave finished bit is =
    let j = job c in
    let fits = wave.fits.fits_job in
    let place : IsPlace j (bit_place c bit) = record { step = last_within j fits bit.moment is.moment; net = is.net } in
    let low = number_within j fits (bit_place c bit) place in
    record { moment = is.moment; written = record { within = place; written = omega (arith, finished, low) } }
