-- Places of a wave by their numbers.
use Rattle.std.proofs.Common.{◌≡◌, ℕ, ◌<◌, length, arith}
use Rattle.design_circuit.specs.declared.spot.Spot.{Spot}
use Rattle.design_circuit.specs.Circuit.{IsSpot}
use Rattle.design_circuit.specs.Fits.{place_at}
use Rattle.design_circuit.specs.Job.{Job, places_of}
use Rattle.design_circuit.proofs.Numbers.{is_place_at, number_of_place_at}
use Rattle.wave_proved.specs.Contents.{Contents, IsWave, IsWritten, job}

place_written : (c : Contents) → IsWave c → (number : ℕ) → number < length c.written
    → IsWritten c (place_at (job c) number)
place_written c wave number less =
    let fits = wave.fits.fits_job in
    let within : number < places_of (job c) = omega (arith, wave.holds.sound.within, less) in
    record {
      within = is_place_at (job c) number fits.ordering fits.all within;
      written = rw (number_of_place_at (job c) number fits.ordering fits.all within) less;
    }

-- The place of a spot whose number is that of a written place is written.
pub spot_written : (c : Contents) → IsWave c → (j : Job) → j ≡ job c → (number : ℕ) → number < length c.written
    → (spot : Spot) → IsSpot j number spot → IsWritten c (record { step = spot.step; net = spot.net })
spot_written c wave j same number less spot is = rw (is.step, is.net, same) (place_written c wave number less)
