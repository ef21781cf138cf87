-- The next place stands where its front says.
use Rattle.std.proofs.Common.{◌<◌, length, map, sym, subst, arith}
use Rattle.std.proofs.lemmas.List.{length-map}
use Rattle.design_circuit.specs.Circuit.{job_in}
use Rattle.design_circuit.specs.Job.{places_of}
use Rattle.design_circuit.proofs.Numbers.{few_steps}
use Rattle.wave_bytes.specs.Byte.{written_of_byte}
use Rattle.wave_bytes.specs.View.{HasMore}
use Rattle.wave_bytes.proofs.Fronts.{is_front}
use Rattle.wave_bytes.proofs.waveform.Waveform.place_behind.Goals as goal

pub place_there-requires : goal.place_there-requires
place_there-requires c =
    let circuit = c.self.inside.circuit in
    let bytes = c.self.inside.rows.bytes in
    let long = length-map bytes written_of_byte in
    let more : length (map written_of_byte bytes) < places_of (job_in circuit) =
    subst HasMore (sym c.self.view_is) c.requires in
    let within : length bytes < places_of (job_in circuit) = omega (arith, long, more) in
    is_front (job_in circuit) c.self.inside.circuit.fits.fits_job (few_steps circuit.stim.now) (length bytes)
    c.self.inside.front
    within (c.self.invariant.front within)
