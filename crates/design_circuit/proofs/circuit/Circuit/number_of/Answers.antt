-- The number of a place of the job is below the count.
use Rattle.design_circuit.specs.Circuit.{job_in}
use Rattle.design_circuit.proofs.Handed.{number_within}
use Rattle.design_circuit.proofs.circuit.Circuit.number_of.Goals as goal

pub returns-clause-within : goal.returns-clause-within
returns-clause-within c =
    let j = job_in c.args.self.now in
    let less = number_within j c.args.self.now.fits.fits_job c.args.place c.requires.within in
    rw (c.width_of.ensures, c.position.ensures.place) less
