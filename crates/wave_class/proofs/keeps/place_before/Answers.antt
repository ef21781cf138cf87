-- At a later step it is one width before.
use Rattle.design_circuit.specs.Circuit.{job_in}
use Rattle.wave_class.proofs.StepBefore.{before_first, before_later}
use Rattle.wave_class.proofs.keeps.place_before.Goals as goal

pub returns-then-place-width : goal.returns-then-place-width
returns-then-place-width c =
    before_first (job_in c.args.circuit.now) c.args.circuit.now.fits.fits_job c.args.place c.requires.within
    (rw (← c.width_of-width.ensures) c.if-place-width.true)

pub returns-else-place-width : goal.returns-else-place-width
returns-else-place-width c =
    rw c.width_of-width.ensures (before_later (job_in c.args.circuit.now) c.args.circuit.now.fits.fits_job c.args.place
    c.requires.within (rw (← c.width_of-width.ensures) c.if-place-width.false))
