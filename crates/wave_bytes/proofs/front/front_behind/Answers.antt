-- The place behind a place.
use Rattle.std.proofs.Common.{refl, arith}
use Rattle.design_circuit.specs.Circuit.{job_in}
use Rattle.wave_bytes.proofs.Fronts.{next_position, next_step}
use Rattle.wave_bytes.proofs.front.front_behind.Goals as goal

pub returns-then-next-width_of-clause-stands : goal.returns-then-next-width_of-clause-stands
returns-then-next-width_of-clause-stands c = λ within.
    next_position (job_in c.args.circuit.now) c.args.circuit.now.fits.fits_job c.args.place c.args.front _ c.requires.within
    (c.requires.stands c.requires.within) refl refl
    (let test = c.if-next-width_of.true in let width = c.width_of.ensures in omega (arith, test, width))

pub returns-else-next-width_of-clause-stands : goal.returns-else-next-width_of-clause-stands
returns-else-next-width_of-clause-stands c = λ within.
    next_step (job_in c.args.circuit.now) c.args.circuit.now.fits.fits_job c.args.place c.args.front _ c.requires.within
    (c.requires.stands c.requires.within) refl refl
    (let test = c.if-next-width_of.false in let width = c.width_of.ensures in omega (arith, test, width))
