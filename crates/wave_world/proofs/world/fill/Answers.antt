-- A world is made of the positions and the bits.
use Rattle.std.proofs.Common.{◌≡◌, ◌∙◌, ap, subst, refl, length}
use Rattle.design_circuit.specs.Job.{Job}
use Rattle.wave_world.proofs.Filled.{has_written, gives_bits, made}
use Rattle.wave_world.proofs.world.fill.Goals as goal

pub returns-clause-world : goal.returns-clause-world
returns-clause-world c = made c.args.wave.now c.args.filling.now _ _
    (c.in_ok-positions.ensures ∙ rw (ap (λ (j : Job). j.order) c.circuit-circuit.ensures.job) refl)
    (c.in_ok-bits.ensures ∙ rw c.as_slice.ensures refl)

pub returns-clause-places : goal.returns-clause-places
returns-clause-places c =
    has_written c.args.wave.now c.args.filling.now
    (subst (λ (j : Job). length j.order ≡ j.width) c.circuit-circuit.ensures.job c.circuit-circuit.result.fits.fits_job.all)
    _ (returns-clause-world c)

pub returns-clause-bits : goal.returns-clause-bits
returns-clause-bits c =
    gives_bits c.args.wave.now c.args.filling.now
    (subst (λ (j : Job). length j.order ≡ j.width) c.circuit-circuit.ensures.job c.circuit-circuit.result.fits.fits_job.all)
    _ (returns-clause-world c)
