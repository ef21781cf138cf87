-- The place behind so many places.
use Rattle.std.proofs.Common.{◌≡◌, ◌+◌, ◌<◌, refl, subst, arith}
use Rattle.design_circuit.specs.Circuit.{job_in}
use Rattle.design_circuit.specs.Job.{places_of}
use Rattle.wave_bytes.specs.Front.{StandsAt}
use Rattle.wave_bytes.proofs.Fronts.{after_position, after_step, stretch_rest}
use Rattle.wave_bytes.proofs.front.front_after.Goals as goal

pub returns-then-many-eq0-clause-stands : goal.returns-then-many-eq0-clause-stands
returns-then-many-eq0-clause-stands c =
    let test = c.if-many-eq0.true in
    let same : c.args.place ≡ c.args.place + c.args.many = omega (arith, test) in
    subst (λ n. StandsAt (job_in c.args.circuit.now) n c.args.front) same c.requires.stands

pub returns-then-next-width_of-clause-stands : goal.returns-then-next-width_of-clause-stands
returns-then-next-width_of-clause-stands c = λ within.
    (let less : c.args.place < places_of (job_in c.args.circuit.now) = omega (arith, within) in
    after_position (job_in c.args.circuit.now) c.args.circuit.now.fits.fits_job c.args.place c.args.many c.args.front _ less
    (c.requires.stands less) refl refl
    (let test = c.if-next-width_of.true in let width = c.width_of.ensures in omega (arith, test, width)))

pub returns-else-next-width_of-clause-stands : goal.returns-else-next-width_of-clause-stands
returns-else-next-width_of-clause-stands c = λ within.
    (let less : c.args.place < places_of (job_in c.args.circuit.now) = omega (arith, within) in
    let rest = stretch_rest (job_in c.args.circuit.now) c.args.circuit.now.fits.fits_job c.args.place c.args.many c.args.front
    less (c.requires.stands less) c.requires.stretch.one_step in
    after_step (job_in c.args.circuit.now) c.args.circuit.now.fits.fits_job c.args.place c.args.many c.args.front _ less
    (c.requires.stands less) refl refl
    (let test = c.if-next-width_of.false in let width = c.width_of.ensures in omega (arith, test, width, rest)))
