-- What is kept of a place tells whether its net keeps there.
use Rattle.std.proofs.Common.{◌∙◌, ap}
use Rattle.design_circuit.specs.Circuit.{job_in}
use Rattle.design_circuit.specs.Job.{at}
use Rattle.wave_class.proofs.StepBefore.{keeps_at}
use Rattle.wave_class.proofs.keeps.net_keeps.Goals as goal

pub returns : goal.returns
returns g c =
    let asked = c.args.asked.now in
    let j = job_in asked.circuit.now in
    let fits = asked.circuit.now.fits.fits_job in
    let certain = g.E.Source.reads asked.earlier.now in
    let here = at j c.args.step c.args.net in
    c.keeps.ensures ∙ ap (λ k. (g.E.Earlier.facts asked.earlier.now k).keeps) c.number_at.ensures
    ∙ (asked.facts here c.requires.net.has_it).keeps
    ∙ keeps_at j fits certain c.args.step c.args.net c.requires.net.within
