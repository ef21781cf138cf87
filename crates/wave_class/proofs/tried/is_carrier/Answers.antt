-- An argument place stands before.
use Rattle.std.proofs.Common.{◌<◌}
use Rattle.design_circuit.specs.Circuit.{job_in}
use Rattle.design_circuit.specs.Rule.{arguments}
use Rattle.design_circuit.proofs.Rules.{arguments_below}
use Rattle.law_model.proofs.Classes.{all_at}
use Rattle.wave_class.proofs.tried.is_carrier.Goals as goal

pub value-requires : goal.value-requires
value-requires g c =
    let asked = c.args.uncertain.now.asked.now in
    let j = job_in asked.circuit.now in
    let fits = asked.circuit.now.fits.fits_job in
    let has = g.met.E.Earlier.has_all asked.earlier.now asked.place asked.known in
    let certain = g.E.Source.reads asked.earlier.now in
    has c.args.from (all_at (λ k. k < asked.place) (arguments j certain asked.place) c.args.from
    (arguments_below j fits certain asked.place asked.within) c.requires.from)
