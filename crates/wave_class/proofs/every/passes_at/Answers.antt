-- A place that is copied is an argument place, and so stands before.
use Rattle.std.proofs.Common.{◌<◌, subst}
use Rattle.design_circuit.specs.Circuit.{job_in}
use Rattle.design_circuit.specs.Rule.{arguments}
use Rattle.design_circuit.proofs.Rules.{arguments_below}
use Rattle.law_model.proofs.Classes.{all_at}
use Rattle.wave_class.specs.Test.{ReadsOnly}
use Rattle.wave_class.proofs.every.passes_at.Goals as goal

pub bit-requires : goal.bit-requires
bit-requires g c =
    let asked = c.args.uncertain.now.asked.now in
    let j = job_in asked.circuit.now in
    let fits = asked.circuit.now.fits.fits_job in
    let has = g.met.E.Earlier.has_all asked.earlier.now asked.place asked.known in
    let certain = g.E.Source.reads asked.earlier.now in
    let contains = subst (ReadsOnly j certain asked.place) c.in-Copies.is c.requires.reads in
    has c.in-Copies.from (all_at (λ k. k < asked.place) (arguments j certain asked.place) c.in-Copies.from
    (arguments_below j fits certain asked.place asked.within) contains)
