-- The class is what the rule gives.
use Rattle.std.proofs.Common.{◌∙◌, sym, ap}
use Rattle.design_circuit.specs.Circuit.{job_in}
use Rattle.wave_class.specs.Facts.{plain_class}
use Rattle.wave_class.proofs.QuickClasses.{settled_is}
use Rattle.wave_class.proofs.quick.settled_class.Goals as goal

pub returns : goal.returns
returns g c =
    let asked = c.args.asked.now in
    let j = job_in asked.circuit.now in
    let fits = asked.circuit.now.fits.fits_job in
    c.plain_class.ensures ∙ ap plain_class c.rule_value.ensures
    ∙ sym (settled_is j fits (g.E.Source.reads asked.earlier.now)
    asked.place asked.within c.requires.settled)
