-- The ends say whether and how the place is carried.
use Rattle.std.proofs.Common.{◌∙◌, sym}
use Rattle.design_circuit.specs.Circuit.{job_in}
use Rattle.wave_class.proofs.EndClasses.{told_line, told_way}
use Rattle.wave_class.proofs.tried.carried_or_line.Goals as goal

pub returns-in-Some : goal.returns-in-Some
returns-in-Some g c =
    let uncertain = c.args.uncertain.now in
    let asked = uncertain.asked.now in
    let j = job_in asked.circuit.now in
    let fits = asked.circuit.now.fits.fits_job in
    let ends = c.requires.ends in
    c.copied_or_line.ensures ∙ told_way j fits
    (g.E.Source.reads asked.earlier.now) asked.place asked.within uncertain.places.now c.args.ends.first
    c.args.ends.last uncertain.all ends.first ends.last c.in-Some.inverted (sym c.inverted.ensures
    ∙ c.in-Some.is)

pub returns-in-None : goal.returns-in-None
returns-in-None g c =
    let uncertain = c.args.uncertain.now in
    let asked = uncertain.asked.now in
    let j = job_in asked.circuit.now in
    let fits = asked.circuit.now.fits.fits_job in
    let ends = c.requires.ends in
    told_line j fits (g.E.Source.reads asked.earlier.now) asked.place
    asked.within uncertain.places.now c.args.ends.first c.args.ends.last uncertain.all ends.first ends.last
    (sym c.inverted.ensures ∙ c.in-None.is)
