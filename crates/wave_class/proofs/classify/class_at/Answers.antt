-- The class of a place is that which the classes of all places give.
use Rattle.std.proofs.Common.{◌≡◌, ◌∙◌, sym, ap}
use Rattle.design_circuit.specs.Circuit.{job_in}
use Rattle.design_circuit.specs.Job.{net_of}
use Rattle.law_model.proofs.ClassFromClasses.{class_is}
use Rattle.design_wiring.specs.Wired.{Wire, kind_of}
use Rattle.wave_class.proofs.QuickClasses.{constant_is}
use Rattle.wave_class.proofs.WiredPlaces.{constant_here, wire_there}
use Rattle.wave_class.proofs.classify.class_at.Goals as goal

pub returns-in-Input : goal.returns-in-Input
returns-in-Input g c =
    let asked = c.args.asked.now in
    let j = job_in asked.circuit.now in
    let fits = asked.circuit.now.fits.fits_job in
    c.input_class.ensures ∙ sym (class_is j fits
    (g.E.Source.reads asked.earlier.now) asked.place asked.within)

pub returns-in-Undriven : goal.returns-in-Undriven
returns-in-Undriven g c =
    let asked = c.args.asked.now in
    let j = job_in asked.circuit.now in
    let fits = asked.circuit.now.fits.fits_job in
    c.tried_class.ensures ∙ sym (class_is j fits
    (g.E.Source.reads asked.earlier.now) asked.place asked.within)

pub returns-in-Copy : goal.returns-in-Copy
returns-in-Copy g c =
    let asked = c.args.asked.now in
    let j = job_in asked.circuit.now in
    let fits = asked.circuit.now.fits.fits_job in
    c.copied_class.ensures ∙ sym (class_is j fits
    (g.E.Source.reads asked.earlier.now) asked.place asked.within)

pub returns-in-Gate : goal.returns-in-Gate
returns-in-Gate g c =
    let asked = c.args.asked.now in
    let j = job_in asked.circuit.now in
    let fits = asked.circuit.now.fits.fits_job in
    c.cell_class.ensures ∙ sym (class_is j fits
    (g.E.Source.reads asked.earlier.now) asked.place asked.within)

pub returns-in-Udp : goal.returns-in-Udp
returns-in-Udp g c =
    let asked = c.args.asked.now in
    let j = job_in asked.circuit.now in
    let fits = asked.circuit.now.fits.fits_job in
    c.cell_class-in-Udp.ensures ∙ sym (class_is j fits
    (g.E.Source.reads asked.earlier.now) asked.place asked.within)

pub returns-in-Register : goal.returns-in-Register
returns-in-Register g c =
    let asked = c.args.asked.now in
    let j = job_in asked.circuit.now in
    let fits = asked.circuit.now.fits.fits_job in
    c.register_class.ensures ∙ sym (class_is j fits
    (g.E.Source.reads asked.earlier.now) asked.place asked.within)

pub returns-in-Constant : goal.returns-in-Constant
returns-in-Constant g c =
    let asked = c.args.asked.now in
    let j = job_in asked.circuit.now in
    let fits = asked.circuit.now.fits.fits_job in
    let there : c.kind.result ≡ kind_of (j.driver (net_of j asked.place)) = c.kind.ensures ∙ ap (λ (w : Wire). w.kind)
    (wire_there asked.circuit.now fits c.args.wiring.now asked.place asked.position c.requires.wired
    asked.within asked.stands_at) in
    sym (constant_is j (g.E.Source.reads asked.earlier.now) asked.place c.in-Constant.bit
    (constant_here j asked.place c.in-Constant.bit (sym there ∙ c.in-Constant.is)))
    ∙ sym (class_is j fits (g.E.Source.reads asked.earlier.now) asked.place asked.within)
