-- The class of a copy is what its argument says.
use Rattle.std.proofs.Common.{ℕ, Bool, false, ◌∙◌, sym, ap, if◌then◌else◌}
use Rattle.design_circuit.specs.Circuit.{job_in}
use Rattle.design_cell.specs.declared.value.Value.TheVariants.{Zero, One}
use Rattle.law_model.specs.Class.{before}
use Rattle.law_model.specs.declared.class.ClassByNumber.TheVariants.{Carried}
use Rattle.wave_class.proofs.QuickClasses.{copied_from, copied_open}
use Rattle.wave_class.proofs.quick.class_from.Goals as goal

pub returns-in-Zero : goal.returns-in-Zero
returns-in-Zero g c =
    let asked = c.args.asked.now in
    let j = job_in asked.circuit.now in
    let fits = asked.circuit.now.fits.fits_job in
    sym (copied_from j fits
    (g.E.Source.reads asked.earlier.now) (g.E.Earlier.facts asked.earlier.now) asked.place c.args.from Zero
    c.requires.copies asked.facts (sym c.in-Zero.is ∙ c.value.ensures))

pub returns-in-One : goal.returns-in-One
returns-in-One g c =
    let asked = c.args.asked.now in
    let j = job_in asked.circuit.now in
    let fits = asked.circuit.now.fits.fits_job in
    sym (copied_from j fits
    (g.E.Source.reads asked.earlier.now) (g.E.Earlier.facts asked.earlier.now) asked.place c.args.from One
    c.requires.copies asked.facts (sym c.in-One.is ∙ c.value.ensures))

pub returns-then-keeps : goal.returns-then-keeps
returns-then-keeps g c =
    let asked = c.args.asked.now in
    let j = job_in asked.circuit.now in
    let fits = asked.circuit.now.fits.fits_job in
    let facts = g.E.Earlier.facts asked.earlier.now in
    let says = copied_from j fits (g.E.Source.reads asked.earlier.now) facts asked.place
    c.args.from c.value.result c.requires.copies asked.facts c.value.ensures
    ∙ copied_open c.value.result c.in_default.not-Zero c.in_default.not-One (facts c.args.from).keeps
    (before j asked.place) c.args.from
    ∙ ap (λ (b : Bool). if b then Carried (before j asked.place) false else Carried c.args.from false)
    (sym c.keeps.ensures ∙ c.if-keeps.true) in
    ap (λ (k : ℕ). Carried k false) c.place_before.ensures ∙ sym says

pub returns-else-keeps : goal.returns-else-keeps
returns-else-keeps g c =
    let asked = c.args.asked.now in
    let j = job_in asked.circuit.now in
    let fits = asked.circuit.now.fits.fits_job in
    let facts = g.E.Earlier.facts asked.earlier.now in
    sym (copied_from j fits (g.E.Source.reads asked.earlier.now) facts asked.place
    c.args.from c.value.result c.requires.copies asked.facts c.value.ensures
    ∙ copied_open c.value.result c.in_default.not-Zero c.in_default.not-One (facts c.args.from).keeps
    (before j asked.place) c.args.from
    ∙ ap (λ (b : Bool). if b then Carried (before j asked.place) false else Carried c.args.from false)
    (sym c.keeps.ensures ∙ c.if-keeps.false))
