-- A cell whose pins keep gives what it gave a step before.
use Rattle.std.proofs.Common.{◌≡◌, ◌∙◌, ◌&&◌, not, Bool, true, false, refl, sym, ap, arith}
use Rattle.std.proofs.lemmas.Bool.{OnTrue_at, OnTrue_from, and_parts}
use Rattle.design_circuit.specs.Circuit.{job_in}
use Rattle.law_model.specs.Class.{before, class_of, is_never_unknown}
use Rattle.law_model.specs.declared.class.ClassByNumber.TheVariants.{Carried}
use Rattle.wave_class.specs.Facts.{is_plain, place_is_carried_on, plain_class}
use Rattle.wave_class.specs.Keeps.{cell_chooses}
use Rattle.wave_class.proofs.SteadyClasses.{carried_open, carrying_known, line_is_open, steady_open, steady_plain}
use Rattle.wave_class.proofs.StepBefore.{before_back, more_width}
use Rattle.wave_class.proofs.WiredPlaces.{cell_here}
use Rattle.wave_class.proofs.WiredSteady.{all_pins_keep, cell_known, cell_reach, cell_steady, net_back}
use Rattle.wave_class.proofs.steady.cell_class.Goals as goal

pub pins_keep-requires-clause-reach : goal.pins_keep-requires-clause-reach
pins_keep-requires-clause-reach g c =
    let asked = c.args.asked.now in
    let j = job_in asked.circuit.now in
    let fits = asked.circuit.now.fits.fits_job in
    let has = g.met.E.Earlier.has_all asked.earlier.now asked.place asked.known in
    cell_reach j fits (g.E.Source.has asked.earlier.now) asked.place
    asked.position c.args.table c.args.pins.now asked.within asked.stands_at c.requires.stands
    has

pub pins_keep-requires-clause-keep : goal.pins_keep-requires-clause-keep
pins_keep-requires-clause-keep g c =
    let asked = c.args.asked.now in
    let j = job_in asked.circuit.now in
    let fits = asked.circuit.now.fits.fits_job in
    OnTrue_from c.args.all_keep _ (λ on.
    all_pins_keep j fits (g.E.Earlier.facts asked.earlier.now)
    asked.place
    asked.position c.args.table c.args.pins.now asked.within asked.stands_at c.requires.stands
    (OnTrue_at on c.requires.keep))

pub returns-then-is_plain : goal.returns-then-is_plain
returns-then-is_plain g c =
    let asked = c.args.asked.now in
    let j = job_in asked.circuit.now in
    let fits = asked.circuit.now.fits.fits_job in
    let certain = g.E.Source.reads asked.earlier.now in
    let more = more_width j.width c.width_of-width.result asked.place c.width_of-width.ensures c.if-asked-width.false in
    let back = before_back j fits asked.place c.width_of-width.result asked.within
    c.width_of-width.ensures
    c.if-asked-width.false in
    let all = asked.within in
    let steady = cell_steady j fits certain (g.E.Earlier.facts asked.earlier.now) asked.place
    asked.position
    c.args.table c.args.pins.now asked.within asked.stands_at c.requires.stands asked.facts
    asked.agrees
    more (sym c.pins_keep.ensures ∙ c.if-not-pins_keep.false) in
    let less = steady.less in
    let plain : is_plain (class_of j certain (before j asked.place)) ≡ true =
    (asked.facts (before j asked.place) less).plain (sym (c.is_plain.ensures
    ∙ ap (λ k. (g.E.Earlier.facts asked.earlier.now k).plain) back) ∙ c.if-is_plain.true) in
    c.plain_class.ensures ∙ ap plain_class (c.value.ensures ∙ ap certain back)
    ∙ steady_plain j fits certain asked.place (before j asked.place) (omega (arith, less, all)) steady.kinds
    (asked.agrees (before j asked.place) less) plain

pub returns-then-is_carried_on : goal.returns-then-is_carried_on
returns-then-is_carried_on g c =
    let asked = c.args.asked.now in
    let j = job_in asked.circuit.now in
    let fits = asked.circuit.now.fits.fits_job in
    let certain = g.E.Source.reads asked.earlier.now in
    let more = more_width j.width c.width_of-width.result asked.place c.width_of-width.ensures c.if-asked-width.false in
    let back = before_back j fits asked.place c.width_of-width.result asked.within
    c.width_of-width.ensures
    c.if-asked-width.false in
    let all = asked.within in
    let steady = cell_steady j fits certain (g.E.Earlier.facts asked.earlier.now) asked.place
    asked.position
    c.args.table c.args.pins.now asked.within asked.stands_at c.requires.stands asked.facts
    asked.agrees
    more (sym c.pins_keep.ensures ∙ c.if-not-pins_keep.false) in
    let less = steady.less in
    let on : place_is_carried_on j certain (before j asked.place) ≡ true =
    (asked.facts (before j asked.place) less).carries (sym (c.is_carried_on.ensures
    ∙ ap (λ k. (g.E.Earlier.facts asked.earlier.now k).carries) back) ∙ c.if-is_carried_on.true) in
    let open_is : is_plain (class_of j certain (before j asked.place)) ≡ false =
    carried_open (class_of j certain (before j asked.place)) (before j (before j asked.place)) on in
    let here = cell_here j asked.place c.args.table c.args.pins.now c.requires.stands in
    let known : is_never_unknown j certain asked.place ≡ true = steady.kinds.never
    ∙ carrying_known j fits certain (before j asked.place) c.args.table here.own
    (omega (arith, less, all)) (ap j.driver (net_back j fits asked.place asked.within more)
    ∙ here.driver) on in
    ap (λ k. Carried k false) back
    ∙ steady_open j fits certain asked.place (before j asked.place) (omega (arith, less, all)) steady.kinds
    open_is
    (steady.passes known)

never_chooses : (b : Bool) → not b ≡ true → b ≡ false
never_chooses false h = refl
never_chooses true h = cc

pub returns-then-is_passed_line : goal.returns-then-is_passed_line
returns-then-is_passed_line g c =
    let asked = c.args.asked.now in
    let j = job_in asked.circuit.now in
    let fits = asked.circuit.now.fits.fits_job in
    let certain = g.E.Source.reads asked.earlier.now in
    let facts = g.E.Earlier.facts asked.earlier.now in
    let more = more_width j.width c.width_of-width.result asked.place c.width_of-width.ensures c.if-asked-width.false in
    let back = before_back j fits asked.place c.width_of-width.result asked.within
    c.width_of-width.ensures
    c.if-asked-width.false in
    let all = asked.within in
    let steady = cell_steady j fits certain facts asked.place asked.position
    c.args.table c.args.pins.now asked.within asked.stands_at c.requires.stands asked.facts
    asked.agrees
    more (sym c.pins_keep.ensures ∙ c.if-not-pins_keep.false) in
    let less = steady.less in
    let both = and_parts (facts (before j asked.place)).line (not (cell_chooses c.args.table c.args.pins.now))
    (sym (c.is_passed_line.ensures ∙ ap (λ k. (facts k).line && not (cell_chooses c.args.table c.args.pins.now)) back)
    ∙ c.if-is_passed_line.true) in
    let open_is : is_plain (class_of j certain (before j asked.place)) ≡ false =
    line_is_open (class_of j certain (before j asked.place)) ((asked.facts (before j asked.place) less).line both.0) in
    let known : is_never_unknown j certain asked.place ≡ true =
    cell_known j fits certain asked.place c.args.table c.args.pins.now asked.within c.requires.stands
    (never_chooses (cell_chooses c.args.table c.args.pins.now) both.1) in
    ap (λ k. Carried k false) back
    ∙ steady_open j fits certain asked.place (before j asked.place) (omega (arith, less, all)) steady.kinds
    open_is
    (steady.passes known)
