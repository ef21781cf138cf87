-- The nets that a register looks back at stand before its place, and so does its own.
use Rattle.std.proofs.Common.{◌≡◌, ◌∙◌, Bool, true, false, refl, sym, subst}
use Rattle.std.specs.Bool.{OnTrue}
use Rattle.design_circuit.specs.Circuit.{job_in}
use Rattle.wave_class.proofs.WiredRegisters.{pins_one_back, pins_two_back, same_there, steps_enough}
use Rattle.wave_class.proofs.steady.sees_the_same.Goals as goal

told : {P : Type 0} (b : Bool) → (b ≡ true → P) → OnTrue b P
told true holds = holds refl
told false holds = tt

pub positions_keep-requires : goal.positions_keep-requires
positions_keep-requires g c =
    let asked = c.args.asked.now in
    let j = job_in asked.circuit.now in
    let fits = asked.circuit.now.fits.fits_job in
    let has = g.met.E.Earlier.has_all asked.earlier.now asked.place asked.known in
    pins_one_back j fits (g.E.Source.has asked.earlier.now) asked.place
    asked.position c.width_of-width.result c.args.pins.now asked.within asked.stands_at c.requires.stands
    c.width_of-width.ensures (steps_enough j fits asked.place
    asked.position
    c.width_of-width.result asked.within asked.stands_at c.width_of-width.ensures c.if-first-width.false)
    has

pub positions_keep-requires-then-positions_keep : goal.positions_keep-requires-then-positions_keep
positions_keep-requires-then-positions_keep g c =
    let asked = c.args.asked.now in
    let j = job_in asked.circuit.now in
    let fits = asked.circuit.now.fits.fits_job in
    let has = g.met.E.Earlier.has_all asked.earlier.now asked.place asked.known in
    pins_two_back j fits (g.E.Source.has asked.earlier.now) asked.place
    asked.position c.width_of-width.result c.args.pins.now asked.within asked.stands_at c.requires.stands
    c.width_of-width.ensures (steps_enough j fits asked.place
    asked.position
    c.width_of-width.result asked.within asked.stands_at c.width_of-width.ensures c.if-first-width.false)
    has

pub returns-then-positions_keep-clause-same : goal.returns-then-positions_keep-clause-same
returns-then-positions_keep-clause-same g c =
    let asked = c.args.asked.now in
    let j = job_in asked.circuit.now in
    let fits = asked.circuit.now.fits.fits_job in
    let certain = g.E.Source.reads asked.earlier.now in
    let own : c.value-here.result ≡ c.value-before.result =
    subst (λ b. OnTrue b (c.value-here.result ≡ c.value-before.result)) c.if-not-is_same.false c.is_same.ensures in
    told c.positions_keep-then-positions_keep.result (λ is.
    same_there j fits certain (g.E.Earlier.facts asked.earlier.now) asked.place asked.position
    c.width_of-width.result c.args.pins.now asked.within asked.stands_at c.requires.stands
    c.width_of-width.ensures asked.facts (steps_enough j fits asked.place asked.position
    c.width_of-width.result asked.within asked.stands_at c.width_of-width.ensures c.if-first-width.false)
    (sym c.value-here.ensures ∙ own ∙ c.value-before.ensures)
    (sym c.positions_keep.ensures ∙ c.if-positions_keep.true)
    (sym c.positions_keep-then-positions_keep.ensures ∙ is))
