-- The nets that a register looks back at stand before its place, and so does its own.
use Rattle.std.proofs.Common.{◌≡◌, ◌∙◌, Bool, true, false, not, refl, sym, ap}
use Rattle.std.specs.Bool.{OnTrue}
use Rattle.design_cell.specs.Value.{IsKnown, is_unknown}
use Rattle.design_circuit.specs.Circuit.{job_in}
use Rattle.wave_class.proofs.SettledWires.{known_bool, known_there}
use Rattle.wave_class.proofs.WiredRegisters.{pins_one_back, pins_two_back, steps_enough}
use Rattle.wave_class.proofs.moved.sees_known.Goals as goal

told : {P : Type 0} (b : Bool) → (b ≡ true → P) → OnTrue b P
told true holds = holds refl
told false holds = tt

pub positions_known-requires : goal.positions_known-requires
positions_known-requires g c =
    let asked = c.args.asked.now in
    let j = job_in asked.circuit.now in
    let fits = asked.circuit.now.fits.fits_job in
    let has = g.met.E.Earlier.has_all asked.earlier.now asked.place asked.known in
    pins_one_back j fits (g.E.Source.has asked.earlier.now) asked.place
    asked.position c.width_of-width.result c.args.pins.now asked.within asked.stands_at c.requires.stands
    c.width_of-width.ensures (steps_enough j fits asked.place
    asked.position
    c.width_of-width.result asked.within asked.stands_at c.width_of-width.ensures c.if-first-width.false)
    has

pub positions_known-requires-then-positions_known : goal.positions_known-requires-then-positions_known
positions_known-requires-then-positions_known g c =
    let asked = c.args.asked.now in
    let j = job_in asked.circuit.now in
    let fits = asked.circuit.now.fits.fits_job in
    let has = g.met.E.Earlier.has_all asked.earlier.now asked.place asked.known in
    pins_two_back j fits (g.E.Source.has asked.earlier.now) asked.place
    asked.position c.width_of-width.result c.args.pins.now asked.within asked.stands_at c.requires.stands
    c.width_of-width.ensures (steps_enough j fits asked.place
    asked.position
    c.width_of-width.result asked.within asked.stands_at c.width_of-width.ensures c.if-first-width.false)
    has

pub returns-then-positions_known-clause-known : goal.returns-then-positions_known-clause-known
returns-then-positions_known-clause-known g c =
    let asked = c.args.asked.now in
    let j = job_in asked.circuit.now in
    let fits = asked.circuit.now.fits.fits_job in
    let certain = g.E.Source.reads asked.earlier.now in
    let known : IsKnown c.value.result = c.is_known.ensures.0 c.if-not-is_known.false in
    told c.positions_known-then-positions_known.result (λ is.
    known_there j fits certain asked.place asked.position c.width_of-width.result c.args.pins.now
    asked.within asked.stands_at c.requires.stands c.width_of-width.ensures
    (steps_enough j fits asked.place asked.position c.width_of-width.result asked.within
    asked.stands_at c.width_of-width.ensures c.if-first-width.false)
    (sym (ap (λ v. not (is_unknown v)) c.value.ensures) ∙ known_bool c.value.result known)
    (sym c.positions_known.ensures ∙ c.if-positions_known.true)
    (sym c.positions_known-then-positions_known.ensures ∙ is))
