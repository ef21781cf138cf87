-- The nets of the pins stand before the place, a step has room for all nets, and what reads no filling is never x.
use Rattle.std.proofs.Common.{◌∙◌, sym, ap}
use Rattle.design_circuit.specs.Circuit.{job_in}
use Rattle.design_circuit.specs.Order.{net_pins}
use Rattle.design_circuit.proofs.Reaching.{step_room}
use Rattle.law_model.specs.Class.{is_never_unknown}
use Rattle.wave_class.specs.Keeps.{nets_keep}
use Rattle.wave_class.proofs.MixedClasses.{cell_holds, never_unknown}
use Rattle.wave_class.proofs.Reached.{nets_standing}
use Rattle.wave_class.proofs.keeps.cell_passes.Goals as goal

pub pins_keep-requires-clause-nets : goal.pins_keep-requires-clause-nets
pins_keep-requires-clause-nets g c =
    let asked = c.args.uncertain.now.asked.now in
    let j = job_in asked.circuit.now in
    nets_standing j asked.place c.args.spot
    (net_pins c.args.pins.now) c.requires.spot c.requires.before

pub pins_keep-requires-clause-small : goal.pins_keep-requires-clause-small
pins_keep-requires-clause-small g c =
    let asked = c.args.uncertain.now.asked.now in
    let j = job_in asked.circuit.now in
    let fits = asked.circuit.now.fits.fits_job in
    step_room j fits asked.place
    c.args.spot c.requires.spot

pub returns-then-not-cell_chooses : goal.returns-then-not-cell_chooses
returns-then-not-cell_chooses g c =
    let asked = c.args.uncertain.now.asked.now in
    let j = job_in asked.circuit.now in
    let fits = asked.circuit.now.fits.fits_job in
    let certain = g.E.Source.reads asked.earlier.now in
    cell_holds c.args.spot.step (nets_keep j certain c.args.spot.step (net_pins c.args.pins.now))
    (is_never_unknown j certain asked.place) c.if-spot-eq0.false (sym c.pins_keep.ensures ∙ c.if-not-pins_keep.false)
    (never_unknown j fits certain asked.place c.args.table c.args.pins.now
    c.requires.spot.place_within (ap j.driver (sym c.requires.spot.net) ∙ c.requires.is)
    (sym c.cell_chooses.ensures ∙ c.if-not-cell_chooses.true))
