-- A cell all of whose arguments are certain.
use Rattle.std.proofs.Common.{◌∙◌, sym, ap}
use Rattle.design_circuit.specs.Circuit.{job_in}
use Rattle.design_circuit.specs.Replay.{table_of}
use Rattle.wave_class.specs.Facts.{plain_class}
use Rattle.wave_class.proofs.SettledWires.{cell_settled}
use Rattle.wave_class.proofs.WiredSteady.{cell_reach}
use Rattle.wave_class.proofs.moved.moved_cell.Goals as goal

pub positions_known-requires : goal.positions_known-requires
positions_known-requires g c =
    let asked = c.args.asked.now in
    let j = job_in asked.circuit.now in
    let fits = asked.circuit.now.fits.fits_job in
    let has = g.met.E.Earlier.has_all asked.earlier.now asked.place asked.known in
    cell_reach j fits (g.E.Source.has asked.earlier.now) asked.place
    asked.position c.args.table c.args.pins.now asked.within asked.stands_at c.requires.stands
    has

pub values_there-values-requires-clause-reach : goal.values_there-values-requires-clause-reach
values_there-values-requires-clause-reach g c =
    let asked = c.args.asked.now in
    let j = job_in asked.circuit.now in
    let fits = asked.circuit.now.fits.fits_job in
    let has = g.met.E.Earlier.has_all asked.earlier.now asked.place asked.known in
    cell_reach j fits (g.E.Source.has asked.earlier.now) asked.place
    asked.position c.args.table c.args.pins.now asked.within asked.stands_at c.requires.stands
    has

pub returns-then-positions_known : goal.returns-then-positions_known
returns-then-positions_known g c =
    let asked = c.args.asked.now in
    let j = job_in asked.circuit.now in
    let fits = asked.circuit.now.fits.fits_job in
    let certain = g.E.Source.reads asked.earlier.now in
    c.plain_class.ensures ∙ ap plain_class (c.table_value.ensures
    ∙ ap (table_of j.udps c.args.table) c.values_there-values.ensures.values)
    ∙ sym (cell_settled j fits certain asked.place asked.position c.args.table c.args.pins.now
    asked.within asked.stands_at c.requires.stands
    (sym c.positions_known.ensures ∙ c.if-positions_known.true))
