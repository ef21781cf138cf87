-- What the driver of a net is, fits.
use Rattle.std.proofs.Common.{◌*◌, ◌<◌, List, None, length, refl, sym, ◌∙◌, subst}
use Rattle.std.specs.List.{AllByRecursion}
use Rattle.design_circuit.specs.declared.design.Driver.{Driver}
use Rattle.design_circuit.specs.declared.design.Pin.{Pin}
use Rattle.design_circuit.specs.Circuit.{job_in}
use Rattle.design_circuit.specs.Fits.{FitsDriver, FitsTable}
use Rattle.design_circuit.specs.Job.{Job}
use Rattle.design_circuit.specs.Order.{arguments_of_driver, net_pins}
use Rattle.report_audit.specs.Row.{IsCellRow, IsRowBy}
use Rattle.report_audit.proofs.Drivers.{driver_read, nets_within}
use Rattle.report_audit.proofs.Seeing.{none_by}
use Rattle.report_audit.proofs.rows.row_at.Goals as goal

pub cell_row-requires-clause-table : goal.cell_row-requires-clause-table
cell_row-requires-clause-table c =
    let circuit = c.circuit-circuit.result in
    let j = job_in circuit in
    let less : c.args.place.net < j.width =
    subst (λ (i : Job). c.args.place.net < i.width) (sym c.circuit-circuit.ensures.job) c.requires.net in
    let driver = driver_read j circuit.design.now circuit.order.now circuit.stim.now refl c.args.place.net
    c.index-as_slice-place.result c.as_slice.result.now c.as_slice.ensures less in
    subst (λ (ps : List Pin). FitsTable j.udps c.in-Cell.table (length ps)) (sym c.as_slice-in-Cell.ensures)
    (subst (λ (d : Driver). FitsDriver j.udps j.width d) (driver ∙ c.in-Cell.is)
    (c.circuit-circuit.result.fits.fits_job.pins c.args.place.net less))

pub cell_row-requires-clause-nets : goal.cell_row-requires-clause-nets
cell_row-requires-clause-nets c =
    let circuit = c.circuit-circuit.result in
    let j = job_in circuit in
    let same = sym c.circuit-circuit.ensures.job in
    let less : c.args.place.net < j.width = subst (λ (i : Job). c.args.place.net < i.width) same c.requires.net in
    let driver = driver_read j circuit.design.now circuit.order.now circuit.stim.now refl c.args.place.net
    c.index-as_slice-place.result c.as_slice.result.now c.as_slice.ensures less in
    subst (λ (ps : List Pin). AllByRecursion (λ n. n < j.width) (net_pins ps)) (sym c.as_slice-in-Cell.ensures)
    (subst (λ (d : Driver). AllByRecursion (λ n. n < j.width) (arguments_of_driver d)) (driver ∙ c.in-Cell.is)
    (nets_within j c.circuit-circuit.result.fits.fits_job c.args.place (record {
      step = subst (λ (i : Job). c.args.place.step < i.moments * i.rounds) same c.requires.step;
      net = less;
    })))

pub register_row-requires-clause-register : goal.register_row-requires-clause-register
register_row-requires-clause-register c =
    let circuit = c.circuit-circuit.result in
    let j = job_in circuit in
    let less : c.args.place.net < j.width =
    subst (λ (i : Job). c.args.place.net < i.width) (sym c.circuit-circuit.ensures.job) c.requires.net in
    let driver = driver_read j circuit.design.now circuit.order.now circuit.stim.now refl c.args.place.net
    c.index-as_slice-place.result c.as_slice.result.now c.as_slice.ensures less in
    subst (λ (d : Driver). FitsDriver j.udps j.width d) (driver ∙ c.in-Register.is)
    (c.circuit-circuit.result.fits.fits_job.pins c.args.place.net less)

pub returns-in-Cell : goal.returns-in-Cell
returns-in-Cell c =
    let circuit = c.circuit-circuit.result in
    let j = job_in circuit in
    let net = c.args.place.net in
    let replayed = c.args.replayed.now in
    let row = c.cell_row.result in
    let less : net < j.width = subst (λ (i : Job). net < i.width) (sym c.circuit-circuit.ensures.job) c.requires.net in
    let driver = driver_read j circuit.design.now circuit.order.now circuit.stim.now refl net
    c.index-as_slice-place.result c.as_slice.result.now c.as_slice.ensures less in
    subst (λ (i : Job). IsRowBy i replayed c.args.place (i.driver net) row) c.circuit-circuit.ensures.job
    (subst (λ (d : Driver). IsRowBy j replayed c.args.place d row) (sym (driver ∙ c.in-Cell.is))
    (subst (λ (ps : List Pin). IsCellRow j replayed c.args.place.step c.in-Cell.table ps row) c.as_slice-in-Cell.ensures
    c.cell_row.ensures))

pub returns-in-Register : goal.returns-in-Register
returns-in-Register c =
    let circuit = c.circuit-circuit.result in
    let j = job_in circuit in
    let net = c.args.place.net in
    let replayed = c.args.replayed.now in
    let row = c.register_row.result in
    let less : net < j.width = subst (λ (i : Job). net < i.width) (sym c.circuit-circuit.ensures.job) c.requires.net in
    let driver = driver_read j circuit.design.now circuit.order.now circuit.stim.now refl net
    c.index-as_slice-place.result c.as_slice.result.now c.as_slice.ensures less in
    subst (λ (i : Job). IsRowBy i replayed c.args.place (i.driver net) row) c.circuit-circuit.ensures.job
    (subst (λ (d : Driver). IsRowBy j replayed c.args.place d row) (sym (driver ∙ c.in-Register.is)) c.register_row.ensures)

pub returns-in_default : goal.returns-in_default
returns-in_default c =
    let circuit = c.circuit-circuit.result in
    let j = job_in circuit in
    let net = c.args.place.net in
    let replayed = c.args.replayed.now in
    let less : net < j.width = subst (λ (i : Job). net < i.width) (sym c.circuit-circuit.ensures.job) c.requires.net in
    let driver = driver_read j circuit.design.now circuit.order.now circuit.stim.now refl net
    c.index-as_slice-place.result c.as_slice.result.now c.as_slice.ensures less in
    subst (λ (i : Job). IsRowBy i replayed c.args.place (i.driver net) None) c.circuit-circuit.ensures.job
    (subst (λ (d : Driver). IsRowBy j replayed c.args.place d None) (sym driver)
    (none_by j replayed c.args.place _ c.in_default.not-Cell c.in_default.not-Register))
