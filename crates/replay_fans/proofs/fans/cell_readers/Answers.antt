-- The readings of all positions make the table.
use Rattle.std.proofs.Common.{◌≡◌, ◌++◌, ◌∙◌, List, ℕ, ap, arith, length, subst, sym}
use Rattle.design_circuit.specs.Circuit.{job_in}
use Rattle.design_circuit.specs.Order.{arguments_of_driver}
use Rattle.replay_due.specs.Readers.{AreReadersWithin, HasReadings, IsReaderTable}
use Rattle.replay_due.specs.declared.readings.Reading.{Reading}
use Rattle.replay_fans.specs.Readings.{readings_of, readings_to}
use Rattle.replay_fans.specs.Nets.{driver_on}
use Rattle.replay_fans.proofs.ReadingLemmas.{are_readers, few_readings, arguments_nets, readings_within, to_more}
use Rattle.replay_fans.proofs.Positions.{arguments_within}
use Rattle.replay_fans.proofs.fans.cell_readers.Goals as goal

pub positions-preserved : goal.positions-preserved
positions-preserved c =
    let j = job_in c.args.circuit.now in
    c.in_ok-push_arguments.ensures
    ∙ ap (λ (rs : List Reading). rs ++ readings_of c.positions.position
    (arguments_of_driver (driver_on (job_in c.args.circuit.now) c.positions.position))) c.positions.invariant
    ∙ sym (to_more j arguments_of_driver c.positions.position)

pub new-requires-clause-few : goal.new-requires-clause-few
new-requires-clause-few c =
    let j = job_in c.args.circuit.now in
    let fits = c.args.circuit.now.fits.fits_job in
    let test = c.positions-test.false in
    let last = c.positions.auto.position-end in
    let count = c.width_of-nets.ensures in
    let all : c.positions.position ≡ j.width = omega (arith, test, last, count) in
    let whole : c.as_slice.result.now ≡ readings_to (job_in c.args.circuit.now) arguments_of_driver
    (job_in c.args.circuit.now).width = c.as_slice.ensures.value ∙ c.positions.invariant
    ∙ ap (readings_to (job_in c.args.circuit.now) arguments_of_driver) all in
    let long = ap (λ (rs : List Reading). length rs) whole in
    let few = few_readings j arguments_of_driver j.width (omega arith)
    (arguments_nets j fits (arguments_within j fits)) in
    let nets = fits.few_nets in
    omega (arith, long, few, nets)

pub new-requires-clause-within : goal.new-requires-clause-within
new-requires-clause-within c =
    let j = job_in c.args.circuit.now in
    let fits = c.args.circuit.now.fits.fits_job in
    let test = c.positions-test.false in
    let last = c.positions.auto.position-end in
    let count = c.width_of-nets.ensures in
    let all : c.positions.position ≡ j.width = omega (arith, test, last, count) in
    let whole : c.as_slice.result.now ≡ readings_to (job_in c.args.circuit.now) arguments_of_driver
    (job_in c.args.circuit.now).width = c.as_slice.ensures.value ∙ c.positions.invariant
    ∙ ap (readings_to (job_in c.args.circuit.now) arguments_of_driver) all in
    let P = λ (rs : List Reading). AreReadersWithin (job_in c.args.circuit.now).width rs in
    let Q = λ (n : ℕ). AreReadersWithin n c.as_slice.result.now in
    subst Q (sym count) (subst P (sym whole)
    (readings_within j arguments_of_driver (arguments_nets j fits (arguments_within j fits))))

pub returns : goal.returns
returns c =
    let j = job_in c.args.circuit.now in
    let test = c.positions-test.false in
    let last = c.positions.auto.position-end in
    let count = c.width_of-nets.ensures in
    let all : c.positions.position ≡ j.width = omega (arith, test, last, count) in
    let whole : c.as_slice.result.now ≡ readings_to (job_in c.args.circuit.now) arguments_of_driver
    (job_in c.args.circuit.now).width = c.as_slice.ensures.value ∙ c.positions.invariant
    ∙ ap (readings_to (job_in c.args.circuit.now) arguments_of_driver) all in
    let P = λ (rs : List Reading). HasReadings rs c.in_ok-new.field-0 in
    let Q = λ (n : ℕ). IsReaderTable n c.in_ok-new.field-0 in
    are_readers j arguments_of_driver c.in_ok-new.field-0 (subst Q count c.in_ok-new.ensures.table)
    (subst P whole c.in_ok-new.ensures.has)
