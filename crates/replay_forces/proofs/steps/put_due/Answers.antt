-- What isn't due between two positions that are rests.
use Rattle.std.proofs.Common.{◌≡◌, ◌+◌, ◌*◌, ◌<◌, ◌≤◌, ℕ, arith, min, subst}
use Rattle.design_cell.specs.declared.value.Value.TheVariants.{X}
use Rattle.design_circuit.specs.Circuit.{job_in}
use Rattle.design_circuit.specs.Job.{places_of}
use Rattle.replay_forces.specs.ForcesOf.{forcing, given_of}
use Rattle.replay_forces.specs.Made.{AreForcesTo}
use Rattle.replay_forces.proofs.Rows.{made_to}
use Rattle.replay_history.proofs.Writing.{place_within}
use Rattle.replay_forces.proofs.steps.put_due.Goals as goal

pub positions-init : goal.positions-init
positions-init g c =
    let step = c.args.step.now in
    let j = job_in step.circuit.now in
    let values = g.S.Source.reads c.args.values.now in
    let P : ℕ → Type 0 = λ n. AreForcesTo (job_in step.circuit.now) (g.S.Source.reads c.args.values.now) n c.args.made.now.row.items c.args.made.now.events.items in
    let start : step.number * j.width ≡ step.number * j.width + 0 = omega arith in
    made_to j X (given_of j values) (forcing j values) step.number 0 c.first_from-position.result c.args.due.now c.args.made.now.row.items c.args.made.now.events.items (omega arith) (omega arith) c.first_from-position.ensures.none c.requires.rest (subst P start c.requires.made)

pub positions-preserved : goal.positions-preserved
positions-preserved g c =
    let step = c.args.step.now in
    let j = job_in step.circuit.now in
    let values = g.S.Source.reads c.args.values.now in
    let count = c.width_of-nets.ensures in
    let test = c.positions-test.true in
    let within : c.positions.position + 1 ≤ j.width = omega (arith, count, test) in
    let next = c.first_from-position-in-positions in
    let e : step.number * c.width_of-nets.result + c.positions.position + 1 ≡ step.number * j.width + (c.positions.position + 1) = rw count (omega arith) in
    let P : ℕ → Type 0 = λ n. AreForcesTo (job_in step.circuit.now) (g.S.Source.reads c.args.values.now) n c.put_place.new.made.row.items c.put_place.new.made.events.items in
    made_to j X (given_of j values) (forcing j values) step.number (c.positions.position + 1) next.result c.args.due.now c.put_place.new.made.row.items c.put_place.new.made.events.items within next.ensures.forward next.ensures.none c.requires.rest (subst P e c.in_ok-put_place.ensures)

pub put_place-requires-clause-place : goal.put_place-requires-clause-place
put_place-requires-clause-place g c =
    let step = c.args.step.now in
    let j = job_in step.circuit.now in
    let count = c.width_of-nets.ensures in
    let test = c.positions-test.true in
    rw count (place_within j step.number c.positions.position step.within (omega (arith, count, test)))

pub put_place-requires-clause-has : goal.put_place-requires-clause-has
put_place-requires-clause-has g c = λ k less.
    (let step = c.args.step.now in
    let j = job_in step.circuit.now in
    let count = c.width_of-nets.ensures in
    let test = c.positions-test.true in
    let within : step.number * c.width_of-nets.result + c.positions.position < places_of j = rw count (place_within j step.number c.positions.position step.within (omega (arith, count, test))) in
    c.requires.has k (omega (arith, less, within)))

pub put_place-requires-clause-made : goal.put_place-requires-clause-made
put_place-requires-clause-made g c =
    let step = c.args.step.now in
    let j = job_in step.circuit.now in
    let count = c.width_of-nets.ensures in
    let test = c.positions-test.true in
    let here : step.number * j.width + min c.positions.position j.width ≡ step.number * c.width_of-nets.result + c.positions.position = rw count (omega (arith, count, test)) in
    let P : ℕ → Type 0 = λ n. AreForcesTo (job_in step.circuit.now) (g.S.Source.reads c.args.values.now) n c.positions.made.row.items c.positions.made.events.items in
    subst P here c.positions.invariant

pub returns : goal.returns
returns g c =
    let step = c.args.step.now in
    let j = job_in step.circuit.now in
    let count = c.width_of-nets.ensures in
    let test = c.positions-test.false in
    let end : step.number * j.width + min c.positions.position j.width ≡ (step.number + 1) * j.width = omega (arith, count, test) in
    let P : ℕ → Type 0 = λ n. AreForcesTo (job_in step.circuit.now) (g.S.Source.reads c.args.values.now) n c.positions.made.row.items c.positions.made.events.items in
    subst P end c.positions.invariant
