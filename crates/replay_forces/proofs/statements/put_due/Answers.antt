-- What isn't due between two positions that are rests.
use Rattle.std.proofs.Common.{◌≡◌, ◌+◌, ◌*◌, ◌≤◌, ℕ, List, None, arith, min, refl, subst, ◌∙◌}
use Rattle.design_circuit.specs.Circuit.{job_in}
use Rattle.design_circuit.specs.Force.{forced_by}
use Rattle.replay_forces.specs.Made.{AreChangesTo}
use Rattle.replay_forces.proofs.Rows.{made_to}
use Rattle.replay_due.specs.Due.{NoneBetween}
use Rattle.replay_forces.proofs.statements.put_due.Goals as goal

pub positions-init : goal.positions-init
positions-init c =
    let step = c.args.step.now in
    let j = job_in step.circuit.now in
    let f = forced_by j step.statements.now in
    let P : ℕ → Type 0 = λ n. AreChangesTo (job_in step.circuit.now) step.statements.now n c.args.changes.now.row.items c.args.changes.now.events.items in
    let start : step.number * j.width ≡ step.number * j.width + 0 = omega arith in
    record {
      made = made_to j None f f step.number 0 c.first_from-position.result c.args.changes.now.due c.args.changes.now.row.items c.args.changes.now.events.items (omega arith) (omega arith) c.first_from-position.ensures.none c.requires.rest (subst P start c.requires.made);
      due = refl;
    }

pub put_net-requires-clause-made : goal.put_net-requires-clause-made
put_net-requires-clause-made c =
    let step = c.args.step.now in
    let j = job_in step.circuit.now in
    let count = c.width_of-nets.ensures in
    let test = c.positions-test.true in
    let here : min c.positions.position j.width ≡ c.positions.position = omega (arith, count, test) in
    let P : ℕ → Type 0 = λ n. AreChangesTo (job_in step.circuit.now) step.statements.now (step.number * (job_in step.circuit.now).width + n) c.positions.changes.row.items c.positions.changes.events.items in
    subst P here c.positions.invariant.made

pub positions-preserved : goal.positions-preserved
positions-preserved c =
    let step = c.args.step.now in
    let j = job_in step.circuit.now in
    let f = forced_by j step.statements.now in
    let count = c.width_of-nets.ensures in
    let test = c.positions-test.true in
    let within : c.positions.position + 1 ≤ j.width = omega (arith, count, test) in
    let next = c.first_from-position-in-positions in
    let same : c.put_net.new.changes.due ≡ c.args.changes.now.due = c.in_ok-put_net.ensures.due ∙ c.positions.invariant.due in
    let e : step.number * j.width + c.positions.position + 1 ≡ step.number * j.width + (c.positions.position + 1) = omega arith in
    let P : ℕ → Type 0 = λ n. AreChangesTo (job_in step.circuit.now) step.statements.now n c.put_net.new.changes.row.items c.put_net.new.changes.events.items in
    let Q : List ℕ → Type 0 = λ due. NoneBetween due (c.positions.position + 1) c.first_from-position-in-positions.result in
    record {
      made = made_to j None f f step.number (c.positions.position + 1) next.result c.args.changes.now.due c.put_net.new.changes.row.items c.put_net.new.changes.events.items within next.ensures.forward (subst Q same next.ensures.none) c.requires.rest (subst P e c.in_ok-put_net.ensures.made);
      due = same;
    }

pub returns-clause-made : goal.returns-clause-made
returns-clause-made c =
    let step = c.args.step.now in
    let j = job_in step.circuit.now in
    let count = c.width_of-nets.ensures in
    let test = c.positions-test.false in
    let end : step.number * j.width + min c.positions.position j.width ≡ (step.number + 1) * j.width = omega (arith, count, test) in
    let P : ℕ → Type 0 = λ n. AreChangesTo (job_in step.circuit.now) step.statements.now n c.positions.changes.row.items c.positions.changes.events.items in
    subst P end c.positions.invariant.made
