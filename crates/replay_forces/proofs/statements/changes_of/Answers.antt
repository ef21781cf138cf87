-- Nothing is put at first.
use Rattle.std.proofs.Common.{rules, ◌≡◌, List, Option, None, arith, replicate, subst, sym}
use Rattle.design_cell.specs.declared.value.Value.{Value}
use Rattle.design_circuit.specs.Circuit.{job_in}
use Rattle.design_circuit.specs.Force.{forced_by}
use Rattle.replay_forces.specs.Made.{AreChangesTo}
use Rattle.replay_forces.proofs.Rows.{none_made}
use Rattle.replay_forces.proofs.statements.changes_of.Goals as goal

pub put_steps-requires-clause-changes : goal.put_steps-requires-clause-changes
put_steps-requires-clause-changes c =
    let j = job_in c.args.circuit.now in
    let f = forced_by j c.args.statements.now in
    let row : c.in_ok-vec.field-0.items ≡ replicate j.width None = search rules in
    let P : List (Option Value) → Type 0 = λ list. AreChangesTo (job_in c.args.circuit.now) c.args.statements.now 0 list c.new.result.items in
    record {
      made = subst P (sym row) (none_made j None f f c.new.result.items c.new.ensures.items);
      room = (let room = c.in_ok-none.ensures.room in let count = c.width_of-nets.ensures in omega (arith, room, count));
      none = c.in_ok-none.ensures.none;
    }
