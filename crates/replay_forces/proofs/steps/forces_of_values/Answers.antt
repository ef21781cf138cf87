-- Nothing is made at first, and all in the end.
use Rattle.std.proofs.Common.{rules, arith, ◌≡◌, sym, subst, refl, List, replicate}
use Rattle.design_cell.specs.declared.value.Value.{Value}
use Rattle.design_cell.specs.declared.value.Value.TheVariants.{X}
use Rattle.design_circuit.specs.Circuit.{job_in}
use Rattle.design_circuit.specs.Job.{places_of}
use Rattle.replay_forces.specs.ForcesOf.{forcing, given_of}
use Rattle.replay_forces.specs.Made.{AreForcesTo}
use Rattle.replay_forces.proofs.Making.{forces_all}
use Rattle.replay_forces.proofs.Moving.{awaited_first}
use Rattle.replay_forces.proofs.Rows.{none_made}
use Rattle.replay_forces.proofs.steps.forces_of_values.Goals as goal

pub put_steps-requires-clause-due : goal.put_steps-requires-clause-due
put_steps-requires-clause-due g c =
    let j = job_in c.args.circuit.now in
    let count = c.width_of-nets.ensures in
    let room = c.in_ok-waiting.ensures.due in
    awaited_first j (g.S.Source.reads c.args.values.now) c.in_ok-waiting.waiting.due (omega (arith, count, room))
    (λ p low. c.in_ok-waiting.ensures.all p (omega (arith, count, low)))

pub put_steps-requires-clause-made : goal.put_steps-requires-clause-made
put_steps-requires-clause-made g c =
    let j = job_in c.args.circuit.now in
    let values = g.S.Source.reads c.args.values.now in
    let events = c.new.result.items in
    let row : c.in_ok-vec.field-0.items ≡ replicate j.width X = search rules in
    let P : List Value → Type 0 = λ list. AreForcesTo (job_in c.args.circuit.now) (g.S.Source.reads c.args.values.now) 0 list c.new.result.items in
    subst P (sym row) (none_made j X (given_of j values) (forcing j values) events c.new.ensures.items)

pub returns : goal.returns
returns g c =
    let j = job_in c.args.circuit.now in
    let values = g.S.Source.reads c.args.values.now in
    forces_all j c.args.circuit.now.fits.fits_job values (places_of j) c.put_steps.new.made.row.items c.put_steps.new.made.events.items c.from_vec.result refl c.in_ok-put_steps.ensures c.from_vec.ensures
