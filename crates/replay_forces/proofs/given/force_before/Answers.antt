-- At a later step it was forced by what its driver gave.
use Rattle.std.proofs.Common.{◌-◌, ◌≤◌, ◌∙◌, ap, arith}
use Rattle.design_circuit.specs.Circuit.{job_in}
use Rattle.replay_forces.specs.ForcesOf.{needed}
use Rattle.replay_forces.proofs.Making.{forced_later}
use Rattle.replay_forces.proofs.given.force_before.Goals as goal

pub returns-else-place-width : goal.returns-else-place-width
returns-else-place-width g c =
    let j = job_in c.args.circuit.now in
    let values = g.S.Source.reads c.args.values.now in
    let width = c.width_of-width.ensures in
    let test = c.if-place-width.false in
    let later : j.width ≤ c.args.place = omega (arith, width, test) in
    c.needed.ensures
    ∙ (ap (needed c.args.was) (c.value.ensures ∙ ap (λ w. values (c.args.place - w)) width) ∙ forced_later j values c.args.place c.args.was later (c.requires.was later))
