-- The walk has gone on to the next place of the step, to the next step, or to the end.
use Rattle.std.proofs.Common.{◌≡◌, ap, subst, arith}
use Rattle.design_circuit.specs.Job.{Job}
use Rattle.wave_bytes.specs.View as view
use Rattle.wave_due.specs.Walk.{IsWalkAt, shown_by}
use Rattle.wave_due.proofs.Fronts.{walk_here}
use Rattle.wave_due.proofs.walk.Walk.settle.Goals as goal

pub returns-then-position-width_of-clause-walk : goal.returns-then-position-width_of-clause-walk
returns-then-position-width_of-clause-walk c =
    let v = c.args.waveform.now in
    let test = c.if-position-width_of.true in
    let count = c.width_of.ensures in
    let wide = ap (λ (j : Job). j.width) c.circuit-circuit.ensures.job in
    walk_here (view.job v) v.written c.args.self.now c.args.position c.requires.tables
    (omega (arith, test, count, wide)) c.requires.here

pub begin-requires-clause-here : goal.begin-requires-clause-here
begin-requires-clause-here c =
    let v = c.args.waveform.now in
    let j = view.job v in
    let walk = c.args.self.now in
    let test = c.if-position-width_of.false in
    let count = c.width_of.ensures in
    let wide = ap (λ (j : Job). j.width) c.circuit-circuit.ensures.job in
    let up = c.requires.position in
    let all : c.args.position ≡ j.width = omega (arith, test, count, wide, up) in
    subst (λ p. IsWalkAt j (shown_by j walk) v.written walk walk.replayed.step p) all c.requires.here
