-- At the end the marks are those under the places that were taken back.
use Rattle.std.proofs.Common.{◌≡◌, arith}
use Rattle.sat_proof.proofs.Trails.{undone}
use Rattle.sat_proof.proofs.trail.Trail.undo.Goals as goal

pub returns-clause-marks : goal.returns-clause-marks
returns-clause-marks c base over =
    let e : c.loop-self.self.len ≡ c.args.len = omega arith in
    undone c.args.self.now c.loop-self.self c.args.len c.loop-self.invariant e base over
