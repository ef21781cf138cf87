-- What stood under the trail stands under it with one more code.
use Rattle.std.proofs.Common.{refl}
use Rattle.sat_proof.proofs.Trails.{over_push, step_push}
use Rattle.sat_proof.proofs.trail.Trail.push.Goals as goal

pub invariant_of-self : goal.invariant_of-self
invariant_of-self c = record {
  in_step = step_push c.args.self.now.marks.items c.args.self.now.codes.items c.args.self.now.len c.args.code c.args.self.now.in_step
      c.requires.room c.requires.open c.requires.consistent;
}

pub returns-clause-over : goal.returns-clause-over
returns-clause-over c = over_push c.args.self.now _ c.args.code c.requires.room c.requires.open
    (record { marks = refl; codes = refl; len = refl; read = refl })
