-- With the watches off passes do the same.
use Rattle.std.proofs.Common.{◌∙◌, sym}
use Rattle.std.proofs.lemmas.Bool.{false≢true}
use Rattle.sat_proof.proofs.Trails.{over_sized}
use Rattle.sat_proof.proofs.propagator.Propagator.propagate.Goals as goal

pub invariant_of-self : goal.invariant_of-self
invariant_of-self c = record { same_size = c.args.self.now.same_size ∙ sym (over_sized c.args.self.now.trail c.sweep.new.trail c.sweep.ensures.over) }

pub returns-else-self-clause-done : goal.returns-else-self-clause-done
returns-else-self-clause-done c e = record {
  growth = c.sweep.ensures.growth e;
  quiet = c.sweep.ensures.quiet e;
  read = c.sweep.ensures.read e;
  safe = λ on. absurd (false≢true (sym c.if-self.false ∙ on));
}
