-- A clause with one open literal forces it, and one with two watches them.
use Rattle.std.proofs.Common.{List, Bool, length, refl, subst}
use Rattle.sat_proof.specs.Guard.{forced, watching}
use Rattle.sat_proof.specs.Status.{IsOnlyOpen, AreOpen}
use Rattle.sat_proof.proofs.propagator.Propagator.add_clause.Goals as goal

pub returns-in-Unit-clause-entry : goal.returns-in-Unit-clause-entry
returns-in-Unit-clause-entry c _ = forced c.in-Unit.k
    (subst (λ (ms : List Bool). IsOnlyOpen ms c.args.literals.now (length c.args.literals.now) c.in-Unit.k) c.deref.ensures.value c.in-Unit.ensures)
    c.affirm.ensures.pushed c.skip-in-Unit.ensures.added

pub returns-in-Two-clause-entry : goal.returns-in-Two-clause-entry
returns-in-Two-clause-entry c _ = watching c.in-Two.j c.in-Two.k refl
    (subst (λ (ms : List Bool). AreOpen ms c.args.literals.now c.in-Two.j c.in-Two.k) c.deref.ensures.value c.in-Two.ensures) c.add.ensures.added
