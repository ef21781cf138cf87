-- The clause that a look finds false is one of the clauses.
use Rattle.std.proofs.Common.{◌<◌, ◌/◌, ◌∙◌, length, List, ℤ, arith, subst, sym}
use Rattle.sat_proof.specs.Premises.{all_in}
use Rattle.sat_proof.specs.Closed.{IsFalse}
use Rattle.sat_proof.specs.Trail.{held}
use Rattle.sat_proof.proofs.Trails.{over_sized}
use Rattle.sat_proof.proofs.propagator.Propagator.visit_entry.Goals as goal

pub invariant_of-self : goal.invariant_of-self
invariant_of-self c = record { same_size = c.handle.ensures.size ∙ c.args.self.now.same_size ∙ sym (over_sized c.args.self.now.trail c.handle.new.trail c.handle.ensures.over) }

pub returns-clause-conflict : goal.returns-clause-conflict
returns-clause-conflict c e =
    let lt : c.args.entry / 2 < length (all_in c.args.clauses.now) = omega (arith, c.requires.entry, c.requires.used) in
    (c.args.entry / 2, lt, subst (λ (d : List ℤ). IsFalse (held c.args.self.now.trail) d) c.literals.ensures.value (c.handle.ensures.conflict e))
