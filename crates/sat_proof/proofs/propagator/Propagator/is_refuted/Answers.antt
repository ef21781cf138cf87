-- A clash or a conflict lets no set resist, and propagation without one ends in a set that does.
use Rattle.std.proofs.Common.{◌∙◌, refl, sym, subst}
use Rattle.sat_proof.specs.Premises.{all_in}
use Rattle.sat_proof.specs.Code.{HaveRoom}
use Rattle.sat_proof.proofs.Assuming.{clash_left, clash_right, refuted_follows, rest_resists}
use Rattle.sat_proof.proofs.Adding.{tracing_assumed}
use Rattle.sat_proof.proofs.Backs.{leads_after, leads_grown}
use Rattle.sat_proof.proofs.Trails.{over_sized}
use Rattle.sat_proof.proofs.propagator.Propagator.is_refuted.Goals as goal

pub invariant_of-self : goal.invariant_of-self
invariant_of-self c = record { same_size = c.args.self.now.same_size ∙ sym (over_sized c.args.self.now.trail c.assume.new.trail c.assume.ensures.over) }

pub invariant_of-self-2 : goal.invariant_of-self-2
invariant_of-self-2 c = record {
  same_size = c.args.self.now.same_size
      ∙ sym (over_sized c.args.self.now.trail c.assume-2.new.trail (λ base b over. c.assume-2.ensures.over base b (c.assume.ensures.over base b over)));
}

pub returns-then-assume-clause-yes : goal.returns-then-assume-clause-yes
returns-then-assume-clause-yes c _ = clash_left (all_in c.args.clauses.now) c.args.left.now c.args.right.now
    c.args.self.now.trail.marks.items c.requires.base.base.forced (c.if-assume.ensures.clash refl)

pub returns-then-assume-clause-back : goal.returns-then-assume-clause-back
returns-then-assume-clause-back c = leads_grown c.args.self.now _ (all_in c.args.clauses.now) c.assume.ensures.over refl (λ on. (c.requires.base.watches on).laced)

pub returns-then-assume-2-clause-yes : goal.returns-then-assume-2-clause-yes
returns-then-assume-2-clause-yes c _ = clash_right (all_in c.args.clauses.now) c.args.left.now c.args.right.now
    c.args.self.now.trail.marks.items c.assume.new.trail.marks.items c.requires.base.base.forced (c.if-assume.ensures.done refl) (c.if-assume-2.ensures.clash refl)

pub returns-then-assume-2-clause-back : goal.returns-then-assume-2-clause-back
returns-then-assume-2-clause-back c = leads_grown c.args.self.now _ (all_in c.args.clauses.now) (λ base b over. c.assume-2.ensures.over base b (c.assume.ensures.over base b over)) refl
    (λ on. (c.requires.base.watches on).laced)

pub returns-clause-yes : goal.returns-clause-yes
returns-clause-yes c e = refuted_follows (all_in c.args.clauses.now) c.args.left.now c.args.right.now
    c.args.self.now.trail.marks.items c.assume.new.trail.marks.items c.assume-2.new.trail.marks.items c.requires.base.base.forced
    (c.if-assume.ensures.done refl) (c.if-assume-2.ensures.done refl) (c.propagate.ensures.conflict e)

pub returns-clause-no : goal.returns-clause-no
returns-clause-no c e = rest_resists (all_in c.args.clauses.now) c.args.left.now c.args.right.now
    c.args.self.now.trail.marks.items c.assume.new.trail.marks.items c.assume-2.new.trail.marks.items c.propagate.new.self.trail.marks.items
    (c.if-assume.ensures.done refl) (c.if-assume-2.ensures.done refl) (c.propagate.ensures.done e).growth (c.propagate.ensures.done e).quiet

pub returns-clause-back : goal.returns-clause-back
returns-clause-back c = leads_after c.args.self.now _ c.propagate.new.self (all_in c.args.clauses.now)
    (λ base b over. c.assume-2.ensures.over base b (c.assume.ensures.over base b over)) refl c.propagate.ensures.back

pub propagate-requires : goal.propagate-requires
propagate-requires c = record {
  room = subst (λ n. HaveRoom n (all_in c.args.clauses.now)) (sym (over_sized c.args.self.now.trail c.assume-2.new.trail (λ base b over. c.assume-2.ensures.over base b (c.assume.ensures.over base b over))))
      c.requires.base.room;
  laced = λ on. (c.requires.base.watches on).laced;
  tracing = tracing_assumed c.args.self.now.trail c.assume-2.new.trail c.args.self.now.watch (all_in c.args.clauses.now) c.requires.base.base
      (λ is_on. (c.requires.base.watches is_on).safe)
      (λ base b over. c.assume-2.ensures.over base b (c.assume.ensures.over base b over)) (c.assume-2.ensures.read ∙ c.assume.ensures.read);
}
