-- A literal that is made false with what follows from it, or the conflict that comes.
use Rattle.std.proofs.Common.{◌++◌, refl, sym, subst, List, Bool, true, ◌≡◌, ◌∷◌, []}
use Rattle.std.specs.Prelude.{neg_ℤ}
use Rattle.sat_proof.specs.Premises.{all_in}
use Rattle.sat_proof.specs.Code.{is_false, HaveRoom}
use Rattle.sat_proof.specs.Status.{literal_at}
use Rattle.sat_proof.proofs.Backs.{leads_after, leads_none}
use Rattle.sat_proof.proofs.Trails.{over_sized}
use Rattle.sat_search.specs.Reach.{IsFrom}
use Rattle.sat_search.proofs.Reaching.{conflict_if_true, from_if_false, from_push, from_growth, conflict_if_refuted, settled_push, tracing_push}
use Rattle.sat_search.proofs.reach.reach.Goals as goal

pub propagate-requires : goal.propagate-requires
propagate-requires c = record {
  room = subst (λ n. HaveRoom n (all_in c.args.clauses.now)) (sym (over_sized c.args.propagator.now.trail c.deny.new.self c.deny.ensures.over)) c.requires.settled.room;
  laced = λ on. (c.requires.settled.watches on).laced;
  tracing = tracing_push c.args.propagator.now c.deny.new.self (all_in c.args.clauses.now) c.requires.settled c.deny.ensures.over c.deny.ensures.pushed.read;
}

pub returns-in-True-clause-conflict : goal.returns-in-True-clause-conflict
returns-in-True-clause-conflict c _ d from = conflict_if_true c.args.propagator.now.trail.marks.items (all_in c.args.clauses.now) d (literal_at c.args.literals.now c.args.k) from
    (subst (λ (ms : List Bool). is_false ms (neg_ℤ (literal_at c.args.literals.now c.args.k)) ≡ true) c.deref.ensures.value c.in-True.ensures)

pub returns-in-True-clause-back : goal.returns-in-True-clause-back
returns-in-True-clause-back c = leads_none c.args.propagator.now (all_in c.args.clauses.now) (λ on. (c.requires.settled.watches on).laced)

pub returns-in-False-clause-from : goal.returns-in-False-clause-from
returns-in-False-clause-from c _ d from = from_if_false c.args.propagator.now.trail.marks.items (all_in c.args.clauses.now) d (literal_at c.args.literals.now c.args.k) from
    (subst (λ (ms : List Bool). is_false ms (literal_at c.args.literals.now c.args.k) ≡ true) c.deref.ensures.value c.in-False.ensures)

pub returns-in-False-clause-back : goal.returns-in-False-clause-back
returns-in-False-clause-back c = leads_none c.args.propagator.now (all_in c.args.clauses.now) (λ on. (c.requires.settled.watches on).laced)

pub returns-in-Open-clause-conflict : goal.returns-in-Open-clause-conflict
returns-in-Open-clause-conflict c e d from = conflict_if_refuted c.deny.new.self.marks.items (all_in c.args.clauses.now) (d ++ literal_at c.args.literals.now c.args.k ∷ [])
    (subst (λ (ms : List Bool). IsFrom ms (all_in c.args.clauses.now) (d ++ literal_at c.args.literals.now c.args.k ∷ [])) (sym c.deny.ensures.pushed.marks)
    (from_push c.args.propagator.now.trail.marks.items (all_in c.args.clauses.now) d (literal_at c.args.literals.now c.args.k) from (c.requires.room c.args.k _ c.requires.below).own))
    (c.propagate.ensures.conflict e)

pub returns-in-Open-clause-from : goal.returns-in-Open-clause-from
returns-in-Open-clause-from c e d from = from_growth c.deny.new.self.marks.items (all_in c.args.clauses.now) (d ++ literal_at c.args.literals.now c.args.k ∷ [])
    (subst (λ (ms : List Bool). IsFrom ms (all_in c.args.clauses.now) (d ++ literal_at c.args.literals.now c.args.k ∷ [])) (sym c.deny.ensures.pushed.marks)
    (from_push c.args.propagator.now.trail.marks.items (all_in c.args.clauses.now) d (literal_at c.args.literals.now c.args.k) from (c.requires.room c.args.k _ c.requires.below).own))
    c.propagate.new.self.trail.marks.items (c.propagate.ensures.done e).growth

pub returns-in-Open-clause-settled : goal.returns-in-Open-clause-settled
returns-in-Open-clause-settled c e = settled_push _ c.propagate.new.self (all_in c.args.clauses.now)
    (subst (λ n. HaveRoom n (all_in c.args.clauses.now)) (sym (over_sized c.args.propagator.now.trail c.deny.new.self c.deny.ensures.over)) c.requires.settled.room)
    (c.propagate.ensures.done e) c.propagate.ensures.back

pub returns-in-Open-clause-back : goal.returns-in-Open-clause-back
returns-in-Open-clause-back c = leads_after c.args.propagator.now _ c.propagate.new.self (all_in c.args.clauses.now) c.deny.ensures.over refl c.propagate.ensures.back
