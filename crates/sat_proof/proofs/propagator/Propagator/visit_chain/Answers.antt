-- One more entry of the loose chain is looked at, and at its end none waits.
use Rattle.std.proofs.Common.{◌≡◌, ◌-◌, ◌∙◌, refl, arith, sym, subst, slice_index_or}
use Rattle.std.proofs.lemmas.Grind.{get_or_default_zero}
use Rattle.sat_proof.specs.Premises.{all_in}
use Rattle.sat_proof.specs.Guard.{AreSafe}
use Rattle.sat_proof.specs.Watch.{IsLaced, IsLoose}
use Rattle.sat_proof.proofs.Walks.{any_refuted, laced_from, looked_laced, looked_on, safe_same, tracing_walked, walked_laced, walked_safe, walked_tracing}
use Rattle.sat_proof.proofs.Links.{chained_end, loose_entry}
use Rattle.sat_proof.proofs.propagator.Propagator.visit_chain.Goals as goal

pub overflow_sub-entry : goal.overflow_sub-entry
overflow_sub-entry c = (loose_entry c.loop-left.self.watch c.loop-left.at c.loop-left.left c.loop-left.invariant.laced.chained c.loop-left-test.true).some

pub index-next-requires : goal.index-next-requires
index-next-requires c =
    let loose : IsLoose c.loop-left.self.watch c.loop-left.at = (loose_entry c.loop-left.self.watch c.loop-left.at c.loop-left.left c.loop-left.invariant.laced.chained c.loop-left-test.true) in
    omega (arith, loose.below, c.loop-left.self.watch.in_use)

pub visit_entry-requires-clause-entry : goal.visit_entry-requires-clause-entry
visit_entry-requires-clause-entry c = (loose_entry c.loop-left.self.watch c.loop-left.at c.loop-left.left c.loop-left.invariant.laced.chained c.loop-left-test.true).below

pub visit_entry-requires-clause-some : goal.visit_entry-requires-clause-some
visit_entry-requires-clause-some c = (loose_entry c.loop-left.self.watch c.loop-left.at c.loop-left.left c.loop-left.invariant.laced.chained c.loop-left-test.true).room.nonzero

pub returns-then-visit_entry-clause-conflict : goal.returns-then-visit_entry-clause-conflict
returns-then-visit_entry-clause-conflict c _ = any_refuted c.args.self.now.trail.marks.items c.loop-left.self.trail.marks.items (all_in c.args.clauses.now)
    c.loop-left.invariant.tracing.growth (c.if-visit_entry.ensures.conflict refl)

pub returns-then-visit_entry-clause-back : goal.returns-then-visit_entry-clause-back
returns-then-visit_entry-clause-back c =
    let laced : IsLaced c.visit_entry.new.self.watch (all_in c.args.clauses.now) c.loop-left.at c.loop-left.left =
    subst (λ x. IsLaced x (all_in c.args.clauses.now) c.loop-left.at c.loop-left.left) (sym (c.if-visit_entry.ensures.same refl)) c.loop-left.invariant.laced in
    record {
      over = λ base b over. c.visit_entry.ensures.over base b (c.loop-left.invariant.tracing.over base b over);
      laced = λ _. laced_from c.visit_entry.new.self.watch c.restore.new.self (all_in c.args.clauses.now) c.loop-left.at c.loop-left.left 0 0 laced
          c.restore.ensures.literals c.restore.ensures.used c.restore.ensures.chained;
      stays = λ base within safe. safe_same c.visit_entry.new.self.watch c.restore.new.self base (all_in c.args.clauses.now) c.restore.ensures.literals
          (subst (λ x. AreSafe x base (all_in c.args.clauses.now)) (sym (c.if-visit_entry.ensures.same refl)) (c.loop-left.invariant.stays base within safe));
      on = c.restore.ensures.on ∙ subst (λ x. x.on ≡ c.args.self.now.watch.on) (sym (c.if-visit_entry.ensures.same refl)) (c.loop-left.invariant.on ∙ sym c.requires.on);
    }

pub link-requires-clause-room : goal.link-requires-clause-room
link-requires-clause-room c = (loose_entry c.visit_entry.new.self.watch c.loop-left.at c.loop-left.left
    (looked_laced c.args.self.now.trail c.loop-left.self.trail c.visit_entry.new.self.trail c.loop-left.self.watch c.visit_entry.new.self.watch (all_in c.args.clauses.now)
    c.loop-left.at c.loop-left.left (sym c.loop-left.self.same_size) c.loop-left.invariant.laced c.loop-left-test.true (c.if-visit_entry.ensures.look refl)).chained c.loop-left-test.true).room

pub link-requires-clause-count : goal.link-requires-clause-count
link-requires-clause-count c = (loose_entry c.visit_entry.new.self.watch c.loop-left.at c.loop-left.left
    (looked_laced c.args.self.now.trail c.loop-left.self.trail c.visit_entry.new.self.trail c.loop-left.self.watch c.visit_entry.new.self.watch (all_in c.args.clauses.now)
    c.loop-left.at c.loop-left.left (sym c.loop-left.self.same_size) c.loop-left.invariant.laced c.loop-left-test.true (c.if-visit_entry.ensures.look refl)).chained c.loop-left-test.true).count

pub loop-left-preserved : goal.loop-left-preserved
loop-left-preserved c =
    let loose : IsLoose c.loop-left.self.watch c.loop-left.at = (loose_entry c.loop-left.self.watch c.loop-left.at c.loop-left.left c.loop-left.invariant.laced.chained c.loop-left-test.true) in
    let next : c.index-next.result.now ≡ slice_index_or c.loop-left.self.watch.nexts.items (c.loop-left.at - 1) 0 =
    c.index-next.ensures ∙ get_or_default_zero c.loop-left.self.watch.nexts.items (c.loop-left.at - 1) c.index-next.result.now (omega (arith, loose.below, c.loop-left.self.watch.in_use)) in
    record {
      tracing = walked_tracing c.args.self.now.trail c.loop-left.self.trail c.visit_entry.new.self.trail c.loop-left.self.watch c.visit_entry.new.self.watch (all_in c.args.clauses.now)
          c.loop-left.at c.loop-left.left (sym c.loop-left.self.same_size) c.loop-left.invariant.laced c.loop-left-test.true (c.if-visit_entry.ensures.look refl)
          c.link.new.self c.link.ensures c.index-next.result.now next c.args.self.now.trail.read c.loop-left.invariant.tracing;
      laced = walked_laced c.args.self.now.trail c.loop-left.self.trail c.visit_entry.new.self.trail c.loop-left.self.watch c.visit_entry.new.self.watch (all_in c.args.clauses.now)
          c.loop-left.at c.loop-left.left (sym c.loop-left.self.same_size) c.loop-left.invariant.laced c.loop-left-test.true (c.if-visit_entry.ensures.look refl)
          c.link.new.self c.link.ensures c.index-next.result.now next;
      stays = λ base within safe. walked_safe c.args.self.now.trail c.loop-left.self.trail c.visit_entry.new.self.trail c.loop-left.self.watch c.visit_entry.new.self.watch (all_in c.args.clauses.now)
          c.loop-left.at c.loop-left.left (sym c.loop-left.self.same_size) c.loop-left.invariant.laced c.loop-left-test.true (c.if-visit_entry.ensures.look refl)
          c.link.new.self c.link.ensures c.index-next.result.now next
          base c.args.self.now.trail.read c.loop-left.invariant.tracing within (c.loop-left.invariant.stays base within safe);
      read = c.visit_entry.ensures.read ∙ c.loop-left.invariant.read;
      on = c.link.ensures.on ∙ looked_on c.args.self.now.trail c.loop-left.self.trail c.visit_entry.new.self.trail c.loop-left.self.watch c.visit_entry.new.self.watch (all_in c.args.clauses.now)
          c.loop-left.at c.loop-left.left (sym c.loop-left.self.same_size) c.loop-left.invariant.laced c.loop-left-test.true (c.if-visit_entry.ensures.look refl)
          ∙ c.loop-left.invariant.on;
    }

pub returns-clause-tracing : goal.returns-clause-tracing
returns-clause-tracing c _ = tracing_walked c.args.self.now.trail c.loop-left.self.trail c.loop-left.self.watch (all_in c.args.clauses.now) c.args.self.now.trail.read
    c.loop-left.at c.loop-left.left c.loop-left.invariant.tracing c.loop-left.invariant.laced.chained (omega arith)

pub returns-clause-back : goal.returns-clause-back
returns-clause-back c = record {
  over = c.loop-left.invariant.tracing.over;
  laced = λ _. laced_from c.loop-left.self.watch c.loop-left.self.watch (all_in c.args.clauses.now) c.loop-left.at c.loop-left.left 0 0 c.loop-left.invariant.laced refl refl
      (chained_end c.loop-left.self.watch c.loop-left.at c.loop-left.left (omega arith) c.loop-left.invariant.laced.chained);
  stays = c.loop-left.invariant.stays;
  on = c.loop-left.invariant.on ∙ sym c.requires.on;
}
