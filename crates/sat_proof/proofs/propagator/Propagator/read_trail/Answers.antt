-- The chain of one more place is looked through, and at the end all are read.
use Rattle.std.proofs.Common.{◌≡◌, ◌<◌, ◌∙◌, length, refl, sym, subst, true, arith}
use Rattle.sat_proof.specs.Premises.{all_in}
use Rattle.sat_proof.specs.Guard.{AreSafe, IsPropagating}
use Rattle.sat_proof.specs.Watch.{Leads, IsLaced, head_of}
use Rattle.sat_proof.proofs.Walks.{detached_laced, quiet_safe, safe_end, safe_same, tracing_again, tracing_more, tracing_read}
use Rattle.sat_proof.proofs.propagator.Propagator.read_trail.Goals as goal

pub visit_chain-requires-clause-waiting : goal.visit_chain-requires-clause-waiting
visit_chain-requires-clause-waiting c = subst (λ n. IsPropagating c.next_code-code.new.self c.next_code-code.new.self c.detach-head.new.self (all_in c.args.clauses.now) c.next_code-code.new.self.read
    (λ e. Leads c.detach-head.new.self.nexts.items e n)) (sym c.detach-head.ensures.head)
    (tracing_again c.args.self.now.trail c.next_code-code.new.self c.detach-head.new.self (all_in c.args.clauses.now) c.next_code-code.new.self.read
    (λ e. Leads c.detach-head.new.self.nexts.items e (head_of c.loop-self.self.watch c.next_code-code.result))
    (tracing_read c.args.self.now.trail c.loop-self.self.trail c.next_code-code.new.self c.loop-self.self.watch c.detach-head.new.self (all_in c.args.clauses.now) c.next_code-code.result
    c.loop-self.invariant.tracing c.loop-self.invariant.laced c.loop-self-test.true c.next_code-code.ensures.read c.detach-head.ensures.detached c.next_code-code.ensures.value))

pub visit_chain-requires-clause-laced : goal.visit_chain-requires-clause-laced
visit_chain-requires-clause-laced c =
    let room : c.next_code-code.result < length c.loop-self.self.watch.heads.items = omega (arith, c.next_code-code.ensures.below, c.loop-self.self.same_size) in
    let counted : c.next_code-code.result < length c.loop-self.self.watch.counts.items = omega (arith, room, c.loop-self.self.watch.counted) in
    subst (λ n. IsLaced c.detach-head.new.self (all_in c.args.clauses.now) n c.count-count.result) (sym c.detach-head.ensures.head)
    (subst (IsLaced c.detach-head.new.self (all_in c.args.clauses.now) (head_of c.loop-self.self.watch c.next_code-code.result)) (sym c.count-count.ensures)
    (detached_laced c.args.self.now.trail c.loop-self.self.trail c.next_code-code.new.self c.loop-self.self.watch c.detach-head.new.self (all_in c.args.clauses.now) c.next_code-code.result
    c.loop-self.invariant.tracing c.loop-self.invariant.laced c.loop-self-test.true c.next_code-code.ensures.read c.detach-head.ensures.detached c.next_code-code.ensures.value room counted))

pub returns-then-visit_chain-clause-conflict : goal.returns-then-visit_chain-clause-conflict
returns-then-visit_chain-clause-conflict c _ f quiet within = c.if-visit_chain.ensures.conflict refl f quiet
    ((tracing_read c.args.self.now.trail c.loop-self.self.trail c.next_code-code.new.self c.loop-self.self.watch c.detach-head.new.self (all_in c.args.clauses.now) c.next_code-code.result
    c.loop-self.invariant.tracing c.loop-self.invariant.laced c.loop-self-test.true c.next_code-code.ensures.read c.detach-head.ensures.detached c.next_code-code.ensures.value).growth.within f quiet within)

pub returns-then-visit_chain-clause-back : goal.returns-then-visit_chain-clause-back
returns-then-visit_chain-clause-back c = record {
  over = λ base b over. c.visit_chain.ensures.back.over base b ((tracing_read c.args.self.now.trail c.loop-self.self.trail c.next_code-code.new.self c.loop-self.self.watch c.detach-head.new.self (all_in c.args.clauses.now) c.next_code-code.result
      c.loop-self.invariant.tracing c.loop-self.invariant.laced c.loop-self-test.true c.next_code-code.ensures.read c.detach-head.ensures.detached c.next_code-code.ensures.value).over base b over);
  laced = c.visit_chain.ensures.back.laced;
  stays = λ base within safe. c.visit_chain.ensures.back.stays base
      (λ l on. (tracing_read c.args.self.now.trail c.loop-self.self.trail c.next_code-code.new.self c.loop-self.self.watch c.detach-head.new.self (all_in c.args.clauses.now) c.next_code-code.result
      c.loop-self.invariant.tracing c.loop-self.invariant.laced c.loop-self-test.true c.next_code-code.ensures.read c.detach-head.ensures.detached c.next_code-code.ensures.value).growth.grows l (within l on))
      (safe_same c.loop-self.self.watch c.detach-head.new.self base (all_in c.args.clauses.now) c.detach-head.ensures.detached.literals (c.loop-self.invariant.stays base within safe));
  on = c.visit_chain.ensures.back.on ∙ c.detach-head.ensures.detached.on ∙ c.loop-self.invariant.on ∙ sym c.requires.on;
}

pub loop-self-preserved : goal.loop-self-preserved
loop-self-preserved c =
    let on : c.visit_chain.new.self.watch.on ≡ true = c.visit_chain.ensures.back.on ∙ c.detach-head.ensures.detached.on ∙ c.loop-self.invariant.on in
    record {
      tracing = subst (λ n. IsPropagating c.args.self.now.trail c.visit_chain.new.self.trail c.visit_chain.new.self.watch (all_in c.args.clauses.now) n (λ _. ⊥)) (sym c.visit_chain.ensures.read)
          (tracing_more c.args.self.now.trail c.next_code-code.new.self c.visit_chain.new.self.trail c.detach-head.new.self c.visit_chain.new.self.watch (all_in c.args.clauses.now)
          c.next_code-code.new.self.read c.next_code-code.new.self.read (λ e. Leads c.detach-head.new.self.nexts.items e (head_of c.loop-self.self.watch c.next_code-code.result)) (λ _. ⊥)
          (tracing_read c.args.self.now.trail c.loop-self.self.trail c.next_code-code.new.self c.loop-self.self.watch c.detach-head.new.self (all_in c.args.clauses.now) c.next_code-code.result
          c.loop-self.invariant.tracing c.loop-self.invariant.laced c.loop-self-test.true c.next_code-code.ensures.read c.detach-head.ensures.detached c.next_code-code.ensures.value)
          (c.if-visit_chain.ensures.tracing refl));
      laced = c.visit_chain.ensures.back.laced on;
      stays = λ base within safe. c.visit_chain.ensures.back.stays base
          (λ l on. (tracing_read c.args.self.now.trail c.loop-self.self.trail c.next_code-code.new.self c.loop-self.self.watch c.detach-head.new.self (all_in c.args.clauses.now) c.next_code-code.result
          c.loop-self.invariant.tracing c.loop-self.invariant.laced c.loop-self-test.true c.next_code-code.ensures.read c.detach-head.ensures.detached c.next_code-code.ensures.value).growth.grows l (within l on))
          (safe_same c.loop-self.self.watch c.detach-head.new.self base (all_in c.args.clauses.now) c.detach-head.ensures.detached.literals (c.loop-self.invariant.stays base within safe));
      on = on;
    }

pub returns-clause-done : goal.returns-clause-done
returns-clause-done c _ =
    let done : c.loop-self.self.trail.len ≡ c.loop-self.self.trail.read = omega (arith, c.loop-self.invariant.tracing.low) in
    let safe : AreSafe c.loop-self.self.watch c.loop-self.self.trail.marks.items (all_in c.args.clauses.now) =
    safe_end c.args.self.now.trail c.loop-self.self.trail c.loop-self.self.watch (all_in c.args.clauses.now) c.loop-self.self.trail.read c.loop-self.invariant.tracing c.loop-self.invariant.on done in
    record {
      growth = c.loop-self.invariant.tracing.growth;
      quiet = quiet_safe c.loop-self.self.watch c.loop-self.self.trail.marks.items (all_in c.args.clauses.now) 0 0 c.loop-self.invariant.tracing.growth.consistent c.loop-self.invariant.laced safe;
      read = sym done;
      safe = λ _. safe;
    }
