-- One more literal is assumed, or clashes with what is.
use Rattle.std.proofs.Common.{sym, ◌∙◌, subst, length, pos, List, Bool, take, ◌+◌, slice_index_or, ◌≡◌, set, true}
use Rattle.std.specs.Prelude.{neg_ℤ}
use Rattle.sat_proof.specs.Code.{HasRoom, code_of, is_false}
use Rattle.sat_proof.specs.Status.{IsOpen}
use Rattle.sat_proof.specs.Propagation.{AreAssumed}
use Rattle.sat_proof.specs.Trail.{StaysOver}
use Rattle.sat_proof.specs.declared.trail.Trail.{Trail}
use Rattle.sat_proof.proofs.Assuming.{assumed_already, assumed_more, clash_at}
use Rattle.sat_proof.proofs.assume.assume.Goals as goal
use Rattle.sat_proof.proofs.assume.assume.Goals.{in-False, in-Open}

pub returns-in-True-clause-clash : goal.returns-in-True-clause-clash
returns-in-True-clause-clash c _ = clash_at c.args.trail.now.marks.items c.loop-k.trail.marks.items c.args.literals.now c.loop-k.k c.loop-k.invariant.assumed
    c.loop-k-test.true
    (subst (λ (ms : List Bool). is_false ms (neg_ℤ (slice_index_or c.args.literals.now c.loop-k.k (pos 0))) ≡ true) c.deref.ensures.value c.in-True.ensures)

pub loop-k-preserved : goal.loop-k-preserved
loop-k-preserved c =
    elim c.match-value_at.branch [
      | in-False w ↦ record {
        assumed = subst (λ (t : Trail). AreAssumed c.args.trail.now.marks.items t.marks.items (take (c.loop-k.k + 1) c.args.literals.now)) (sym w.trail-is)
            (assumed_already c.args.trail.now.marks.items c.loop-k.trail.marks.items c.args.literals.now c.loop-k.k c.loop-k.invariant.assumed c.loop-k-test.true
            (subst (λ (ms : List Bool). is_false ms (slice_index_or c.args.literals.now c.loop-k.k (pos 0)) ≡ true) c.deref.ensures.value w.in-False.ensures));
        over = subst (λ (t : Trail). StaysOver c.args.trail.now t) (sym w.trail-is) c.loop-k.invariant.over;
        read = subst (λ (t : Trail). t.read ≡ c.args.trail.now.read) (sym w.trail-is) c.loop-k.invariant.read;
      }
      | in-Open w ↦
          let room : HasRoom (length c.loop-k.trail.marks.items) (slice_index_or c.args.literals.now c.loop-k.k (pos 0)) =
          subst (λ n. HasRoom n (slice_index_or c.args.literals.now c.loop-k.k (pos 0))) (sym c.loop-k.invariant.assumed.sized) (c.requires c.loop-k.k (pos 0) c.loop-k-test.true) in
          record {
            assumed = subst (λ (ms : List Bool). AreAssumed c.args.trail.now.marks.items ms (take (c.loop-k.k + 1) c.args.literals.now))
                (sym (subst (λ (t : Trail). t.marks.items ≡ set c.loop-k.trail.marks.items (code_of (slice_index_or c.args.literals.now c.loop-k.k (pos 0))) true) (sym w.trail-is) w.deny.ensures.pushed.marks))
                (assumed_more c.args.trail.now.marks.items c.loop-k.trail.marks.items c.args.literals.now c.loop-k.k c.loop-k.invariant.assumed c.loop-k-test.true room
                (subst (λ (ms : List Bool). IsOpen ms (slice_index_or c.args.literals.now c.loop-k.k (pos 0))) c.deref.ensures.value w.in-Open.ensures));
            over = subst (λ (t : Trail). StaysOver c.args.trail.now t) (sym w.trail-is) (λ base b over. w.deny.ensures.over base b (c.loop-k.invariant.over base b over));
            read = subst (λ (t : Trail). t.read ≡ c.args.trail.now.read) (sym w.trail-is) (w.deny.ensures.pushed.read ∙ c.loop-k.invariant.read);
          }
    ]
