-- One more clause is looked at, and at the end all have been.
use Rattle.std.proofs.Common.{◌≤◌, ◌+◌, length, refl, sym, subst, ◌∙◌, List, ℤ, arith, ◌<◌}
use Rattle.sat_proof.specs.Assignment.{HasNoZero}
use Rattle.sat_proof.specs.Closed.{IsFalse}
use Rattle.sat_proof.specs.Code.{HaveRoom}
use Rattle.sat_proof.specs.Log.{clause_at}
use Rattle.sat_proof.specs.Premises.{all_in}
use Rattle.sat_proof.specs.Propagation.{IsVisit}
use Rattle.sat_proof.specs.Trail.{held}
use Rattle.sat_proof.proofs.Runs.{refuted_by, clause_in, visited, next_waits, room_at, running_done}
use Rattle.sat_proof.proofs.sweep.pass_once.Goals as goal

pub returns-then-visit-clause-conflict : goal.returns-then-visit-clause-conflict
returns-then-visit-clause-conflict c _ =
    let lt : c.loop-n.n < length (all_in c.args.clauses.now) = omega (arith) in
    refuted_by c.args.trail.now.marks.items c.loop-n.trail.marks.items (all_in c.args.clauses.now) (clause_at (all_in c.args.clauses.now) c.loop-n.n)
    c.loop-n.invariant.running.growth (clause_in (all_in c.args.clauses.now) c.loop-n.n lt)
    (subst (λ (x : List ℤ). IsFalse (held c.loop-n.trail) x) c.literals.ensures.value (c.if-visit.ensures.conflict refl))

pub returns-then-visit-clause-over : goal.returns-then-visit-clause-over
returns-then-visit-clause-over c base b over = c.visit.ensures.over base b (c.loop-n.invariant.running.over base b over)

pub loop-n-preserved : goal.loop-n-preserved
loop-n-preserved c =
    let lt : c.loop-n.n < length (all_in c.args.clauses.now) = omega (arith) in
    let room : HaveRoom (length c.loop-n.trail.marks.items) (all_in c.args.clauses.now) =
    subst (λ i. HaveRoom i (all_in c.args.clauses.now)) (sym c.loop-n.invariant.running.growth.sized) c.requires in
    record {
      running = visited c.args.trail.now c.loop-n.trail (all_in c.args.clauses.now) c.args.trail.now.len c.loop-n.n
          (λ n. c.loop-n.n ≤ n) (λ n. c.loop-n.n + 1 ≤ n) c.loop-n.invariant.running lt (next_waits c.loop-n.n) c.visit.new.trail
          (room_at (length c.loop-n.trail.marks.items) (all_in c.args.clauses.now) c.loop-n.n room lt
          (subst (λ (x : List ℤ). HasNoZero x) c.literals.ensures.value c.literals.ensures.no_zero))
          (subst (λ (x : List ℤ). IsVisit c.loop-n.trail c.visit.new.trail x) c.literals.ensures.value (c.if-visit.ensures.visit refl));
      read = c.visit.ensures.read ∙ c.loop-n.invariant.read;
    }

pub returns-clause-running : goal.returns-clause-running
returns-clause-running c _ =
    let le : length (all_in c.args.clauses.now) ≤ c.loop-n.n = omega (arith) in
    running_done c.args.trail.now c.loop-n.trail (all_in c.args.clauses.now) c.args.trail.now.len c.loop-n.n c.loop-n.invariant.running le
