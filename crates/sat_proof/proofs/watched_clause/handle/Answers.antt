-- The clause watches another literal, or all its literals are false.
use Rattle.std.proofs.Common.{◌≡◌, List, Bool, ℤ, true, refl, subst}
use Rattle.sat_proof.specs.Code.{is_false}
use Rattle.sat_proof.specs.Guard.{IsFree, AreRestFalse, moves}
use Rattle.sat_proof.specs.Status.{literal_at}
use Rattle.sat_proof.specs.Watch.{watched}
use Rattle.sat_proof.proofs.Guards.{false_by_rest}
use Rattle.sat_proof.proofs.watched_clause.handle.Goals as goal

pub returns-in-Moves-clause-turn : goal.returns-in-Moves-clause-turn
returns-in-Moves-clause-turn c _ = moves c.in-Moves.k refl c.move_to.ensures
    (subst (λ (ms : List Bool). IsFree ms c.args.literals.now (watched c.args.watch.now c.args.twin) c.in-Moves.k) c.deref.ensures.value
    (subst (λ (ls : List ℤ). IsFree c.deref.result.now c.args.literals.now (literal_at ls c.args.twin) c.in-Moves.k) c.as_slice.ensures.value c.in-Moves.ensures))

pub returns-in-Fails-clause-conflict : goal.returns-in-Fails-clause-conflict
returns-in-Fails-clause-conflict c _ =
    let both : (is_false c.args.trail.now.marks.items (watched c.args.watch.now c.args.twin) ≡ true)
    × AreRestFalse c.args.trail.now.marks.items c.args.literals.now (watched c.args.watch.now c.args.twin) =
    subst (λ (ms : List Bool). (is_false ms (watched c.args.watch.now c.args.twin) ≡ true) × AreRestFalse ms c.args.literals.now (watched c.args.watch.now c.args.twin)) c.deref.ensures.value
    (subst (λ (ls : List ℤ). (is_false c.deref.result.now (literal_at ls c.args.twin) ≡ true) × AreRestFalse c.deref.result.now c.args.literals.now (literal_at ls c.args.twin))
    c.as_slice.ensures.value c.in-Fails.ensures) in
    false_by_rest c.args.trail.now.marks.items c.args.literals.now (watched c.args.watch.now c.args.twin) both.0 both.1
