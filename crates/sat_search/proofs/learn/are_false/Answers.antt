-- One more literal that is false, and all of them at the end.
use Rattle.std.proofs.Common.{◌≡◌, true, sym, subst, pos, arith}
use Rattle.std.proofs.lemmas.List.{take_all}
use Rattle.std.proofs.lemmas.List.Elements.{All-more}
use Rattle.sat_proof.specs.Closed.{IsFalse}
use Rattle.sat_proof.specs.Code.{is_false}
use Rattle.sat_search.proofs.learn.are_false.Goals as goal

pub loop-k-preserved : goal.loop-k-preserved
loop-k-preserved c = All-more (λ l. is_false c.args.marks.now l ≡ true) c.args.literals.now c.loop-k.k (pos 0) c.loop-k-test.true c.loop-k.invariant (sym c.if-not-is_marked.ensures)

pub returns : goal.returns
returns c _ = subst (IsFalse (is_false c.args.marks.now)) (take_all c.loop-k.k c.args.literals.now (omega arith)) c.loop-k.invariant
