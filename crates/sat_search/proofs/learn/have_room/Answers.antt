-- One more literal that has marks, and all of them at the end.
use Rattle.std.proofs.Common.{◌+◌, ◌*◌, refl, subst, pos, arith}
use Rattle.std.specs.List.{All}
use Rattle.std.proofs.lemmas.List.{take_all}
use Rattle.std.proofs.lemmas.List.Elements.{All-more}
use Rattle.sat_proof.specs.Code.{HasRoom}
use Rattle.sat_search.proofs.learn.have_room.Goals as goal

pub loop-k-preserved : goal.loop-k-preserved
loop-k-preserved c = All-more (HasRoom (2 * c.args.vars + 2)) c.args.literals.now c.loop-k.k (pos 0) c.loop-k-test.true c.loop-k.invariant (c.if-not-has_room.ensures refl)

pub returns : goal.returns
returns c _ = subst (All (HasRoom (2 * c.args.vars + 2))) (take_all c.loop-k.k c.args.literals.now (omega arith)) c.loop-k.invariant
