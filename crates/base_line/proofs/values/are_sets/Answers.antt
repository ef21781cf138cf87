-- What is left is in order exactly where all is.
use Rattle.std.proofs.Common.{rules, subst, sym, ap, arith, length, length-drop, drop}
use Rattle.base_line.specs.Line.{IsSet}
use Rattle.base_line.proofs.Pieces.{Left, test_bad, test_on, test_end}
use Rattle.base_line.proofs.values.are_sets.Goals as goal

pub returns-then-not-is_set : goal.returns-then-not-is_set
returns-then-not-is_set c = test_bad 44 IsSet c.args.list.now c.pieces.rest.now c.pieces.place c.is_set.result c.pieces.invariant.left c.pieces.invariant.place_is c.pieces-test.true c.is_set.ensures c.if-not-is_set.true

pub pieces-preserved : goal.pieces-preserved
pieces-preserved c = record {
  left = subst (Left 44 IsSet c.args.list.now) (sym c.after-rest.ensures) (test_on 44 IsSet c.args.list.now c.pieces.rest.now c.pieces.place c.is_set.result c.pieces.invariant.left c.pieces.invariant.place_is c.pieces-test.true c.is_set.ensures c.if-not-is_set.false);
  place_is = search rules;
}

pub returns : goal.returns
returns c = test_end 44 IsSet c.args.list.now c.pieces.rest.now c.pieces.place c.is_set-2.result c.pieces.invariant.left c.pieces.invariant.place_is c.pieces-test.false c.is_set-2.ensures

pub pieces-smaller : goal.pieces-smaller
pieces-smaller c = omega (arith, ap length c.after-rest.ensures, length-drop 1 (drop c.pieces.place c.pieces.rest.now), length-drop c.pieces.place c.pieces.rest.now, c.pieces-test.true)
