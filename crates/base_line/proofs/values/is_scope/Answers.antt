-- What is left is in order exactly where all is.
use Rattle.std.proofs.Common.{rules, subst, sym, ap, arith, length, length-drop, drop}
use Rattle.base_line.specs.Line.{IsScopeName}
use Rattle.base_line.proofs.Pieces.{Left, test_bad, test_on, test_end}
use Rattle.base_line.proofs.values.is_scope.Goals as goal

pub returns-then-not-is_scope_name : goal.returns-then-not-is_scope_name
returns-then-not-is_scope_name c = test_bad 46 IsScopeName c.args.scope.now c.pieces.rest.now c.pieces.place c.is_scope_name.result c.pieces.invariant.left c.pieces.invariant.place_is c.pieces-test.true c.is_scope_name.ensures c.if-not-is_scope_name.true

pub pieces-preserved : goal.pieces-preserved
pieces-preserved c = record {
  left = subst (Left 46 IsScopeName c.args.scope.now) (sym c.after-rest.ensures) (test_on 46 IsScopeName c.args.scope.now c.pieces.rest.now c.pieces.place c.is_scope_name.result c.pieces.invariant.left c.pieces.invariant.place_is c.pieces-test.true c.is_scope_name.ensures c.if-not-is_scope_name.false);
  place_is = search rules;
}

pub returns : goal.returns
returns c = test_end 46 IsScopeName c.args.scope.now c.pieces.rest.now c.pieces.place c.is_scope_name-2.result c.pieces.invariant.left c.pieces.invariant.place_is c.pieces-test.false c.is_scope_name-2.ensures

pub pieces-smaller : goal.pieces-smaller
pieces-smaller c = omega (arith, ap length c.after-rest.ensures, length-drop 1 (drop c.pieces.place c.pieces.rest.now), length-drop c.pieces.place c.pieces.rest.now, c.pieces-test.true)
