-- What is left is in order exactly where all is.
use Rattle.std.proofs.Common.{rules, subst, sym, ap, arith, ◌<◌, length, length-drop, drop}
use Rattle.base_line.specs.Line.{Text}
use Rattle.base_line.proofs.Pieces.{Left, test_bad, test_on, test_end}
use Rattle.cmd_trim.proofs.names.is_list.Goals as goal

abbrev Named : Text → Type 0
Named name = 0 < length name

pub returns-then-not-is_name : goal.returns-then-not-is_name
returns-then-not-is_name c = test_bad 44 Named c.args.list.now c.names.rest.now c.names.place c.is_name.result c.names.invariant.left c.names.invariant.place_is c.names-test.true c.is_name.ensures c.if-not-is_name.true

pub names-preserved : goal.names-preserved
names-preserved c = record {
  left = subst (Left 44 Named c.args.list.now) (sym c.after-rest.ensures) (test_on 44 Named c.args.list.now c.names.rest.now c.names.place c.is_name.result c.names.invariant.left c.names.invariant.place_is c.names-test.true c.is_name.ensures c.if-not-is_name.false);
  place_is = search rules;
}

pub returns : goal.returns
returns c = test_end 44 Named c.args.list.now c.names.rest.now c.names.place c.is_name-2.result c.names.invariant.left c.names.invariant.place_is c.names-test.false c.is_name-2.ensures

pub names-smaller : goal.names-smaller
names-smaller c = omega (arith, ap length c.after-rest.ensures, length-drop 1 (drop c.names.place c.names.rest.now), length-drop c.names.place c.names.rest.now, c.names-test.true)
