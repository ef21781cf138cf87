-- A name more, and the last.
use Rattle.std.proofs.Common.{rules, ap, arith, drop, length, length-drop}
use Rattle.netlist_stub.specs.Known.{texts_of}
use Rattle.cmd_trim.proofs.Cutting.{cut_end, cut_on, pushed}
use Rattle.cmd_trim.proofs.names.cut.Goals as goal

pub names-preserved : goal.names-preserved
names-preserved c = record {
  all = rw (c.in_ok-push.ensures.items, pushed c.names.names.items _, c.after-rest.ensures)
      (cut_on (texts_of c.names.names.items) c.args.list.now c.names.rest.now c.names.place c.names.invariant.place_is c.names.invariant.all c.names-test.true);
  place_is = search rules;
}

pub names-smaller : goal.names-smaller
names-smaller c = omega (arith, ap length c.after-rest.ensures, length-drop 1 (drop c.names.place c.names.rest.now), length-drop c.names.place c.names.rest.now, c.names-test.true)

pub returns : goal.returns
returns c =
    rw (c.in_ok-push-2.ensures.items, pushed c.names.names.items _)
    (cut_end (texts_of c.names.names.items) c.args.list.now c.names.rest.now c.names.place c.names.invariant.place_is c.names.invariant.all c.names-test.false)
