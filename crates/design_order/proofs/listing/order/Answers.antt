-- The listing ends with all nets, or is stuck.
use Rattle.std.proofs.Common.{◌≡◌, ◌∙◌, length, sym, ap, arith, subst}
use Rattle.design_circuit.specs.Job.{driver_in}
use Rattle.design_circuit.specs.Order.{IsOrder}
use Rattle.design_order.specs.Loop.{IsToldLoop}
use Rattle.design_order.proofs.Loops.{no_loop, told_is_loop}
use Rattle.design_order.proofs.Orders.{every_net, ordering_of, order_of, listed_count, listed_same, none_holds}
use Rattle.design_order.proofs.listing.order.Goals as goal

pub told_loop-requires-clause-open_ : goal.told_loop-requires-clause-open_
told_loop-requires-clause-open_ c =
    let same = listed_same c.in_ok-list_next.field-0 c.nets.progress.listed.items c.list_next.new.self.listed.items c.if-is_none.ensures c.in_ok-list_next.ensures.listed in
    let end = ap length c.as_slice-n-end.ensures in
    omega (arith, same, end, c.nets.invariant.count, c.nets-test.true)

pub told_loop-requires-clause-stuck : goal.told_loop-requires-clause-stuck
told_loop-requires-clause-stuck c = none_holds c.in_ok-list_next.field-0 c.if-is_none.ensures c.in_ok-list_next.ensures.stuck

pub returns-then-is_none-clause-refused : goal.returns-then-is_none-clause-refused
returns-then-is_none-clause-refused c =
    let driver = driver_in c.args.design.now in
    let width = length c.args.design.now.nets in
    let told = subst (λ ns. IsToldLoop (driver_in c.args.design.now) (length c.args.design.now.nets) ns) (sym c.from_vec.ensures) c.in_ok-nets.ensures in
    (told, told_is_loop driver width c.from_vec.result (λ net lt. c.requires.arguments net lt) told)

pub nets-preserved : goal.nets-preserved
nets-preserved c =
    let more = listed_count c.in_ok-list_next.field-0 c.nets.progress.listed.items c.list_next.new.self.listed.items c.if-is_none.ensures c.in_ok-list_next.ensures.listed in
    record {
      progress = c.in_ok-list_next.ensures.progress;
      count = omega (arith, more, c.nets.invariant.count);
    }

pub new-requires-clause-ordering : goal.new-requires-clause-ordering
new-requires-clause-ordering c =
    let end : c.nets._n ≡ length c.as_slice-n-end.result.now = omega arith in
    let full = c.nets.invariant.count ∙ end ∙ ap length c.as_slice-n-end.ensures in
    ordering_of (driver_in c.args.design.now) (length c.args.design.now.nets) c.nets.progress.listed.items c.nets.progress.flags.items c.nets.invariant.progress.listed_ full

pub returns-clause-order : goal.returns-clause-order
returns-clause-order c =
    let end : c.nets._n ≡ length c.as_slice-n-end.result.now = omega arith in
    let full = c.nets.invariant.count ∙ end ∙ ap length c.as_slice-n-end.ensures in
    subst (λ ns. IsOrder (driver_in c.args.design.now) (length c.args.design.now.nets) ns) (sym c.in_ok-new.ensures) (order_of (driver_in c.args.design.now) (length c.args.design.now.nets) c.nets.progress.listed.items c.nets.progress.flags.items c.nets.invariant.progress.listed_ full)

pub returns-clause-exact : goal.returns-clause-exact
returns-clause-exact c = λ nets is.
    let end : c.nets._n ≡ length c.as_slice-n-end.result.now = omega arith in
    let full = c.nets.invariant.count ∙ end ∙ ap length c.as_slice-n-end.ensures in
    let driver = driver_in c.args.design.now in
    let width = length c.args.design.now.nets in
    let listed = c.nets.progress.listed.items in
    let flags = c.nets.progress.flags.items in
    let known = c.nets.invariant.progress.listed_ in
    no_loop driver width listed (order_of driver width listed flags known full) (every_net driver width listed flags known full) nets is
