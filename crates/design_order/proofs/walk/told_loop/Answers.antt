-- A net more of the walk, or one that has come before.
use Rattle.std.proofs.Common.{◌≡◌, ◌<◌, ◌∙◌, Some, length, drop, slice_set, sym, ap, arith, rules, subst}
use Rattle.design_circuit.specs.Job.{driver_in}
use Rattle.design_circuit.specs.Order.{arguments_of_driver}
use Rattle.design_order.specs.Loop.{IsToldLoop}
use Rattle.design_order.specs.Progress.{first_open, IsLeastOpen}
use Rattle.design_order.specs.Walk.{IsWalking}
use Rattle.design_order.proofs.Walks.{walking_start, walking_more, told_by, fewer_free, next_in, place_read}
use Rattle.design_order.proofs.walk.told_loop.Goals as goal

pub walk-init : goal.walk-init
walk-init c = walking_start (driver_in c.args.design.now) c.args.progress.now.flags.items c.least_open-net.result c.new-walk.result.items c.in_ok-places.places.items c.len.result c.new-walk.ensures.items (search rules) (search rules) (subst (λ fs. IsLeastOpen fs c.least_open-net.result) c.deref.ensures.value c.least_open-net.ensures)

pub tail-requires : goal.tail-requires
tail-requires c =
    let inv = c.walk.invariant in
    let met = place_read c.walk.places.items c.walk.net c.index.result.now (omega (arith, inv.long, inv.within)) c.index.ensures ∙ c.in-Some.is in
    subst (λ ns. c.in-Some.from < length ns) (sym c.deref-in-Some.ensures.value) (inv.at c.walk.net c.in-Some.from met).0

pub returns-in-Some : goal.returns-in-Some
returns-in-Some c =
    let inv = c.walk.invariant in
    let driver = driver_in c.args.design.now in
    let width = length c.args.design.now.nets in
    let met = place_read c.walk.places.items c.walk.net c.index.result.now (omega (arith, inv.long, inv.within)) c.index.ensures ∙ c.in-Some.is in
    let told = told_by driver width c.args.progress.now.listed.items c.args.progress.now.flags.items c.walk.walk.items c.walk.net c.in-Some.from c.walk.places.items c.requires.listed c.requires.stuck inv met in
    let same = c.in_ok-tail.ensures ∙ ap (drop c.in-Some.from) c.deref-in-Some.ensures.value in
    subst (λ ns. IsToldLoop (driver_in c.args.design.now) (length c.args.design.now.nets) ns) (sym same) told

pub walk-smaller : goal.walk-smaller
walk-smaller c =
    let inv = c.walk.invariant in
    let inside : c.walk.net < length c.walk.places.items = omega (arith, inv.long, inv.within) in
    let free = place_read c.walk.places.items c.walk.net c.index.result.now inside c.index.ensures ∙ c.in_default.is in
    fewer_free c.walk.places.items c.walk.net c.len-in-walk.result inside free

pub walk-preserved : goal.walk-preserved
walk-preserved c =
    let inv = c.walk.invariant in
    let driver = driver_in c.args.design.now in
    let flags = c.args.progress.now.flags.items in
    let inside : c.walk.net < length c.walk.places.items = omega (arith, inv.long, inv.within) in
    let free = place_read c.walk.places.items c.walk.net c.index.result.now inside c.index.ensures ∙ c.in_default.is in
    let found = subst (λ fs. first_open fs (arguments_of_driver (driver_in c.args.design.now c.walk.net)) ≡ Some c.next_open-net.result) c.deref-in-walk.ensures.value c.next_open-net.ensures in
    let net_in : c.walk.net < length c.args.design.now.nets = omega (arith, inv.within, c.requires.listed.long) in
    let next = next_in flags (arguments_of_driver (driver_in c.args.design.now c.walk.net)) c.next_open-net.result (length c.args.design.now.nets) found (c.requires.design.arguments c.walk.net net_in) in
    subst (λ w. IsWalking (driver_in c.args.design.now) c.args.progress.now.flags.items w c.next_open-net.result (slice_set c.walk.places.items c.walk.net (Some c.len-in-walk.result))) (sym c.in_ok-push.ensures.items) (walking_more driver flags c.walk.walk.items c.walk.net c.next_open-net.result c.len-in-walk.result c.walk.places.items (search rules) inv free found (omega (arith, next, c.requires.listed.long)))
