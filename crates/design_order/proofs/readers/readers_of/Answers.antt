-- A net more has its arguments read.
use Rattle.std.proofs.Common.{◌<◌, ◌∙◌, sym, ap, length, subst, slice_index_or}
use Rattle.std.specs.List.{AllByRecursion}
use Rattle.design_circuit.specs.Order.{arguments_of_driver}
use Rattle.design_circuit.specs.Job.{driver_in}
use Rattle.design_order.specs.Readers.{IsReaderLinks, AddsTo}
use Rattle.design_order.proofs.Chains.{driver_is, readers_more}
use Rattle.design_order.proofs.readers.readers_of.Goals as goal

pub add_arguments-requires-clause-arguments : goal.add_arguments-requires-clause-arguments
add_arguments-requires-clause-arguments c =
    let nets = c.as_slice-nets.result.now in
    let net = c.loop-net.net in
    let inside = subst (λ ns. c.loop-net.net < length ns) c.as_slice-nets.ensures c.loop-net-test.true in
    let e = driver_is c.args.design.now net c.index-nets-net.result inside (c.index-nets-net.is ∙ ap (λ ns. slice_index_or ns net c.index-nets-net.result) c.as_slice-nets.ensures) in
    let all = c.requires.arguments net inside in
    subst (λ w. AllByRecursion (λ a. a < w) (arguments_of_driver c.index-nets-net.result.driver)) (sym c.loop-net.invariant.table.long) (subst (λ d. AllByRecursion (λ a. a < length c.args.design.now.nets) (arguments_of_driver d)) (sym e) all)

pub loop-net-preserved : goal.loop-net-preserved
loop-net-preserved c =
    let net = c.loop-net.net in
    let inside = subst (λ ns. c.loop-net.net < length ns) c.as_slice-nets.ensures c.loop-net-test.true in
    let e = driver_is c.args.design.now net c.index-nets-net.result inside (c.index-nets-net.is ∙ ap (λ ns. slice_index_or ns net c.index-nets-net.result) c.as_slice-nets.ensures) in
    record {
      table = subst (λ w. IsReaderLinks w c.add_arguments.new.self.heads.items c.add_arguments.new.self.links.items) c.loop-net.invariant.table.long (c.in_ok-add_arguments.ensures).table;
      readers = readers_more (driver_in c.args.design.now) c.loop-net.readers c.add_arguments.new.self net c.loop-net.invariant.readers (subst (λ d. AddsTo c.loop-net.readers c.add_arguments.new.self (arguments_of_driver d) net) e c.in_ok-add_arguments.ensures);
    }
