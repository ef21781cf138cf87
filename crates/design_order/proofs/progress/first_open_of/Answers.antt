-- The driver of a net is that of its item.
use Rattle.std.proofs.Common.{◌<◌, ◌∙◌, sym, ap, length, slice_index_or, subst}
use Rattle.std.specs.List.{AllByRecursion}
use Rattle.design_circuit.specs.Order.{arguments_of_driver}
use Rattle.design_order.specs.Progress.{first_open}
use Rattle.design_order.proofs.Chains.{item_driver}
use Rattle.design_order.proofs.progress.first_open_of.Goals as goal

pub first_open-requires : goal.first_open-requires
first_open-requires c =
    let e = item_driver c.args.design.now c.as_slice.result.now c.args.net c.index-as_slice-net.result c.as_slice.ensures c.requires.net in
    let all = c.requires.design.arguments c.args.net c.requires.net in
    subst (λ w. AllByRecursion (λ net. net < w) (arguments_of_driver (slice_index_or c.as_slice.result.now c.args.net c.index-as_slice-net.result).driver)) (sym c.requires.long) (subst (λ d. AllByRecursion (λ net. net < length c.args.design.now.nets) (arguments_of_driver d)) (sym e) all)

pub returns : goal.returns
returns c =
    let e = item_driver c.args.design.now c.as_slice.result.now c.args.net c.index-as_slice-net.result c.as_slice.ensures c.requires.net in
    c.first_open.ensures ∙ ap (λ d. first_open c.args.flags.now (arguments_of_driver d)) e
