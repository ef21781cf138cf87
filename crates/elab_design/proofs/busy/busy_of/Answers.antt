-- One item more.
use Rattle.std.proofs.Common.{◌∙◌, ◌++◌, List, ap}
use Rattle.netlist_grammar.specs.declared.tree.Item.{Item}
use Rattle.elab_names.specs.Outline.{items_in}
use Rattle.elab_design.specs.Busy.{busy_of}
use Rattle.elab_design.proofs.Choosing.{busy_step, items_more}
use Rattle.elab_design.proofs.busy.busy_of.Goals as goal

pub items-preserved : goal.items-preserved
items-preserved c =
    let definitions = c.args.definitions.now in
    let levels = c.args.levels.now in
    let more = items_more c.args.items.now c.items.item-index c.item-item.result c.items-test.true c.item-item.is in
    busy_step definitions levels c.args.level c.item-item.result.now _ (items_in c.items.busy.items) _ _
    (c.items.invariant ∙ ap (λ (l : List Item). items_in c.items.busy.items ++ busy_of definitions levels c.args.level l) more) c.in_ok-push_busy.ensures
