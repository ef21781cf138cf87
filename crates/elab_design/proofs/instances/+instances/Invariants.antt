-- Each module on the path takes one of the room. The items that are left lead to what is wanted.
use Rattle.std.proofs.Common.{◌≡◌, ◌+◌, ◌*◌, drop}
use Rattle.elab_names.specs.Outline.{items_in}
use Rattle.elab_tree.specs.Library.{module_of}
use Rattle.elab_tree.specs.Elaborate.{body}
use Rattle.elab_design.specs.Busy.{state_of}
use Rattle.elab_design.proofs.Doing.{Leads}
use Rattle.elab_design.proofs.instances.+instances.Given as goal

abbrev pub decreases-add_items : goal.decreases-add_items
decreases-add_items l = 6 * l.room

abbrev pub decreases-add_item : goal.decreases-add_item
decreases-add_item l = 6 * l.path.now.room + 5

abbrev pub decreases-add_instance : goal.decreases-add_instance
decreases-add_instance l = 6 * l.path.now.room + 4

abbrev pub decreases-add_module : goal.decreases-add_module
decreases-add_module l = 6 * l.path.now.room + 3

abbrev pub decreases-add_inner : goal.decreases-add_inner
decreases-add_inner l = 6 * l.path.now.room + 2

abbrev pub decreases-add_below : goal.decreases-add_below
decreases-add_below l = 6 * l.path.now.room + 1

abbrev pub invariant-add_items-items : goal.invariant-add_items-items
invariant-add_items-items l = record {
  leads : Leads l.fn.elaborator l.modules l.room (state_of (body l.fn.elaborator l.room l.modules (module_of l.fn.elaborator l.k).items l.fn.here)) (items_in (drop l.item-index l.items)) l.here;
  same : l.elaborator ≡ l.fn.elaborator;
}
