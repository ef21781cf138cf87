-- What is left decides, behind the names so far.
use Rattle.std.proofs.Common.{◌≡◌, drop}
use Rattle.elab_names.specs.Outline.{items_in}
use Rattle.elab_design.specs.Busy.{are_apart}
use Rattle.elab_design.proofs.busy.are_new.Given as goal

abbrev pub invariant-items : goal.invariant-items
invariant-items l = are_apart l.definitions l.fn.names (items_in l.items) ≡ are_apart l.definitions l.names (items_in (drop l.item-index l.items))
