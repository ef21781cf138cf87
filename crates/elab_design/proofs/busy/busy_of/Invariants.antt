-- The busy items so far, and then those that are left.
use Rattle.std.proofs.Common.{◌≡◌, ◌++◌, drop}
use Rattle.elab_names.specs.Outline.{items_in}
use Rattle.elab_design.specs.Busy.{busy_of}
use Rattle.elab_design.proofs.busy.busy_of.Given as goal

abbrev pub invariant-items : goal.invariant-items
invariant-items l =
    busy_of l.definitions l.levels l.level (items_in l.items) ≡ items_in l.busy.items ++ busy_of l.definitions l.levels l.level (items_in (drop l.item-index l.items))
