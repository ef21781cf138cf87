-- The highest level so far, or of what is left.
use Rattle.std.proofs.Common.{◌≡◌, max, drop}
use Rattle.elab_names.specs.Outline.{items_in}
use Rattle.elab_design.specs.Busy.{all_idle_from}
use Rattle.elab_design.proofs.busy.all_idle_from.Given as goal

abbrev pub invariant-items : goal.invariant-items
invariant-items l = all_idle_from l.definitions l.levels (items_in l.items) ≡ max l.level (all_idle_from l.definitions l.levels (items_in (drop l.item-index l.items)))
