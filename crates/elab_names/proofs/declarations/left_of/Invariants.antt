-- What is left of the items so far.
use Rattle.std.proofs.Common.{◌≡◌, take}
use Rattle.elab_names.specs.Outline.{items_in, left_of}
use Rattle.elab_names.proofs.declarations.left_of.Given as goal

abbrev pub invariant-items : goal.invariant-items
invariant-items l = items_in l.left.items ≡ left_of (take l.item-index l.items)
