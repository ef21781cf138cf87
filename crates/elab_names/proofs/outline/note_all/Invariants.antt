-- What is left decides.
use Rattle.std.proofs.Common.{◌≡◌, drop}
use Rattle.elab_names.specs.Outline.{all_noted}
use Rattle.elab_names.proofs.outline.note_all.Given as goal

abbrev pub invariant-items : goal.invariant-items
invariant-items l = all_noted l.ports l.items l.fn.outline ≡ all_noted l.ports (drop l.item-index l.items) l.outline
