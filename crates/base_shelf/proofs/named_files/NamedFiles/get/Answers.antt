-- What the map of the code finds is what the name holds.
use Rattle.std.proofs.Common.{◌∙◌, ap, List, ℕ, Some, None}
use Rattle.base_shelf.proofs.Lookups.{finds}
use Rattle.base_shelf.proofs.named_files.NamedFiles.get.Goals as goal

pub returns-in-Some : goal.returns-in-Some
returns-in-Some c =
    ap (λ (l : List ℕ). Some l) c.as_slice.ensures.value
    ∙ finds _ c.self.inside.files c.args.name.now (Some c.in-Some.bytes.now) c.self.view_is c.in-Some.ensures.value

pub returns-in-None : goal.returns-in-None
returns-in-None c = finds _ c.self.inside.files c.args.name.now None c.self.view_is c.in-None.ensures.value
