-- The set means the list.
use Rattle.std.proofs.Common.{◌∙◌, List, ℕ, sym, ap}
use Rattle.elab_names.specs.Sets.{has}
use Rattle.elab_names.proofs.SetLemmas.{any_is}
use Rattle.elab_names.proofs.name_set.NameSet.has.Goals as goal

pub returns : goal.returns
returns c = c.contains.ensures ∙ sym (any_is c.self.inside.names.keys c.args.name.now) ∙ ap (λ (ns : List (List ℕ)). has ns c.args.name.now) c.self.view_is
