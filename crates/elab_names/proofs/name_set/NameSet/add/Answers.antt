-- The set means the list.
use Rattle.std.proofs.Common.{◌∙◌, ◌∷◌, ◌++◌, [], List, ℕ, refl, sym, ap, not, if◌then◌else◌}
use Rattle.elab_names.specs.Sets.{has}
use Rattle.elab_names.proofs.SetLemmas.{any_is, added_is}
use Rattle.elab_names.proofs.name_set.NameSet.add.Goals as goal

pub returns-clause-new : goal.returns-clause-new
returns-clause-new c =
    c.in_ok-insert.ensures.added ∙ ap not (sym (any_is c.self.inside.names.keys c.args.name.now) ∙ ap (λ (ns : List (List ℕ)). has ns c.args.name.now) c.self.view_is)

pub returns-clause-names : goal.returns-clause-names
returns-clause-names c =
    added_is c.self.inside.names.keys c.insert.new.self.keys c.args.name _ _ refl c.in_ok-insert.ensures.added c.in_ok-insert.ensures.keys
    ∙ ap (λ (ns : List (List ℕ)). if c.in_ok-insert.field-0 then ns ++ c.args.name.now ∷ [] else ns) c.self.view_is
