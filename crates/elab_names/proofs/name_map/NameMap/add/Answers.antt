-- The map means the list.
use Rattle.std.proofs.Common.{◌≡◌, ◌∙◌, None, List, ℕ, [], ◌∷◌, ◌++◌, sym, ap, bytes_eq}
use Rattle.std.specs.Map.{lookup}
use Rattle.elab_names.specs.NameMap.{names_in}
use Rattle.elab_names.specs.declared.scope.Entry.{Entry}
use Rattle.elab_names.proofs.Naming.{IsFew, inserted_is, each_more}
use Rattle.elab_names.proofs.name_map.NameMap.add.Goals as goal

pub invariant_of-self-2 : goal.invariant_of-self-2
invariant_of-self-2 c = λ q e is. (
    let absent : lookup (bytes_eq c.args.name.now) (names_in c.self.inside.names.entries) ≡ None = ap (lookup (bytes_eq c.args.name.now)) c.self.view_is ∙ c.requires.new in
    let names = inserted_is c.self.inside.names.entries c.args.name c.args.entry absent in
    let all = ap names_in c.in_ok-insert.ensures.entries ∙ names in
    each_more IsFew (names_in c.self.inside.names.entries) c.args.name.now c.args.entry q e (c.self.invariant q) c.requires.few (ap (lookup (bytes_eq q)) (sym all) ∙ is))

pub returns : goal.returns
returns c =
    let absent : lookup (bytes_eq c.args.name.now) (names_in c.self.inside.names.entries) ≡ None = ap (lookup (bytes_eq c.args.name.now)) c.self.view_is ∙ c.requires.new in
    let names = inserted_is c.self.inside.names.entries c.args.name c.args.entry absent in
    let all = ap names_in c.in_ok-insert.ensures.entries ∙ names in
    all ∙ ap (λ (ns : List (List ℕ × Entry)). ns ++ (c.args.name.now, c.args.entry) ∷ []) c.self.view_is
