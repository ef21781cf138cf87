-- The map means the list.
use Rattle.std.proofs.Common.{◌∙◌, sym, ap, bytes_eq}
use Rattle.std.specs.Map.{lookup}
use Rattle.elab_names.specs.NameMap.{names_in}
use Rattle.elab_names.proofs.Naming.{found_is, few_found}
use Rattle.elab_names.proofs.name_map.NameMap.find.Goals as goal

pub returns-clause-found : goal.returns-clause-found
returns-clause-found c =
    c.copied.ensures ∙ c.get.ensures.value ∙ sym (found_is c.self.inside.names.entries c.args.name.now) ∙ ap (lookup (bytes_eq c.args.name.now)) c.self.view_is

pub returns-clause-few : goal.returns-clause-few
returns-clause-few c =
    few_found c.copied.result (names_in c.self.inside.names.entries) c.args.name.now c.self.invariant (c.copied.ensures ∙ c.get.ensures.value ∙ sym (found_is c.self.inside.names.entries c.args.name.now))
