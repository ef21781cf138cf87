-- A name is shared, or the scope's own.
use Rattle.std.proofs.Common.{◌∙◌, sym, ap}
use Rattle.elab_names.specs.NameMap.{shared_from}
use Rattle.elab_names.specs.Scope.{Scope, entry_of}
use Rattle.elab_names.proofs.Naming.{known_before, known_behind}
use Rattle.elab_names.proofs.scope.Scope.find.Goals as goal

pub returns-in-Some-clause-found : goal.returns-in-Some-clause-found
returns-in-Some-clause-found c =
    sym (known_before (shared_from c.self.inside.base c.self.inside.shared) c.self.inside.own c.args.name.now c.in-Some.entry (sym c.find_shared.ensures ∙ c.in-Some.is))
    ∙ ap (λ (s : Scope). entry_of s c.args.name.now) c.self.view_is

pub returns-in-None-clause-found : goal.returns-in-None-clause-found
returns-in-None-clause-found c =
    c.find.ensures.found ∙ sym (known_behind (shared_from c.self.inside.base c.self.inside.shared) c.self.inside.own c.args.name.now (sym c.find_shared.ensures ∙ c.in-None.is))
    ∙ ap (λ (s : Scope). entry_of s c.args.name.now) c.self.view_is
