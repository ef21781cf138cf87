-- Something is kept of the scope path.
use Rattle.std.proofs.Common.{ap, ◌∙◌, List}
use Rattle.std.specs.List.{list_any}
use Rattle.recording_binding.specs.Scopes.{is_top}
use Rattle.recording_binding.specs.Telling.{Under, has_scope}
use Rattle.recording_binding.specs.declared.scopes.ScopeKey.{ScopeKey}
use Rattle.recording_binding.proofs.ScopeLemmas.{tops}
use Rattle.recording_binding.proofs.matcher.Matcher.has_scope.Goals as goal

pub returns : goal.returns
returns c =
    let m = c.self.inside in
    c.has_top.ensures ∙ ap (λ (l : List ScopeKey). list_any is_top l) c.as_slice.ensures.value ∙ tops m.names m.scope.now m.recording.now.scopes m.keys.items c.self.invariant.2
    ∙ ap (λ (u : Under). has_scope u.scope u.recording.scopes) c.self.view_is
