-- The present scope is one of the scopes.
use Rattle.std.proofs.Common.{◌∙◌, sym, ap}
use Rattle.recording_reader.specs.Declarations.{Declarations, scope_of}
use Rattle.recording_reader.proofs.Kept.{present}
use Rattle.recording_reader.proofs.declarations.Declarations.add_variable.Goals as goal

pub list-requires-clause-variable : goal.list-requires-clause-variable
list-requires-clause-variable c = record {
  known = present c.self.inside.scopes.items _ c.self.inside.entered.items _ (ap (λ (h : Declarations). h.scopes) c.self.view_is) c.self.invariant.1 (c.scope-scope.ensures ∙ ap scope_of (sym c.self.view_is));
  some = c.requires.some;
  wide = c.requires.wide;
}
