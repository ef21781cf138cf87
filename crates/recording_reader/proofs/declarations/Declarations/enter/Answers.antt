-- A scope is entered.
use Rattle.std.proofs.Common.{◌∙◌, refl, sym, ap}
use Rattle.recording_reader.specs.Declarations.{scope_of}
use Rattle.recording_reader.proofs.Paths.{entered_path, entered_number, entered_is}
use Rattle.recording_reader.proofs.declarations.Declarations.enter.Goals as goal

pub returns-clause-is : goal.returns-clause-is
returns-clause-is c =
    let path = entered_path c.self.inside.scopes.items _ _ _ _ c.in_ok-name.ensures (c.scope-parent.ensures ∙ ap scope_of (sym c.self.view_is)) in
    let number = entered_number c.self.inside.scopes.items _ _ c.len-2.ensures c.self.inside.scopes.ok.0 in
    rw (← c.self.view_is, c.in_ok-push.ensures.items, c.in_ok-push-2.ensures.items, path, number) refl

pub returns-clause-innermost : goal.returns-clause-innermost
returns-clause-innermost c = entered_is _ _ _ (returns-clause-is c)
