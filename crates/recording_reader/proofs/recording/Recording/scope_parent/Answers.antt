-- The path without its last name.
use Rattle.std.proofs.Common.{ap}
use Rattle.recording_reader.specs.Recording.{Recording}
use Rattle.recording_reader.proofs.Paths.{within_is, parent_is, parent_before}
use Rattle.recording_reader.proofs.recording.Recording.scope_parent.Goals as goal

pub index-requires : goal.index-requires
index-requires c = within_is _ _ _ _ (ap (λ (r : Recording). r.scopes) c.self.view_is) c.self.inside.scopes.ok.0 c.requires.some c.requires.known

pub returns-clause-before : goal.returns-clause-before
returns-clause-before c = parent_before _ _ _ _ (ap (λ (r : Recording). r.scopes) c.self.view_is) c.self.invariant.0.tree c.requires.some c.requires.known c.index.ensures

pub returns-clause-path : goal.returns-clause-path
returns-clause-path c = parent_is _ _ _ _ (ap (λ (r : Recording). r.scopes) c.self.view_is) c.self.invariant.0.tree c.requires.some c.requires.known c.index.ensures
