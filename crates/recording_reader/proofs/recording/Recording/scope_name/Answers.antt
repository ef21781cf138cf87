-- The last name of the path.
use Rattle.std.proofs.Common.{ap, ◌∙◌}
use Rattle.recording_reader.specs.Recording.{Recording}
use Rattle.recording_reader.proofs.Paths.{within_is, name_is}
use Rattle.recording_reader.proofs.recording.Recording.scope_name.Goals as goal

pub index-requires : goal.index-requires
index-requires c = within_is _ _ _ _ (ap (λ (r : Recording). r.scopes) c.self.view_is) c.self.inside.scopes.ok.0 c.requires.some c.requires.known

pub returns : goal.returns
returns c = c.as_slice.ensures ∙ name_is _ _ _ _ (ap (λ (r : Recording). r.scopes) c.self.view_is) c.self.invariant.0.tree c.requires.some c.requires.known c.index.ensures
