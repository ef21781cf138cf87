-- The number of texts.
use Rattle.std.proofs.Common.{◌∙◌}
use Rattle.recording_changes.proofs.Cuts.{count_is}
use Rattle.recording_changes.proofs.texts.Texts.len.Goals as goal

pub returns : goal.returns
returns c = c.len.ensures ∙ c.self.inside.ends.ok.0 ∙ count_is _ _ _ c.self.view_is
