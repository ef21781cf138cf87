-- There are as many codes as marks.
use Rattle.std.proofs.Common.{◌∙◌}
use Rattle.recording_codes.proofs.Rows.{count_is}
use Rattle.recording_codes.proofs.columns.Columns.len.Goals as goal

pub returns : goal.returns
returns c = c.len.ensures ∙ c.self.inside.marks.ok.0 ∙ count_is _ _ _ c.self.view_is c.self.invariant
