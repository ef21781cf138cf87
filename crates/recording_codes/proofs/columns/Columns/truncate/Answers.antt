-- The first codes stand in the first rows.
use Rattle.recording_codes.proofs.Rows.{cut_is}
use Rattle.recording_codes.proofs.columns.Columns.truncate.Goals as goal

pub returns : goal.returns
returns c = cut_is _ _ _ _ _ _ c.self.view_is c.truncate.ensures.items c.truncate-2.ensures.items
