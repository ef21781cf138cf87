-- The mark with a number is its code's.
use Rattle.std.proofs.Common.{arith}
use Rattle.recording_codes.proofs.Rows.{count_is, mark_is}
use Rattle.recording_codes.proofs.columns.Columns.mark.Goals as goal

pub index-requires : goal.index-requires
index-requires c = omega (arith, count_is _ _ _ c.self.view_is c.self.invariant, c.requires, c.self.inside.marks.ok.0)

pub returns-clause-width : goal.returns-clause-width
returns-clause-width c = λ d. (mark_is _ _ _ _ _ d c.self.view_is c.self.invariant c.requires c.index.ensures).width

pub returns-clause-skipped : goal.returns-clause-skipped
returns-clause-skipped c = λ d. (mark_is _ _ _ _ _ d c.self.view_is c.self.invariant c.requires c.index.ensures).skipped

pub returns-clause-listed : goal.returns-clause-listed
returns-clause-listed c = λ d. (mark_is _ _ _ _ _ d c.self.view_is c.self.invariant c.requires c.index.ensures).listed
