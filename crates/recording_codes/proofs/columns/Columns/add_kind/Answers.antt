-- One more variable of the code in a row.
use Rattle.std.proofs.Common.{refl, arith}
use Rattle.recording_codes.proofs.Rows.{count_is, marked_is}
use Rattle.recording_codes.proofs.columns.Columns.add_kind.Goals as goal

pub index-old-requires : goal.index-old-requires
index-old-requires c = omega (arith, count_is _ _ _ c.self.view_is c.self.invariant, c.requires, c.self.inside.marks.ok.0)

pub index_mut-requires : goal.index_mut-requires
index_mut-requires c = omega (arith, count_is _ _ _ c.self.view_is c.self.invariant, c.requires, c.self.inside.marks.ok.0)

pub returns : goal.returns
returns c = marked_is _ _ _ _ c.args.number c.index-old.result.now c.marked.result c.args.skipped c.self.view_is c.self.invariant c.requires c.index-old.ensures c.marked.ensures refl
