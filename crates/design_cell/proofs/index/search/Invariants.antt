-- The loop of `search`.
use Rattle.std.proofs.Common.{◌*◌, List, length}
use Rattle.design_cell.specs.declared.row.RawRow.{RawRow}
use Rattle.design_cell.specs.Row.{before, columns}
use Rattle.design_cell.specs.Table.{level_matches, edge_matches}
use Rattle.design_cell.specs.Index.{IsIndexed, IsFirstBelow}
use Rattle.design_cell.proofs.index.search.Given as goal

abbrev pub invariant-loop-j : goal.invariant-loop-j
invariant-loop-j l = record {
  level : (rows : List RawRow) → IsIndexed rows l.blocks → IsFirstBelow (level_matches (length l.pins) (before l.changed (columns l.pins l.q)) (columns l.pins l.q)) rows (64 * l.j) l.level;
  edge : (rows : List RawRow) → IsIndexed rows l.blocks → IsFirstBelow (edge_matches (length l.pins) (before l.changed (columns l.pins l.q)) (columns l.pins l.q)) rows (64 * l.j) l.edge;
}
