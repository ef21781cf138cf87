-- Tables as they are kept: the blocks of each are a part of one list.
use Rattle.std.specs.Prelude.{ℕ, ◌+◌, ◌≤◌, List, length, map}
use Rattle.std.specs.List.{AllByRecursion}
use Rattle.decide_graph.specs.Kept.{part_of}
use Rattle.decide_tables.specs.declared.kept.Entry.{Entry}
use Rattle.decide_tables.specs.Tables.{NodeTable}

abbrev pub seen_table : List (List ℕ) → Entry → NodeTable
seen_table blocks entry = record { node = entry.node; blocks = part_of entry.start entry.count blocks }

abbrev pub seen_tables : List (List ℕ) → List Entry → List NodeTable
seen_tables blocks entries = map (seen_table blocks) entries

-- They lie within it.
abbrev pub IsTableWithin : List (List ℕ) → Entry → Type 0
IsTableWithin blocks entry = entry.start + entry.count ≤ length blocks

abbrev pub AreTablesWithin : List (List ℕ) → List Entry → Type 0
AreTablesWithin blocks entries = AllByRecursion (IsTableWithin blocks) entries
