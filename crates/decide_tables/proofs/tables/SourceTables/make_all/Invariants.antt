-- The tables are right, and the list stays.
use Rattle.std.proofs.Common.{◌≡◌, ◌<◌, length}
use Rattle.std.specs.List.{AllByRecursion}
use Rattle.decide_tables.specs.Tables.{AreTablesOf}
use Rattle.decide_tables.proofs.tables.SourceTables.make_all.Given as goal

abbrev pub invariant-rest : goal.invariant-rest
invariant-rest l = record {
  nodes : AllByRecursion (λ node. node < length l.graph) l.rest.items;
  right : AreTablesOf l.graph l.self;
  list : l.self.list ≡ l.fn.self.list;
}

abbrev pub decreases-rest : goal.decreases-rest
decreases-rest l = length l.rest.items
