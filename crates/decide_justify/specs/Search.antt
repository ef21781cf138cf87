-- Searches, as their callers see them.
use Rattle.std.specs.Prelude.{ℕ, ◌+◌, List, length}
use Rattle.decide_justify.specs.declared.implication.Implication.{Implication}
use Rattle.decide_justify.specs.declared.search.Search.{Search}
use Rattle.decide_justify.specs.declared.tables.Table.{Table}
use Rattle.decide_justify.specs.Tables.{FitFourBytes, implications_of}

-- How many clauses a log can have: those that it has, and one for each conflict that is left.
abbrev pub clauses_allowed : Search → ℕ
clauses_allowed search = length search.log.items + search.left

-- The implications of a table.
abbrev pub implications_in : Search → Table → List Implication
implications_in search table = implications_of search.solver.tables table

-- Fewer than 2^32 tables and implications came in.
abbrev pub TablesFit : Search → Type 0
TablesFit search = FitFourBytes search.solver.tables
