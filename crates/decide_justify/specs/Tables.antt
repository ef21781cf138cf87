-- Tables by number: the implications of all of them in one list, and the part of each.
use Rattle.std.specs.Prelude.{ℕ, ◌+◌, ◌<◌, ◌^◌, List, length}
use Rattle.std.specs.List.{between, slice_index_or}
use Rattle.decide_justify.specs.declared.implication.Implication.{Implication}
use Rattle.decide_justify.specs.declared.span.Span.{Span}
use Rattle.decide_justify.specs.declared.tables.Table.{Table}
use Rattle.decide_justify.specs.declared.tables.Tables.{Tables}

abbrev pub no_span : Span
no_span = record { start = 0; count = 0 }

-- The part of a table.
abbrev pub span_of : Tables → Table → Span
span_of tables table = slice_index_or tables.spans.items table.number no_span

-- The implications of a table.
abbrev pub implications_of : Tables → Table → List Implication
implications_of tables table = let span = span_of tables table in
    between span.start (span.start + span.count) tables.implications.items

-- Places and numbers fit in four bytes.
pub record FitFourBytes (tables : Tables) : Type 0 where
  pub implications : length tables.implications.items < 2 ^ 32
  pub spans : length tables.spans.items < 2 ^ 32
