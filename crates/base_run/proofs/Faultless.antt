-- Where no fault was ever counted, no run ends with a fault.
use Rattle.std.proofs.Common.{◌≡◌, ℕ, ◌≤◌, List, inl, inr, arith}
use Rattle.std.specs.Prelude.{◌⊎◌}
use Rattle.base_shelf.specs.Shelf.{View, Rose}
use Rattle.base_shelf.specs.Sink.{SinkView}
use Rattle.base_run.specs.Ends.{Commands, HasNoFaults, Unread, Unwritten}
use Rattle.base_run.specs.Phases.{Answer}
use Rattle.base_run.specs.Rows.{Start, OutputFails, ReportFails}

none_rose : (before now : ℕ) → now ≡ 0 → Rose before now → ⊥
none_rose before now none rose = let up = rose.up in omega (arith, up, none)

module _ (k : Commands) (s : Start) (w : k.Words) (shelf : View) (sink : SinkView) (status : ℕ) (none : HasNoFaults shelf sink) where
  pub never_unread : Unread k s w shelf sink status → ⊥
  never_unread there =
      let row = there.row in none_rose _ _ (none.reads there.name) row.cause

  fails : (answer : Answer) (name : List ℕ) (before : SinkView) → before.faults ≤ sink.faults
      → OutputFails s answer shelf before name ⊎ ReportFails (k.phases_of w) s answer shelf before name → ⊥
  fails answer name before later (inl output) = none_rose _ _ (none.writes name) output.rose
  fails answer name before later (inr report) =
      let up = report.rose.up in
      let faults = none.printed in omega (arith, up, later, faults)

  pub never_unwritten : Unwritten k s w shelf sink status → ⊥
  never_unwritten there = let row = there.row in let line = there.line in fails row.answer there.name there.before line.later row.fails
