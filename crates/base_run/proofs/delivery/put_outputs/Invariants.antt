-- The outputs so far are under their names, what was written stays, and no count rose.
use Rattle.std.proofs.Common.{◌≡◌, map}
use Rattle.base_shelf.specs.Shelf.{Later, SameCounts}
use Rattle.base_run.specs.Outputs.{IsClosed, WrittenTo, file_of}
use Rattle.base_run.proofs.delivery.put_outputs.Given as goal

abbrev pub invariant-outputs : goal.invariant-outputs
invariant-outputs g l = record {
  before : WrittenTo g.S.Shelf.told l.output-index (map file_of l.outputs) (g.S.Shelf.view l.fn.shelf).files (g.S.Shelf.view l.shelf).files;
  written : (g.S.Shelf.view l.shelf).written ≡ (g.S.Shelf.view l.fn.shelf).written;
  later : Later (g.S.Shelf.view l.fn.shelf) (g.S.Shelf.view l.shelf);
  kept : SameCounts (g.S.Shelf.view l.fn.shelf) (g.S.Shelf.view l.shelf);
  closed : IsClosed (g.S.Shelf.view l.fn.shelf) (g.S.Shelf.view l.shelf);
}
