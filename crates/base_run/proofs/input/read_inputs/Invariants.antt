-- The files so far are joined, or too long; no count rose, no file changed, none was written, none is in hand, and they
-- are there.
use Rattle.std.proofs.Common.{◌≡◌, ◌<◌, ◌≤◌, length, map, take, IsTrue}
use Rattle.std.specs.Prelude.{string_bytes, IfSome}
use Rattle.base_shelf.specs.Shelf.{Nothing, Later, SameCounts, held}
use Rattle.base_run.specs.Inputs.{IsTextWithin}
use Rattle.base_run.specs.Phases.{AreThere, joined}
use Rattle.base_run.proofs.input.read_inputs.Given as goal

abbrev pub invariant-files : goal.invariant-files
invariant-files g l =
    Later (g.S.Shelf.view l.fn.shelf) (g.S.Shelf.view l.shelf) × ((g.S.Shelf.view l.shelf).files ≡ (g.S.Shelf.view l.fn.shelf).files)
    × (IsTrue g.S.Shelf.told → IsTextWithin l.limit l.text (joined (map (held (g.S.Shelf.view l.fn.shelf)) (map string_bytes (take l.position l.names)))))
    × IfSome l.text (λ v. length v.items ≤ l.limit)
    × SameCounts (g.S.Shelf.view l.fn.shelf) (g.S.Shelf.view l.shelf)
    × IfSome l.text (λ v. 0 < l.position → (g.S.Shelf.view l.shelf).hand ≡ Nothing)
    × IfSome l.text (λ v. IsTrue g.S.Shelf.told → AreThere (g.S.Shelf.view l.fn.shelf).files (map string_bytes (take l.position l.names)))
    × ((g.S.Shelf.view l.shelf).written ≡ (g.S.Shelf.view l.fn.shelf).written)
