-- Files that are put under their names once all of them are written.
use Rattle.std.specs.Prelude.{◌≡◌, ℕ, List, Some, true, false, is_some}
use Rattle.base_shelf.specs.Shelf.{Files}
use Rattle.base_trace.specs.Record.{is_traced, traced}
use Rattle.base_files.specs.Stage.{put_in, taken_in}
use Rattle.base_files.specs.declared.stage.Stage.{Stage}

-- The file with these bytes was put under the name.
abbrev pub IsPut : Stage → List ℕ → List ℕ → Type 0
IsPut stage name bytes = traced (put_in stage) name ≡ Some bytes

-- No file was made that was there to be read.
abbrev pub AreNew : Stage → Files → Type 0
AreNew stage texts = (name : List ℕ) → is_traced (taken_in stage) name ≡ true → is_some (texts name) ≡ false
