-- Files in memory by name, as a list of names and bytes.
use Rattle.std.specs.Prelude.{◌≡◌, ◌++◌, ℕ, List, Some, Vec, String, string_bytes, bytes_eq}
use Rattle.std.specs.Map.{lookup}
use Rattle.std.specs.declared.alloc.Global.{Global}
use Rattle.base_shelf.specs.Shelf.{Files, OthersKept, bytes_of}

-- A name and its bytes.
abbrev pub File : Type 0
File = List ℕ × List ℕ

-- What each name holds.
abbrev pub files_of : List File → Files
files_of files name = lookup (λ key. bytes_eq name key) files

-- A name and its bytes, as the map in the code has them.
abbrev pub file_of : String Global × Vec ℕ Global → File
file_of entry = (string_bytes entry.0, entry.1.items)

-- The map is the old one with this name set to these bytes.
pub record SetsFile (name bytes : List ℕ) (old new : Files) : Type 0 where
  pub here : new name ≡ Some bytes
  pub others : OthersKept name old new

-- The map is the old one with these bytes after those of this name.
abbrev pub AppendsFile : List ℕ → List ℕ → Files → Files → Type 0
AppendsFile name bytes old new = SetsFile name (bytes_of (old name) ++ bytes) old new

-- Each name holds what it held.
abbrev pub SameFiles : Files → Files → Type 0
SameFiles old new = (name : List ℕ) → new name ≡ old name
