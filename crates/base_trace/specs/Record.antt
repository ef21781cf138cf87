-- Names with bytes, the newest first.
use Rattle.std.specs.Prelude.{ℕ, List, ◌∷◌, ◌++◌, Option, Bool, is_some, bytes_eq}
use Rattle.std.specs.Map.{lookup}
use Rattle.base_shelf.specs.Shelf.{bytes_of}

-- A name, and all its bytes so far.
abbrev pub Traced : Type 0
Traced = List ℕ × List ℕ

-- What was noted last of a name.
abbrev pub traced : List Traced → List ℕ → Option (List ℕ)
traced entries name = lookup (λ key. bytes_eq name key) entries

-- The bytes of a name: none where nothing was noted of it.
abbrev pub traced_bytes : List Traced → List ℕ → List ℕ
traced_bytes entries name = bytes_of (traced entries name)

-- The name has these bytes, and no others.
abbrev pub traced_anew : List ℕ → List ℕ → List Traced → List Traced
traced_anew name bytes entries = (name, bytes) ∷ entries

-- It has these bytes after those that it had.
abbrev pub traced_more : List ℕ → List ℕ → List Traced → List Traced
traced_more name bytes entries = (name, traced_bytes entries name ++ bytes) ∷ entries

-- Something was noted of it.
abbrev pub is_traced : List Traced → List ℕ → Bool
is_traced entries name = is_some (traced entries name)
