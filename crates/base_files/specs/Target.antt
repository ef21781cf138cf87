-- Where the bytes of a file lie while it is written.
use Rattle.std.specs.Prelude.{◌≡◌, ◌++◌, ℕ, List, codes, string_bytes}
use Rattle.base_files.specs.declared.target.Target.{Target}
use Rattle.base_files.specs.declared.target.Target.TheVariants.{Part, Itself}

-- The part of a name is the name with `.part` after it.
abbrev pub IsTargetOf : List ℕ → Target → Type 0
IsTargetOf name (Part part) = string_bytes part ≡ name ++ codes ".part"
IsTargetOf name Itself = Unit {0}
