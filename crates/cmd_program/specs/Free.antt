-- Names that aren't free of a prefix, and names that are.
use Rattle.std.specs.Prelude.{◌≡◌, ◌⊎◌, List, ◌∷◌, ◌++◌, codes}
use Rattle.std.specs.List.{AllByRecursion}
use Rattle.base_line.specs.Line.{Text}

-- What stands after the prefix in a name that is the prefix and `.xc`, or begins with the prefix and `-`.
abbrev pub IsEnding : Text → Type 0
IsEnding ending = (ending ≡ codes ".xc") ⊎ ((rest : Text) × (ending ≡ 45 ∷ rest))

pub record BeginsWith (prefix name : Text) : Type 0 where
  pub ending : Text
  pub is : name ≡ prefix ++ ending
  pub ends : IsEnding ending

-- No input has a name of those that `export` may write.
abbrev pub IsFree : Text → Text → Type 0
IsFree prefix name = BeginsWith prefix name → ⊥

abbrev pub AreFree : Text → List Text → Type 0
AreFree prefix inputs = AllByRecursion (IsFree prefix) inputs
