-- Files that are written, each with a name of its own.
use Rattle.std.specs.Prelude.{◌≢◌, List, [], ◌∷◌}
use Rattle.std.specs.List.{AllByRecursion}
use Rattle.base_line.specs.Line.{Text}

-- No name that is written is that of an output after it, or of an input.
abbrev pub AreApart : List Text → List Text → Type 0
AreApart [] inputs = Unit {0}
AreApart (output ∷ outputs) inputs =
    AllByRecursion (λ name. name ≢ output) outputs × AllByRecursion (λ name. name ≢ output) inputs
    × AreApart outputs inputs
