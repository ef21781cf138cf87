-- Texts as lists of bytes.
use Rattle.std.specs.Prelude.{ℕ, List, [], ◌∷◌, ◌++◌}

-- a text and its newline
abbrev pub line : List ℕ → List ℕ
line text = text ++ 10 ∷ []
