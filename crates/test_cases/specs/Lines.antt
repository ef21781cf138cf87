-- The lines of a text.
use Rattle.std.specs.Prelude.{◌≡◌, ◌≢◌, ◌⊎◌, ℕ, List, [], ◌∷◌, ◌++◌, Contains}

-- A line that begins with a `#` and a space.
abbrev pub IsNote : List ℕ → Type 0
IsNote line = (rest : List ℕ) × (line ≡ 35 ∷ 32 ∷ rest)

-- A line that doesn't begin with this mark.
abbrev pub Lacks : List ℕ → List ℕ → Type 0
Lacks mark line = (rest : List ℕ) → line ≢ mark ++ rest

-- The first line of a text, and what stands behind its end: a newline, or the end of the text.
pub record LineBreak (text line rest : List ℕ) : Type 0 where
  pub plain : Contains line 10 → ⊥
  pub joined : (text ≡ line ++ 10 ∷ rest) ⊎ ((text ≡ line) × (rest ≡ []))
