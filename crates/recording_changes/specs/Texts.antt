-- Texts that stand one after the other.
use Rattle.std.specs.Prelude.{◌≡◌, ℕ, ◌<◌, ◌≤◌, List, [], ◌∷◌, length, slice_index_or, slice_range}

-- These bytes, from a start on, cut at these ends.
abbrev pub cut : List ℕ → ℕ → List ℕ → List (List ℕ)
cut bytes start [] = []
cut bytes start (e ∷ es) = slice_range bytes start e ∷ cut bytes e es

-- The ends don't fall, and the last of them, or the start where there is none, is the number of bytes.
abbrev pub IsCut : ℕ → ℕ → List ℕ → Type 0
IsCut count start [] = start ≡ count
IsCut count start (e ∷ es) = (start ≤ e) × IsCut count e es

-- the six texts of one digit, which come first
abbrev pub singles : List (List ℕ)
singles = (48 ∷ []) ∷ (49 ∷ []) ∷ (120 ∷ []) ∷ (88 ∷ []) ∷ (122 ∷ []) ∷ (90 ∷ []) ∷ []

-- Texts are only added after those that were there.
pub record Grows (old new : List (List ℕ)) : Type 0 where
  pub longer : length old ≤ length new
  pub kept : (n : ℕ) → n < length old → slice_index_or new n [] ≡ slice_index_or old n []
