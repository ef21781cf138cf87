-- Gaps, at which a text is cut.
use Rattle.std.specs.Prelude.{◌≡◌, ℕ, suc, ◌+◌, ◌<◌, List, [], ◌∷◌, length, take, drop, Bool, ◌==◌, ◌||◌, if◌then◌else◌}
use Rattle.base_scan.specs.declared.gap.Gap.{Gap}
use Rattle.base_scan.specs.declared.gap.Gap.TheVariants.{Byte, Blank, White}
use Rattle.base_scan.specs.Bytes.{is_white}

-- What stands between two parts: one byte, spaces and tabs, or white space.
abbrev pub is_gap : Gap → ℕ → Bool
is_gap (Byte one) b = b == one
is_gap Blank b = (b == 32) || (b == 9)
is_gap White b = is_white b

-- How many bytes come before the first gap.
abbrev pub first_length : Gap → List ℕ → ℕ
first_length gap [] = 0
first_length gap (b ∷ bs) = if is_gap gap b then 0 else first_length gap bs + 1

-- one byte more in front of the first part
abbrev pub with_front : ℕ → List (List ℕ) → List (List ℕ)
with_front b [] = (b ∷ []) ∷ []
with_front b (p ∷ ps) = (b ∷ p) ∷ ps

-- A text has no gap, and all of it stands in front.
pub record IsWhole (gap : Gap) (text front : List ℕ) : Type 0 where
  pub none : first_length gap text ≡ length text
  pub is : front ≡ text

-- A text is cut at its first gap.
pub record IsCut (gap : Gap) (text front rest : List ℕ) : Type 0 where
  pub some : first_length gap text < length text
  pub before : front ≡ take (first_length gap text) text
  pub after : rest ≡ drop (suc (first_length gap text)) text
