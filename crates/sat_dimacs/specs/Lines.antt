-- The lines of a text, the words of a line, and the words of lines with their numbers.
use Rattle.std.specs.Prelude.{ℕ, ◌+◌, ◌==◌, Bool, true, false, ◌||◌, List, [], ◌∷◌, ◌++◌, filter, if◌then◌else◌}
use Rattle.base_scan.specs.declared.gap.Gap.{Gap}
use Rattle.base_scan.specs.declared.gap.Gap.TheVariants.{Byte, White}
use Rattle.base_scan.specs.Gaps.{is_gap, with_front}
use Rattle.sat_dimacs.specs.declared.kind.Kind.{Kind}
use Rattle.sat_dimacs.specs.declared.kind.Kind.TheVariants.{OfCnf, OfLog}

-- What stands before each gap, and what stands after the last one, if anything does.
abbrev pub parts : Gap → List ℕ → List (List ℕ)
parts gap [] = []
parts gap (b ∷ bs) = if is_gap gap b then [] ∷ parts gap bs else with_front b (parts gap bs)

-- The lines of a text, without their newlines. The last one need not have one.
abbrev pub lines_in : List ℕ → List (List ℕ)
lines_in text = parts (Byte 10) text

abbrev pub is_filled : List ℕ → Bool
is_filled [] = false
is_filled (b ∷ bs) = true

-- The words of a line: its parts that aren't empty.
abbrev pub words_in : Gap → List ℕ → List (List ℕ)
words_in gap line = filter is_filled (parts gap line)

-- A line whose first byte is `c` is passed over, in a log also one whose first byte is `d`.
abbrev pub begins_passed : Kind → ℕ → Bool
begins_passed OfCnf b = b == 99
begins_passed OfLog b = (b == 99) || (b == 100)

abbrev pub is_passed : Kind → List ℕ → Bool
is_passed kind [] = false
is_passed kind (b ∷ bs) = begins_passed kind b

-- A word, and the number of its line.
pub record Word : Type 0 where
  pub line : ℕ
  pub bytes : List ℕ

abbrev pub on_line : ℕ → List (List ℕ) → List Word
on_line n [] = []
on_line n (w ∷ ws) = record { line = n; bytes = w } ∷ on_line n ws

abbrev pub words_of_line : Kind → ℕ → List ℕ → List Word
words_of_line kind n line = if is_passed kind line then [] else on_line n (words_in White line)

-- The words of lines that aren't passed over. The first line has the number n.
abbrev pub words_from : Kind → ℕ → List (List ℕ) → List Word
words_from kind n [] = []
words_from kind n (l ∷ ls) = words_of_line kind n l ++ words_from kind (n + 1) ls
