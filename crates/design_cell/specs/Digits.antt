-- Cases of a row by their digits: the columns are read as digits 0, 1 and 2, the lowest first. No contract of a public
-- call names these.
use Rattle.std.specs.Prelude.{◌≡◌, ℕ, ◌+◌, ◌*◌, ◌/◌, ◌%◌, ◌<◌, ◌≤◌, ◌==◌, ◌&&◌, ◌||◌, Bool, false, cond, List}
use Rattle.std.specs.Prelude.{slice_index, slice_index_or}
use Rattle.std.specs.Int.{bit_at}
use lib.Dec.{ltb}
use Rattle.design_cell.specs.Index.{flag}

-- whether a column takes a digit, by a list of three a column
abbrev pub digit : List Bool → ℕ → ℕ → Bool
digit digits c d = slice_index_or digits (3 * c + d) false

-- Three columns take the digits of a number, and the last four do.
unfoldable pub triple : (ℕ → ℕ → Bool) → ℕ → ℕ → Bool
triple takes c number = takes c (number % 3) && takes (c + 1) (number / 3 % 3) && takes (c + 2) (number / 9)

unfoldable pub four : (ℕ → ℕ → Bool) → ℕ → Bool
four takes number = triple takes 6 (number % 27) && takes 9 (number / 27)

abbrev pub has : ℕ → ℕ → Bool
has word b = bit_at word b == 1

-- the bits of a word are the numbers whose digits three columns take
pub record IsTriple (takes : ℕ → ℕ → Bool) (c word : ℕ) : Type 0 where
  pub numbers : (b : ℕ) → b < 27 → bit_at word b ≡ flag (triple takes c b)
  pub no_other : (b : ℕ) → 27 ≤ b → bit_at word b ≡ 0

-- How many middle and high parts there are: one, where all their columns lie behind the inputs.
unfoldable pub middle_end : ℕ → ℕ
middle_end inputs = cond (ltb 3 inputs) 27 1

unfoldable pub high_end : ℕ → ℕ
high_end inputs = cond (ltb 6 inputs) 81 1

unfoldable pub word_count : ℕ → ℕ
word_count inputs = middle_end inputs * high_end inputs

-- the place of a word
abbrev pub place : ℕ → ℕ → ℕ → ℕ
place high middle output = 3 * (27 * high + middle) + output

-- A case is marked for an output where the bit of its low part is set in the word of its other parts and the output.
abbrev pub marked : List ℕ → ℕ → ℕ → Bool
marked seen p b = has (slice_index seen p) b

-- The low parts are marked in the words of a test, and all else stays.
abbrev pub Marks : List ℕ → List ℕ → (ℕ → Bool) → ℕ → Type 0
Marks old new test low = (p b : ℕ) → marked new p b ≡ (marked old p b || test p && has low b)
