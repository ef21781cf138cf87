-- A text cut at each byte of a kind: a line into its words at the spaces, a text into its lines at the newlines.
use Rattle.std.specs.Prelude.{ℕ, ◌+◌, ◌==◌, List, [], ◌∷◌, ◌++◌, if◌then◌else◌}

-- one byte more in front of the first piece
abbrev pub with_front : ℕ → List (List ℕ) → List (List ℕ)
with_front b [] = (b ∷ []) ∷ []
with_front b (p ∷ ps) = (b ∷ p) ∷ ps

-- The pieces between the cuts. There is one more than there are cuts, so at least one.
abbrev pub pieces : ℕ → List ℕ → List (List ℕ)
pieces cut [] = [] ∷ []
pieces cut (b ∷ bs) = if b == cut then [] ∷ pieces cut bs else with_front b (pieces cut bs)

-- Pieces with a cut between each two.
abbrev pub joined_by : ℕ → List (List ℕ) → List ℕ
joined_by cut [] = []
joined_by cut (p ∷ []) = p
joined_by cut (p ∷ q ∷ ps) = p ++ cut ∷ joined_by cut (q ∷ ps)

-- How many bytes the first piece has.
abbrev pub first_length : ℕ → List ℕ → ℕ
first_length cut [] = 0
first_length cut (b ∷ bs) = if b == cut then 0 else first_length cut bs + 1

-- The words of a line, and a line of words.
abbrev pub words_in : List ℕ → List (List ℕ)
words_in line = pieces 32 line

abbrev pub line_of_words : List (List ℕ) → List ℕ
line_of_words words = joined_by 32 words

-- The lines of a text, the last of which has no newline after it.
abbrev pub lines_in : List ℕ → List (List ℕ)
lines_in text = pieces 10 text

-- Words with a space before each.
abbrev pub spaced : List (List ℕ) → List ℕ
spaced [] = []
spaced (w ∷ ws) = 32 ∷ w ++ spaced ws
