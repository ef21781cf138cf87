-- The words of a text: bytes between white space.
use Rattle.std.specs.Prelude.{ℕ, ◌+◌, List, [], ◌∷◌, ◌++◌, length, cond}
use Rattle.base_scan.specs.Bytes.{is_white}

-- A word, and the place of its first byte, from 0.
pub record Word : Type 0 where
  pub at : ℕ
  pub text : List ℕ

abbrev pub word : ℕ → List ℕ → Word
word at text = record { at = at; text = text }

-- Between words, or in the word that began at this place with these bytes.
pub data Mode : Type 0 where
  between : Mode
  in_word : ℕ → List ℕ → Mode

-- The words of these bytes, the first of which stands at this place.
abbrev pub scan : Mode → ℕ → List ℕ → List Word
scan between at [] = []
scan (in_word start front) at [] = word start front ∷ []
scan between at (b ∷ bs) = cond (is_white b) (scan between (at + 1) bs) (scan (in_word at (b ∷ [])) (at + 1) bs)
scan (in_word start front) at (b ∷ bs) =
    cond (is_white b) (word start front ∷ scan between (at + 1) bs) (scan (in_word start (front ++ b ∷ [])) (at + 1) bs)

-- The words that are left to read, and the length of the whole text.
pub record Left : Type 0 where
  pub words : List Word
  pub stop : ℕ

abbrev pub left_of : ℕ → List ℕ → Left
left_of at bs = record { words = scan between at bs; stop = at + length bs }

-- The words of a text.
abbrev pub words_of : List ℕ → List Word
words_of text = scan between 0 text
