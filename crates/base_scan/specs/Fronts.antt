-- What is read of the words in front of others.
use Rattle.std.specs.Prelude.{ℕ, List, [], ◌∷◌, cond, bytes_eq, Option, Some, None}

-- What is read of what was read, if anything was.
infixl 10 ◌>>=◌
abbrev pub ◌>>=◌ : {A B : Type 0} → Option A → (A → Option B) → Option B
None >>= f = None
(Some x) >>= f = f x

-- This word in front, and the words after it.
abbrev pub word_in_front : List ℕ → List (List ℕ) → Option (List (List ℕ))
word_in_front word [] = None
word_in_front word (w ∷ ws) = cond (bytes_eq w word) (Some ws) None
