-- Where runs of bytes, comments, texts and names end: relations between a place with the bytes from there on and the
-- place after it with the bytes that are left.
use Rattle.std.specs.Prelude.{◌≡◌, ℕ, ◌+◌, List, [], ◌∷◌, ◌++◌, Bool, true, false, not, ◌==◌, ◌&&◌}
use Rattle.netlist_tokens.specs.Byte.{newline, quote, star, slash, backslash, is_letter, is_name_byte, begins}

-- as many bytes as pass the test
pub data Longest (p : ℕ → Bool) : ℕ → List ℕ → ℕ → List ℕ → Type 0 where
  ended : {at : ℕ} → Longest p at [] at []
  stopped : {at b : ℕ} {bs : List ℕ} → p b ≡ false → Longest p at (b ∷ bs) at (b ∷ bs)
  more : {at to b : ℕ} {bs rest : List ℕ} → p b ≡ true → Longest p (at + 1) bs to rest → Longest p at (b ∷ bs) to rest

-- `*/` stands here
abbrev pub is_close : List ℕ → Bool
is_close [] = false
is_close (b ∷ bs) = (b == star) && begins (λ c. c == slash) bs

-- to the first `*/`, and after it
pub data Closes : ℕ → List ℕ → ℕ → List ℕ → Type 0 where
  here : {at : ℕ} {rest : List ℕ} → Closes at (star ∷ slash ∷ rest) (at + 2) rest
  later : {at to b : ℕ} {bs rest : List ℕ} → is_close (b ∷ bs) ≡ false → Closes (at + 1) bs to rest
      → Closes at (b ∷ bs) to rest

-- after the byte `before`, to the next `"` on this line that has no backslash directly before it, and after it
pub data Unquotes : ℕ → ℕ → List ℕ → ℕ → List ℕ → Type 0 where
  here : {before at : ℕ} {rest : List ℕ} → (before == backslash) ≡ false
      → Unquotes before at (quote ∷ rest) (at + 1) rest
  later : {before at to b : ℕ} {bs rest : List ℕ} → (b == newline) ≡ false → ((b == quote) && not (before == backslash))
      ≡ false → Unquotes b (at + 1) bs to rest → Unquotes before at (b ∷ bs) to rest

-- the Name of these bytes
pub record IsName (word : List ℕ) (at : ℕ) (bs : List ℕ) (to : ℕ) (rest : List ℕ) : Type 0 where
  pub begin : begins is_letter bs ≡ true
  pub longest : Longest is_name_byte at bs to rest
  pub bytes : bs ≡ word ++ rest

-- there is no such end
abbrev pub Nowhere : (ℕ → List ℕ → Type 0) → Type 0
Nowhere ends = (to : ℕ) (rest : List ℕ) → ends to rest → ⊥
