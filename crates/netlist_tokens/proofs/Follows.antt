-- What the rules say is what the calculation gives.
use Rattle.std.proofs.Common.{◌≡◌, ℕ, ◌+◌, List, [], ◌∷◌, Bool, true, false, ◌&&◌, ◌==◌, Some, refl, ap, ◌∙◌, arith}
use Rattle.netlist_tokens.specs.Byte.{star, slash, begins}
use Rattle.netlist_tokens.specs.Ends.{Longest, Closes, Unquotes}
use Rattle.netlist_tokens.specs.Scan.{Rest, rest, after, after_close, after_quote, blank}
use Rattle.netlist_tokens.specs.Tokens.{Blank}

-- two bytes on
pub two : (n : ℕ) → n + 1 + 1 ≡ n + 2
two n = omega arith

pub longest_follows : {p : ℕ → Bool} {at to : ℕ} {bs more : List ℕ} → Longest p at bs to more → after p at bs ≡ rest to more
longest_follows Longest.ended = refl
longest_follows (Longest.stopped h) = rw h refl
longest_follows (Longest.more h d) = rw h (longest_follows d)

unstarred : (starred : Bool) (at : ℕ) (bs : List ℕ) → (starred && begins (λ c. c == slash) bs) ≡ false → after_close starred at bs ≡ after_close false at bs
unstarred false at bs h = refl
unstarred true at [] h = refl
unstarred true at (c ∷ cs) h = rw h refl

pub closes_follows : {at to : ℕ} {bs more : List ℕ} → Closes at bs to more → after_close false at bs ≡ Some (rest to more)
closes_follows (Closes.here {at = at} {rest = more}) = ap (λ n. Some (rest n more)) (two at)
closes_follows (Closes.later {at = at} {b = b} {bs = bs} h d) = unstarred (b == star) (at + 1) bs h ∙ closes_follows d

pub unquotes_follows : {before at to : ℕ} {bs more : List ℕ} → Unquotes before at bs to more → after_quote before at bs ≡ Some (rest to more)
unquotes_follows (Unquotes.here h) = rw h refl
unquotes_follows (Unquotes.later h i d) = rw (h, i) (unquotes_follows d)

pub blank_follows : {at to : ℕ} {bs more : List ℕ} → Blank at bs to more → blank at bs ≡ Some (rest to more)
blank_follows (Blank.white h) = rw h refl
blank_follows (Blank.line {at = at} d) = rw two (ap (λ (r : Rest). Some r) (longest_follows d))
blank_follows (Blank.block {at = at} d) = rw two (closes_follows d)
