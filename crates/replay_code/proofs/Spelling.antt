-- Names, numbers and marks that stand in a text are read as tokens.
use Rattle.std.proofs.Common.{◌≡◌, ℕ, ◌+◌, ◌<◌, ◌&&◌, ◌||◌, Bool, true, false, List, [], ◌∷◌, ◌++◌, length, refl, subst, arith, decimal, ◌^◌, ◌==◌}
use Rattle.std.specs.List.{list_all}
use Rattle.std.proofs.lemmas.Bool.Decides.{nat_tests}
use Rattle.netlist_tokens.specs.Byte.{begins, is_digit, is_letter, is_name_byte, is_number_byte, is_printable, quote}
use Rattle.netlist_tokens.specs.Ends.{Longest}
use Rattle.netlist_tokens.specs.Left.{token}
use Rattle.netlist_tokens.specs.Tokens.{ReadsToken, begins_more}
use Rattle.netlist_tokens.specs.declared.token.Kind.TheVariants.{Name, Escaped, Number, Mark}
use Rattle.base_scan.specs.Bytes.{all_digits}
use Rattle.base_scan.proofs.Digits.{all_digits_decimal}
use Rattle.base_scan.proofs.Fronts.{both}
use Rattle.replay_code.proofs.Leading.{IsToken}

pub joined : (a b : Bool) → a ≡ true → b ≡ true → (a && b) ≡ true
joined true b p q = q
joined false b p q = absurd cc

-- Bytes that pass, before one that doesn't or the end.
longest : (p : ℕ → Bool) (at : ℕ) (word rest : List ℕ) → list_all p word ≡ true → begins p rest ≡ false → Longest p at (word ++ rest) (at + length word) rest
longest p at [] rest all stops = subst (λ n. Longest p at rest n rest) (omega arith) (stopped rest stops)
  where
    stopped : (rest : List ℕ) → begins p rest ≡ false → Longest p at rest at rest
    stopped [] stops = Longest.ended
    stopped (b ∷ bs) stops = Longest.stopped stops
longest p at (b ∷ bs) rest all stops =
    let h = both (p b) (list_all p bs) all in
    let there : at + 1 + length bs ≡ at + length (b ∷ bs) = omega arith in
    Longest.more h.0 (subst (λ n. Longest p (at + 1) (bs ++ rest) n rest) there (longest p (at + 1) bs rest h.1 stops))

from_second : (p : ℕ → Bool) (at b : ℕ) (bs rest : List ℕ) → list_all p bs ≡ true → begins p rest ≡ false → Longest p (at + 1) (bs ++ rest) (at + length (b ∷ bs)) rest
from_second p at b bs rest all stops =
    let there : at + 1 + length bs ≡ at + length (b ∷ bs) = omega arith in
    subst (λ n. Longest p (at + 1) (bs ++ rest) n rest) there (longest p (at + 1) bs rest all stops)

-- A name ends before a byte that is none of a name.
pub name_token : (word rest : List ℕ) → (begins is_letter word && list_all is_name_byte word) ≡ true → begins is_name_byte rest ≡ false → IsToken Name word rest
name_token [] rest is stops at = absurd cc
name_token (b ∷ bs) rest is stops at =
    let h = both (is_letter b) (list_all is_name_byte (b ∷ bs)) is in
    let g = both (is_name_byte b) (list_all is_name_byte bs) h.1 in
    ReadsToken.name h.0 (from_second is_name_byte at b bs rest g.1 stops)

-- An escaped name ends before a byte that isn't printable.
pub escaped_token : (text rest : List ℕ) → (begins is_printable text && list_all is_printable text) ≡ true → begins is_printable rest ≡ false → IsToken Escaped (92 ∷ text) rest
escaped_token text rest is stops at =
    let h = both (begins is_printable text) (list_all is_printable text) is in
    ReadsToken.escaped (begins_more_of text h.0) (from_second is_printable at 92 text rest h.1 stops)
  where
    begins_more_of : (text : List ℕ) → begins is_printable text ≡ true → begins is_printable (text ++ rest) ≡ true
    begins_more_of [] h = absurd cc
    begins_more_of (b ∷ bs) h = h

-- A number ends before a byte that is none of a number.
pub number_token : (word rest : List ℕ) → (begins is_digit word && list_all is_number_byte word) ≡ true → begins is_number_byte rest ≡ false → IsToken Number word rest
number_token [] rest is stops at = absurd cc
number_token (b ∷ bs) rest is stops at =
    let h = both (is_digit b) (list_all is_number_byte (b ∷ bs)) is in
    let g = both (is_number_byte b) (list_all is_number_byte bs) h.1 in
    ReadsToken.number h.0 (from_second is_number_byte at b bs rest g.1 stops)

-- A mark is a byte that begins nothing else.
abbrev pub is_plain_mark : ℕ → Bool
is_plain_mark b = (b == 35) || (b == 46) || (b == 59) || (b == 61) || (b == 91) || (b == 93)

mark_parts : (b : ℕ) (rest : List ℕ) → is_plain_mark b ≡ true → (is_printable b ≡ true) × ((is_letter b || is_digit b || (b == quote)) ≡ false) × (begins_more b rest ≡ false)
mark_parts b rest is = (grind (arith, nat_tests), grind (arith, nat_tests), grind (arith, nat_tests))

pub mark_token : (b : ℕ) (rest : List ℕ) → is_plain_mark b ≡ true → IsToken Mark (b ∷ []) rest
mark_token b rest is at =
    let h = mark_parts b rest is in
    let there : at + 1 ≡ at + length (b ∷ []) = omega arith in
    subst (λ n. ReadsToken at (b ∷ rest) (token Mark at n) rest) there (ReadsToken.mark h.0 h.1 h.2)

-- A written number has digits alone, one at least.
digits_number : (ds : List ℕ) → 0 < length ds → all_digits ds ≡ true → (begins is_digit ds && list_all is_number_byte ds) ≡ true
digits_number [] some all = absurd (omega arith)
digits_number (d ∷ ds) some all =
    let h = both (is_digit d) (all_digits ds) all in
    joined (is_digit d) (list_all is_number_byte (d ∷ ds)) h.0 (numbers (d ∷ ds) all)
  where
    number_byte : (b : ℕ) → is_digit b ≡ true → is_number_byte b ≡ true
    number_byte b is = grind (arith, nat_tests)

    numbers : (ds : List ℕ) → all_digits ds ≡ true → list_all is_number_byte ds ≡ true
    numbers [] all = refl
    numbers (d ∷ ds) all = (let h = both (is_digit d) (all_digits ds) all in rw (number_byte d h.0, numbers ds h.1) refl)

pub digits_token : (n : ℕ) (rest : List ℕ) → n < 2 ^ 64 → 0 < length (decimal n) → begins is_number_byte rest ≡ false → IsToken Number (decimal n) rest
digits_token n rest small some stops = number_token (decimal n) rest (digits_number (decimal n) some (all_digits_decimal n small)) stops
