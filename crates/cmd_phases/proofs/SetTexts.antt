-- A list of sets is its names and bits, put together again.
use Rattle.std.proofs.Common.{◌≡◌, ◌∙◌, ℕ, suc, ◌-◌, ◌≤◌, ◌==◌, List, [], ◌∷◌, ◌++◌, length, map, take, slice_index_or, refl, sym, ap, subst, arith, ⊎_elim}
use Rattle.std.specs.List.{AllByRecursion}
use Rattle.std.proofs.lemmas.Bool.{cases_eq}
use Rattle.base_line.specs.Line.{IsSet}
use Rattle.cmd_phases.specs.Sets.{digit_of, piece_text, set_of}

-- the name, and the last byte, of a name with two bytes after it
long : (name : List ℕ) (a b : ℕ) → length (name ++ a ∷ b ∷ []) ≡ suc (suc (length name))
long [] a b = refl
long (byte ∷ name) a b = ap suc (long name a b)

before : (name rest : List ℕ) → take (length name) (name ++ rest) ≡ name
before [] rest = refl
before (byte ∷ name) rest = ap (λ (l : List ℕ). byte ∷ l) (before name rest)

last : (name : List ℕ) (a b : ℕ) → slice_index_or (name ++ a ∷ b ∷ []) (suc (length name)) 48 ≡ b
last [] a b = refl
last (byte ∷ name) a b = last name a b

name_of : (name : List ℕ) (a b : ℕ) → take (length (name ++ a ∷ b ∷ []) - 2) (name ++ a ∷ b ∷ []) ≡ name
name_of name a b =
    let all = long name a b in
    let short : length (name ++ a ∷ b ∷ []) - 2 ≡ length name = omega (arith, all) in
    ap (λ (n : ℕ). take n (name ++ a ∷ b ∷ [])) short ∙ before name (a ∷ b ∷ [])

last_of : (name : List ℕ) (a b : ℕ) → slice_index_or (name ++ a ∷ b ∷ []) (length (name ++ a ∷ b ∷ []) - 1) 48 ≡ b
last_of name a b =
    let all = long name a b in
    let short : length (name ++ a ∷ b ∷ []) - 1 ≡ suc (length name) = omega (arith, all) in
    ap (λ (n : ℕ). slice_index_or (name ++ a ∷ b ∷ []) n 48) short ∙ last name a b

digit_is : (bit : ℕ) → 48 ≤ bit → bit ≤ 49 → digit_of (bit == 49) ≡ bit
digit_is bit low high = ⊎_elim
    (λ (one : bit ≡ 49). subst (λ (b : ℕ). digit_of (b == 49) ≡ b) (sym one) refl)
    (λ (other : bit ≡ 49 → ⊥). subst (λ (b : ℕ). digit_of (b == 49) ≡ b) {x = 48} {y = bit} (omega (arith, low, high, other)) refl)
    (cases_eq bit 49)

text_again : (piece : List ℕ) → IsSet piece → piece ≡ piece_text (set_of piece)
text_again piece is =
    subst (λ (p : List ℕ). p ≡ piece_text (set_of p)) (sym is.is) again
  where
    again : is.name ++ 61 ∷ is.bit ∷ [] ≡ piece_text (set_of (is.name ++ 61 ∷ is.bit ∷ []))
    again = rw (name_of is.name 61 is.bit, last_of is.name 61 is.bit, digit_is is.bit is.low is.high) refl

pub sets_text : (pieces : List (List ℕ)) → AllByRecursion IsSet pieces → pieces ≡ map piece_text (map set_of pieces)
sets_text [] all = refl
sets_text (piece ∷ pieces) all = λ i. text_again piece all.0 i ∷ sets_text pieces all.1 i
