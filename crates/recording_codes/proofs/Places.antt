-- Two short codes with one place are one code.
use Rattle.std.proofs.Common.{◌≡◌, ℕ, ◌+◌, ◌-◌, ◌*◌, ◌≤◌, true, List, [], ◌∷◌, length, refl, sym, ◌∙◌, arith}
use Rattle.std.specs.List.{list_all}
use Rattle.std.proofs.lemmas.Bool.Decides.{nat_tests}
use Rattle.recording_codes.specs.Slots.{is_short, is_slot_byte, slot_of}

-- the number that these digits in base 95 write, the least first
abbrev place_of : List ℕ → ℕ
place_of [] = 0
place_of (b ∷ bs) = (b - 32) + 95 * place_of bs

record Front (b : ℕ) (bs : List ℕ) : Type 0 where
  low : 33 ≤ b
  high : b ≤ 126
  rest : list_all is_slot_byte bs ≡ true

front : (b : ℕ) (bs : List ℕ) → list_all is_slot_byte (b ∷ bs) ≡ true → Front b bs
front b bs h = record { low = grind (arith, nat_tests); high = grind (arith, nat_tests); rest = grind (arith, nat_tests) }

same : (s t : List ℕ) → list_all is_slot_byte s ≡ true → list_all is_slot_byte t ≡ true → place_of s ≡ place_of t → s ≡ t
same [] [] p q h = refl
same [] (c ∷ t) p q h = let y = front c t q in absurd (omega (arith, h, y.low))
same (b ∷ s) [] p q h = let x = front b s p in absurd (omega (arith, h, x.low))
same (b ∷ s) (c ∷ t) p q h =
    let x = front b s p in
    let y = front c t q in
    let e : b ≡ c = omega (arith, h, x.low, x.high, y.low, y.high) in
    let f : place_of s ≡ place_of t = omega (arith, h, x.low, x.high, y.low, y.high) in
    rw (e, same s t x.rest y.rest f) refl

record Short (t : List ℕ) : Type 0 where
  few : length t ≤ 4
  bytes : list_all is_slot_byte t ≡ true

short_of : (t : List ℕ) → is_short t ≡ true → Short t
short_of t h = record { few = grind (arith, nat_tests); bytes = grind (arith, nat_tests) }

place_is : (t : List ℕ) → length t ≤ 4 → slot_of t ≡ place_of t
place_is [] h = omega arith
place_is (a ∷ []) h = omega arith
place_is (a ∷ b ∷ []) h = omega arith
place_is (a ∷ b ∷ c ∷ []) h = omega arith
place_is (a ∷ b ∷ c ∷ d ∷ []) h = omega arith
place_is (a ∷ b ∷ c ∷ d ∷ e ∷ t) h = absurd (omega (arith, h))

pub same_place : (s t : List ℕ) → is_short s ≡ true → is_short t ≡ true → slot_of s ≡ slot_of t → s ≡ t
same_place s t a b h =
    let x = short_of s a in
    let y = short_of t b in
    same s t x.bytes y.bytes (sym (place_is s x.few) ∙ h ∙ place_is t y.few)
