-- The bits of lanes, lane by lane.
use Rattle.std.proofs.Common.{◌≡◌, ℕ, zero, suc, ◌+◌, ◌-◌, ◌*◌, ◌/◌, ◌%◌, ◌^◌, ◌<◌, ◌≤◌, ◌==◌, ◌&&◌, ◌||◌, min, max, not, cond, Bool, true, false, List, [], ◌∷◌, nat_lt, slice_index, refl, sym, ap, ◌∙◌, arith, w64, ⊎_elim}
use Rattle.std.specs.Prelude.{bit_and, bit_or, bit_xor}
use Rattle.std.specs.Int.{bit_at, trailing_zeros}
use Rattle.std.proofs.lemmas.Bool.{cases_eq, eq-eqb, ne_eqb, lt-ltb, le-ltb, cases_lt}
use Rattle.std.proofs.lemmas.Nat.Bits.{bit_at_and, bit_at_or, bit_at_xor, bit_at_ones, bit_at-zero, bit_at-lt, bit_at-trailing_zeros}
use Rattle.law_model.specs.Class.{flipped}
use Rattle.decide_nodes.specs.Lanes.{HasNone, IsOne, equal_bits, in_lane}

min_bits : (x y : ℕ) → x < 2 → y < 2 → (min x y == 1) ≡ (x == 1) && (y == 1)
min_bits zero zero low small = refl
min_bits zero (suc zero) low small = refl
min_bits (suc zero) zero low small = refl
min_bits (suc zero) (suc zero) low small = refl
min_bits (suc (suc x)) y low small = absurd (omega arith)
min_bits zero (suc (suc y)) low small = absurd (omega arith)
min_bits (suc zero) (suc (suc y)) low small = absurd (omega arith)

max_bits : (x y : ℕ) → x < 2 → y < 2 → (max x y == 1) ≡ (x == 1) || (y == 1)
max_bits zero zero low small = refl
max_bits zero (suc zero) low small = refl
max_bits (suc zero) zero low small = refl
max_bits (suc zero) (suc zero) low small = refl
max_bits (suc (suc x)) y low small = absurd (omega arith)
max_bits zero (suc (suc y)) low small = absurd (omega arith)
max_bits (suc zero) (suc (suc y)) low small = absurd (omega arith)

other_bit : (x : ℕ) → x < 2 → ((x + 1) % 2 == 1) ≡ not (x == 1)
other_bit zero small = refl
other_bit (suc zero) small = refl
other_bit (suc (suc x)) small = absurd (omega arith)

same_bit : (x : ℕ) → x < 2 → ((x + 0) % 2 == 1) ≡ (x == 1)
same_bit zero small = refl
same_bit (suc zero) small = refl
same_bit (suc (suc x)) small = absurd (omega arith)

part_and : (a b bit : ℕ) → (bit_at (bit_and a b) bit == 1) ≡ (bit_at a bit == 1) && (bit_at b bit == 1)
part_and a b bit = rw bit_at_and (min_bits (bit_at a bit) (bit_at b bit) (bit_at-lt a bit) (bit_at-lt b bit))

part_or : (a b bit : ℕ) → (bit_at (bit_or a b) bit == 1) ≡ (bit_at a bit == 1) || (bit_at b bit == 1)
part_or a b bit = rw bit_at_or (max_bits (bit_at a bit) (bit_at b bit) (bit_at-lt a bit) (bit_at-lt b bit))

part_turned : (a bit : ℕ) (inverted : Bool) → bit < 64
    → (bit_at (bit_xor a (equal_bits inverted)) bit == 1) ≡ flipped inverted (bit_at a bit == 1)
part_turned a bit true less =
    rw (bit_at_xor, bit_at_ones 64 bit less) (other_bit (bit_at a bit) (bit_at-lt a bit))
part_turned a bit false less = rw (bit_at_xor, bit_at-zero bit) (same_bit (bit_at a bit) (bit_at-lt a bit))

part_zero : (bit : ℕ) → (bit_at 0 bit == 1) ≡ false
part_zero bit = ap (λ b. b == 1) (bit_at-zero bit)

-- What is so in each of the four parts is so in all lanes.
each_part : (P : ℕ → Type 0) → P 0 → P 1 → P 2 → P 3 → (part : ℕ) → part < 4 → P part
each_part P a b c d zero less = a
each_part P a b c d (suc zero) less = b
each_part P a b c d (suc (suc zero)) less = c
each_part P a b c d (suc (suc (suc zero))) less = d
each_part P a b c d (suc (suc (suc (suc n)))) less = absurd (omega arith)

abbrev pub equal_parts : ℕ → List ℕ
equal_parts part = part ∷ part ∷ part ∷ part ∷ []

-- Lanes whose parts are made of those of two lanes.
abbrev pub by_parts : (ℕ → ℕ → ℕ) → List ℕ → List ℕ → List ℕ
by_parts f a b =
    f (slice_index a 0) (slice_index b 0) ∷ f (slice_index a 1) (slice_index b 1)
    ∷ f (slice_index a 2) (slice_index b 2) ∷ f (slice_index a 3) (slice_index b 3) ∷ []

pub lane_and : (a b : List ℕ) (lane : ℕ) → lane < 256
    → in_lane (by_parts bit_and a b) lane ≡ in_lane a lane && in_lane b lane
lane_and a b lane less =
    let bit : ℕ = lane % 64 in
    each_part (λ part. (bit_at (slice_index (by_parts bit_and a b) part) bit == 1)
    ≡ (bit_at (slice_index a part) bit == 1) && (bit_at (slice_index b part) bit == 1))
    (part_and (slice_index a 0) (slice_index b 0) bit) (part_and (slice_index a 1) (slice_index b 1) bit)
    (part_and (slice_index a 2) (slice_index b 2) bit) (part_and (slice_index a 3) (slice_index b 3) bit) (lane / 64)
    (omega arith)

pub lane_or : (a b : List ℕ) (lane : ℕ) → lane < 256
    → in_lane (by_parts bit_or a b) lane ≡ in_lane a lane || in_lane b lane
lane_or a b lane less =
    let bit : ℕ = lane % 64 in
    each_part (λ part. (bit_at (slice_index (by_parts bit_or a b) part) bit == 1)
    ≡ (bit_at (slice_index a part) bit == 1) || (bit_at (slice_index b part) bit == 1))
    (part_or (slice_index a 0) (slice_index b 0) bit) (part_or (slice_index a 1) (slice_index b 1) bit)
    (part_or (slice_index a 2) (slice_index b 2) bit) (part_or (slice_index a 3) (slice_index b 3) bit) (lane / 64)
    (omega arith)

pub lane_turned : (a : List ℕ) (inverted : Bool) (lane : ℕ) → lane < 256
    → in_lane (by_parts bit_xor a (equal_parts (equal_bits inverted))) lane ≡ flipped inverted (in_lane a lane)
lane_turned a inverted lane less =
    let bit : ℕ = lane % 64 in
    let small : bit < 64 = omega arith in
    each_part (λ part. (bit_at (slice_index (by_parts bit_xor a (equal_parts (equal_bits inverted))) part) bit == 1)
    ≡ flipped inverted (bit_at (slice_index a part) bit == 1))
    (part_turned (slice_index a 0) bit inverted small) (part_turned (slice_index a 1) bit inverted small)
    (part_turned (slice_index a 2) bit inverted small) (part_turned (slice_index a 3) bit inverted small) (lane / 64)
    (omega arith)

-- Lanes of four equal parts have in each lane the bit of a part.
pub lane_equal : (part lane : ℕ) → lane < 256
    → in_lane (equal_parts part) lane ≡ (bit_at part (lane % 64) == 1)
lane_equal part lane less =
    each_part (λ p. (bit_at (slice_index (equal_parts part) p) (lane % 64) == 1)
    ≡ (bit_at part (lane % 64) == 1)) refl refl refl refl (lane / 64) (omega arith)

pub lane_ones : (lane : ℕ) → lane < 256
    → in_lane (equal_parts (2 ^ 64 - 1)) lane ≡ true
lane_ones lane less = lane_equal (2 ^ 64 - 1) lane less
    ∙ ap (λ bit. bit == 1) (bit_at_ones 64 (lane % 64) (omega arith))

pub lane_zeros : (lane : ℕ) → lane < 256 → in_lane (equal_parts 0) lane ≡ false
lane_zeros lane less = lane_equal 0 lane less ∙ part_zero (lane % 64)

-- Lanes whose parts before one are 0.
abbrev pub NoneBefore : List ℕ → ℕ → Type 0
NoneBefore lane_bits end = (part : ℕ) → part < end → slice_index lane_bits part ≡ 0

pub none_before : (lane_bits : List ℕ) (end : ℕ) → slice_index lane_bits end ≡ 0 → NoneBefore lane_bits end
    → NoneBefore lane_bits (end + 1)
none_before lane_bits end none before part less =
    ⊎_elim (λ (low : part < end). before part low)
    (λ (last : end ≤ part). (let same : part ≡ end = omega (arith, last, less) in
    ap (slice_index lane_bits) same ∙ none)) (cases_lt part end)

pub none_at_all : (lane_bits : List ℕ) (end : ℕ) → 4 ≤ end → NoneBefore lane_bits end → HasNone lane_bits
none_at_all lane_bits end all before lane less =
    ap (λ part. bit_at part (lane % 64) == 1) (before (lane / 64) (omega (arith, less, all))) ∙ part_zero (lane % 64)

-- The lowest 1 of a part.
pub one_at : (lane_bits : List ℕ) (part : ℕ) → part < 4 → (slice_index lane_bits part ≡ 0 → ⊥)
    → slice_index lane_bits part < 2 ^ 64 → IsOne lane_bits (64 * part + trailing_zeros w64 (slice_index lane_bits part))
one_at lane_bits part less some fits =
    let lowest = bit_at-trailing_zeros w64 (slice_index lane_bits part) (omega (arith, some)) fits in
    let bit : ℕ = trailing_zeros w64 (slice_index lane_bits part) in
    let small : bit < 64 = lowest.0 in
    let which : (64 * part + bit) / 64 ≡ part = omega (arith, small) in
    let rest : (64 * part + bit) % 64 ≡ bit = omega (arith, small) in
    (omega (arith, small, less), rw (which, rest) (ap (λ b. b == 1) lowest.1))

-- Where there is nothing given, there is no 1.
pub lane_none : (lane : ℕ) → in_lane [] lane ≡ false
lane_none lane = part_zero (lane % 64)

-- The lowest bit of a number, and the others.
lowest : (b : Bool) (m q e : ℕ) → e < 2 → ((cond b 1 0 + 2 * m) == (e + 2 * q)) ≡ flipped (e == 0) b && (m == q)
lowest true m q zero small = ne_eqb (1 + 2 * m) (0 + 2 * q) (λ same. omega arith)
lowest false m q (suc zero) small = ne_eqb (0 + 2 * m) (1 + 2 * q) (λ same. omega arith)
lowest true m q (suc zero) small =
    ⊎_elim (λ (e : m ≡ q). eq-eqb (1 + 2 * m) (1 + 2 * q) (omega (arith, e)) ∙ sym (eq-eqb m q e))
    (λ (e : m ≡ q → ⊥). ne_eqb (1 + 2 * m) (1 + 2 * q) (λ same. e (omega arith)) ∙ sym (ne_eqb m q e)) (cases_eq m q)
lowest false m q zero small =
    ⊎_elim (λ (e : m ≡ q). eq-eqb (0 + 2 * m) (0 + 2 * q) (omega (arith, e)) ∙ sym (eq-eqb m q e))
    (λ (e : m ≡ q → ⊥). ne_eqb (0 + 2 * m) (0 + 2 * q) (λ same. e (omega arith)) ∙ sym (ne_eqb m q e)) (cases_eq m q)
lowest b m q (suc (suc e)) small = absurd (omega arith)

pub mask_step : (b : Bool) (m r : ℕ) → ((cond b 1 0 + 2 * m) == r) ≡ flipped (r % 2 == 0) b && (m == r / 2)
mask_step b m r =
    let whole : r ≡ r % 2 + 2 * (r / 2) = omega arith in
    ap (λ k. (cond b 1 0 + 2 * m) == k) whole ∙ lowest b m (r / 2) (r % 2) (omega arith)

-- One value more of a table.
pub one_more : (v : ℕ → Bool) (m i : ℕ)
    → (nat_lt m i && v m) || ((m == i) && v i) ≡ nat_lt m (i + 1) && v m
one_more v m i =
    ⊎_elim (λ (same : m ≡ i). rw (same, le-ltb i i (omega arith), eq-eqb i i refl, lt-ltb i (i + 1) (omega arith)) refl)
    (λ (other : m ≡ i → ⊥). ⊎_elim
    (λ (less : m < i). (rw (ne_eqb m i other, lt-ltb m i less, lt-ltb m (i + 1) (omega arith)) (last (v m))))
    (λ (more : i ≤ m). rw (ne_eqb m i other, le-ltb m i more, le-ltb m (i + 1) (omega (arith, other, more))) refl)
    (cases_lt m i)) (cases_eq m i)
  where
    last : (a : Bool) → a || false ≡ a
    last true = refl
    last false = refl
