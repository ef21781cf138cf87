-- Choices by numbers are choices by lists of values.
use Rattle.std.proofs.Common.{◌≡◌, ℕ, zero, suc, ◌+◌, ◌*◌, ◌-◌, ◌<◌, ◌^◌, ◌==◌, Bool, true, false, cond, not, [], ◌∷◌, ◌++◌, length, get_or, slice_index_or, refl, sym, ap, ◌∙◌, arith, inl, inr, add-one, subst, length-append}
use Rattle.std.specs.Int.{bit_at}
use Rattle.std.proofs.Math.Nat.{pow-suc}
use Rattle.std.proofs.lemmas.List.{get_or_append_left, get_or-append_right, get_or_default, get_or_past, ext_get_or}
use Rattle.std.proofs.lemmas.Nat.{pow_pos}
use Rattle.std.proofs.lemmas.Nat.Bits.{bit_at_cat_low, bit_at_cat_high}
use Rattle.design_cell.specs.declared.value.Value.{Value}
use Rattle.design_cell.specs.declared.value.Value.TheVariants.{Zero, One, X, Z}
use Rattle.design_cell.specs.Value.{IsKnown, bit_value, complement_of, is_one}
use Rattle.design_cell.specs.Table.{Table}
use Rattle.design_cell.specs.Clock.{chosen, is_dead, pin_of, pins_of, acts, acts_at, is_clock, IsChosen, IsClock}
use Rattle.design_cell.specs.Index.{flag}
use Rattle.design_cell.proofs.Booleans.{and_both, and_left, and_right, any_here, any_found, last}

pins_long : (n dead k : ℕ) → length (pins_of n dead k) ≡ n
pins_long zero dead k = refl
pins_long (suc n) dead k =
    let h = pins_long n dead k in
    let e : length (pins_of n dead k ++ pin_of dead k n ∷ []) ≡ length (pins_of n dead k) + 1 = length-append (pins_of n dead k) (pin_of dead k n ∷ []) in
    omega (arith, h, e)

pins_at : (n dead k i : ℕ) → i < n → get_or (pins_of n dead k) i X ≡ pin_of dead k i
pins_at zero dead k i below = absurd (omega arith)
pins_at (suc n) dead k i below = elim (last i n below) as (λ _. get_or (pins_of (suc n) dead k) i X ≡ pin_of dead k i) [
  | inl lt ↦ get_or_append_left (pins_of n dead k) (pin_of dead k n ∷ []) X i (omega (arith, lt, pins_long n dead k)) ∙ pins_at n dead k i lt
  | inr e ↦ (let zero_ : i - n ≡ 0 = omega (arith, e) in
      get_or-append_right (pins_of n dead k) (pin_of dead k n ∷ []) n i X (pins_long n dead k) (omega (arith, e)) ∙ ap (λ j. get_or (pin_of dead k n ∷ []) j X) zero_ ∙ ap (pin_of dead k) (sym e))
]

known_bit : (b : Bool) → IsKnown (bit_value b)
known_bit true = tt
known_bit false = tt

complement_bit : (b : Bool) → complement_of (bit_value b) ≡ bit_value (not b)
complement_bit true = refl
complement_bit false = refl

chosen_pin : (d b : Bool) → IsChosen d (cond d X (bit_value b))
chosen_pin true b = refl
chosen_pin false b = known_bit b

is_false : (a : Bool) → not a ≡ true → a ≡ false
is_false true h = cc
is_false false h = refl

pub clock_sound : (t : Table) (dead pin : ℕ) → pin < t.inputs → is_clock t dead pin ≡ true → IsClock t dead pin
unfolding is_clock acts_at
clock_sound t dead pin below h =
    let live = is_false (is_dead dead pin) (and_left (not (is_dead dead pin)) _ h) in
    let found = any_found (2 ^ (t.inputs + 1)) (acts_at t dead pin) (and_right (not (is_dead dead pin)) _ h) in
    let k = found.0 in
    let pins = pins_of t.inputs dead k in
    let here : get_or (pins_of t.inputs dead found.0) pin X ≡ bit_value (chosen found.0 pin) = pins_at t.inputs dead k pin below ∙ ap (λ d. cond d X (bit_value (chosen found.0 pin))) live in
    let old : complement_of (get_or (pins_of t.inputs dead found.0) pin X) ≡ bit_value (not (chosen found.0 pin)) = ap complement_of here ∙ complement_bit (chosen k pin) in
    record {
      live = live;
      pins = pins;
      q = bit_value (chosen k t.inputs);
      long = pins_long t.inputs dead k;
      choice = λ i lt. subst (IsChosen (is_dead dead i)) (sym (pins_at t.inputs dead k i lt)) (chosen_pin (is_dead dead i) (chosen k i));
      state = known_bit (chosen k t.inputs);
      moves = ap (λ v. acts t pins pin v (bit_value (chosen k t.inputs))) old ∙ found.2;
    }

-- the number whose first bits are those of a test
abbrev number : ℕ → (ℕ → Bool) → ℕ
number zero f = 0
number (suc n) f = flag (f n) * 2 ^ n + number n f

number_small : (n : ℕ) (f : ℕ → Bool) → number n f < 2 ^ n
number_small zero f = pow_pos 0
number_small (suc n) f =
    let h = number_small n f in
    let e : 2 ^ suc n ≡ 2 ^ n * 2 = pow-suc 2 n in
    let cases : (b : Bool) → flag b * 2 ^ n + number n f < 2 ^ suc n = λ b. elim b as (λ b. flag b * 2 ^ n + number n f < 2 ^ suc n) [
      | true ↦ omega (arith, h, e)
      | false ↦ omega (arith, h, e)
    ] in
    cases (f n)

bit_zero : (b : Bool) → bit_at (flag b) 0 ≡ flag b
bit_zero true = refl
bit_zero false = refl

number_bit : (n : ℕ) (f : ℕ → Bool) (i : ℕ) → i < n → bit_at (number n f) i ≡ flag (f i)
number_bit zero f i below = absurd (omega arith)
number_bit (suc n) f i below = elim (last i n below) as (λ _. bit_at (number (suc n) f) i ≡ flag (f i)) [
  | inl lt ↦ bit_at_cat_low (flag (f n)) n (number n f) i lt ∙ number_bit n f i lt
  | inr e ↦ (let at_zero : i - n ≡ 0 = omega (arith, e) in
      bit_at_cat_high (flag (f n)) n (number n f) i (number_small n f) (omega (arith, e)) ∙ ap (bit_at (flag (f n))) at_zero ∙ bit_zero (f n) ∙ ap (λ j. flag (f j)) (sym e))
]

flag_is : (b : Bool) → (flag b == 1) ≡ b
flag_is true = refl
flag_is false = refl

number_chosen : (n : ℕ) (f : ℕ → Bool) (i : ℕ) → i < n → chosen (number n f) i ≡ f i
number_chosen n f i below = ap (λ k. k == 1) (number_bit n f i below) ∙ flag_is (f i)

bit_of_known : (v : Value) → IsKnown v → bit_value (is_one v) ≡ v
bit_of_known Zero h = refl
bit_of_known One h = refl
bit_of_known X h = absurd h
bit_of_known Z h = absurd h

chosen_is : (d : Bool) (v : Value) → IsChosen d v → cond d X (bit_value (is_one v)) ≡ v
chosen_is true v h = sym h
chosen_is false v h = bit_of_known v h

pub clock_complete : (t : Table) (dead pin : ℕ) → pin < t.inputs → IsClock t dead pin → is_clock t dead pin ≡ true
unfolding is_clock acts_at
clock_complete t dead pin below c =
    let n = t.inputs in
    let f : ℕ → Bool = λ i. is_one (slice_index_or c.pins i c.q) in
    let k = number (suc n) f in
    let at_pin : (i : ℕ) → i < t.inputs → bit_value (chosen k i) ≡ bit_value (is_one (slice_index_or c.pins i X)) = λ i lt.
    ap bit_value (number_chosen (suc n) f i (omega (arith, lt)) ∙ ap is_one (get_or_default c.pins i c.q X (omega (arith, lt, c.long)))) in
    let pins : pins_of t.inputs dead k ≡ c.pins = ext_get_or X (pins_of t.inputs dead k) c.pins (pins_long n dead k ∙ sym c.long) (λ i lt.
    let small : i < t.inputs = omega (arith, lt, pins_long t.inputs dead k) in
    pins_at n dead k i small ∙ ap (λ v. cond (is_dead dead i) X v) (at_pin i small) ∙ chosen_is (is_dead dead i) (slice_index_or c.pins i X) (c.choice i small)) in
    let q : bit_value (chosen k t.inputs) ≡ c.q = ap bit_value (number_chosen (suc n) f n (omega arith) ∙ ap is_one (get_or_past c.pins n c.q (omega (arith, c.long)))) ∙ bit_of_known c.q c.state in
    let known : bit_value (chosen k pin) ≡ slice_index_or c.pins pin X = at_pin pin below ∙ bit_of_known (slice_index_or c.pins pin X) (subst (λ d. IsChosen d (slice_index_or c.pins pin X)) c.live (c.choice pin below)) in
    let old : bit_value (not (chosen k pin)) ≡ complement_of (slice_index_or c.pins pin X) = sym (complement_bit (chosen k pin)) ∙ ap complement_of known in
    let acts_there : acts_at t dead pin k ≡ true =
    ap (λ p. acts t p pin (bit_value (not (chosen k pin))) (bit_value (chosen k t.inputs))) pins
    ∙ ap (λ v. acts t c.pins pin v (bit_value (chosen k t.inputs))) old
    ∙ ap (λ v. acts t c.pins pin (complement_of (slice_index_or c.pins pin X)) v) q
    ∙ c.moves in
    let small : k < 2 ^ (t.inputs + 1) = rw add-one (number_small (suc n) f) in
    and_both _ _ (ap not c.live) (any_here (2 ^ (t.inputs + 1)) (acts_at t dead pin) k small acts_there)
