-- The bits of choices with one more argument, and tables by their halves.
use Rattle.std.proofs.Common.{◌≡◌, ◌≢◌, ℕ, zero, suc, ◌+◌, ◌-◌, ◌*◌, ◌<◌, ◌≤◌, ◌^◌, ◌==◌, Bool, true, false, cond, List, [], ◌∷◌, ◌++◌, length, take, drop, refl, sym, ap, ◌∙◌, arith, add-one, subst, inl, inr, ◌⊎◌, ⊎_elim, length-append, if◌then◌else◌}
use Rattle.std.proofs.Math.Nat.{pow-suc}
use Rattle.std.proofs.Math.Path.{fun_ext}
use Rattle.std.proofs.Math.Pow.{pow_mono}
use Rattle.std.proofs.lemmas.Bool.{cases_eq, cases_lt}
use Rattle.std.proofs.lemmas.List.{get_or-take, get_or-drop}
use Rattle.std.proofs.lemmas.Nat.Bits.{bit_at_cat_low, bit_at_cat_high, bit_at_above, bit_at-suc, bit_at-zero}
use Rattle.std.specs.Int.{bit_at}
use Rattle.std.specs.List.{AllByRecursion}
use Rattle.design_cell.specs.declared.value.Value.{Value}
use Rattle.design_cell.specs.declared.value.Value.TheVariants.{X}
use Rattle.design_cell.specs.Value.{bit_value}
use Rattle.law_model.specs.Assignment.{with_bit}
use Rattle.law_model.specs.Mask.{mask_of}
use Rattle.law_model.specs.Node.{upto, table_of}
use Rattle.law_model.proofs.AssignmentNumbers.{mask_small}
use Rattle.law_model.proofs.PlacesWhere.{in_picked, among_all}
use Rattle.decide_choices.specs.declared.choice.Choice.{Choice}
use Rattle.decide_choices.specs.Choices.{bit_in, chosen_in, bits_in, IsAmong}
use Rattle.decide_choices.specs.Halves.{value_at, with_argument, AreBoth}
use Rattle.decide_choices.proofs.TableHalves.{Halves, Splits, with_same, with_other}

one_bit : (k : ℕ) → bit_at 1 (suc k) ≡ 0
one_bit k = bit_at-suc 1 k ∙ bit_at-zero k

high_bit : (n m k : ℕ) → m < 2 ^ n → n < k → bit_at (1 * 2 ^ n + m) k ≡ 0
high_bit n m k small less =
    bit_at_cat_high 1 n m k small (omega arith)
    ∙ (let up : k - n ≡ suc (k - n - 1) = omega arith in ap (bit_at 1) up ∙ one_bit (k - n - 1))

own_bit : (n m : ℕ) → m < 2 ^ n → bit_at (1 * 2 ^ n + m) n ≡ 1
own_bit n m small =
    let none : n - n ≡ 0 = omega arith in
    bit_at_cat_high 1 n m n small (omega arith) ∙ ap (bit_at 1) none

-- A number with one more bit.
pub bit_more : (n m k : ℕ) → m < 2 ^ n → bit_in (m + 2 ^ n) k ≡ with_bit n true (bit_in m) k
bit_more n m k small =
    ap (λ i. bit_in i k) same
    ∙ ⊎_elim (λ (e : k ≡ n). subst (λ i. bit_in (1 * 2 ^ n + m) i ≡ with_bit n true (bit_in m) i) (sym e)
    (ap (λ i. i == 1) (own_bit n m small) ∙ sym (with_same n true (bit_in m))))
    (λ (e : k ≢ n). ap (λ i. i == 1) (⊎_elim (λ (less : k < n). bit_at_cat_low 1 n m k less)
    (λ (more : n ≤ k). high_bit n m k small (omega arith) ∙ sym (bit_at_above m n k small more)) (cases_lt k n))
    ∙ sym (with_other n true (bit_in m) k e)) (cases_eq k n)
  where
    same : m + 2 ^ n ≡ 1 * 2 ^ n + m
    same = omega arith

pub bit_past : (n m k : ℕ) → m < 2 ^ n → n ≤ k → bit_in m k ≡ false
bit_past n m k small past = ap (λ i. i == 1) (bit_at_above m n k small past)

bit_less : (n m k : ℕ) → m < 2 ^ n → bit_in (m + 0) k ≡ with_bit n false (bit_in m) k
bit_less n m k small =
    ap (λ i. bit_in i k) same
    ∙ ⊎_elim (λ (e : k ≡ n). subst (λ i. bit_in m i ≡ with_bit n false (bit_in m) i) (sym e)
    (bit_past n m n small (omega arith) ∙ sym (with_same n false (bit_in m))))
    (λ (e : k ≢ n). sym (with_other n false (bit_in m) k e)) (cases_eq k n)
  where
    same : m + 0 ≡ m
    same = omega arith

pub chosen_with : (n : ℕ) (last : Bool) (choice : Choice) → IsAmong n choice
    → chosen_in (with_argument n last choice) ≡ with_bit n true (chosen_in choice)
chosen_with n last choice is = fun_ext (λ k. bit_more n choice.care k is.care)

pub bits_with : (n : ℕ) (last : Bool) (choice : Choice) → IsAmong n choice
    → bits_in (with_argument n last choice) ≡ with_bit n last (bits_in choice)
bits_with n true choice is = fun_ext (λ k. bit_more n choice.bits k is.bits)
bits_with n false choice is = fun_ext (λ k. bit_less n choice.bits k is.bits)

pub chosen_past : (n : ℕ) (choice : Choice) → IsAmong n choice → chosen_in choice n ≡ false
chosen_past n choice is = bit_past n choice.care n is.care (omega arith)

bits_small : (n m : ℕ) (last : Bool) → m < 2 ^ n → m + (if last then 2 ^ n else 0) < 2 ^ suc n
bits_small n m true small = let double = pow-suc 2 n in omega (arith, double)
bits_small n m false small = let double = pow-suc 2 n in omega (arith, double)

pub among_with : (n : ℕ) (last : Bool) (choice : Choice) → IsAmong n choice
    → IsAmong (suc n) (with_argument n last choice)
among_with n last choice is = record {
  care = (let double = pow-suc 2 n in let small = is.care in omega (arith, double, small));
  bits = bits_small n choice.bits last is.bits;
  no_other = λ k on. sub k (cases_eq k n) on;
}
  where
    chosen : (k : ℕ) → chosen_in (with_argument n last choice) k ≡ with_bit n true (chosen_in choice) k
    chosen k = ap (λ f. f k) (chosen_with n last choice is)

    bits : (k : ℕ) → bits_in (with_argument n last choice) k ≡ with_bit n last (bits_in choice) k
    bits k = ap (λ f. f k) (bits_with n last choice is)

    sub : (k : ℕ) → (k ≡ n) ⊎ (k ≢ n) → bits_in (with_argument n last choice) k ≡ true
        → chosen_in (with_argument n last choice) k ≡ true
    sub k (inl e) on = chosen k ∙ subst (λ i. with_bit n true (chosen_in choice) i ≡ true) (sym e)
        (with_same n true (chosen_in choice))
    sub k (inr e) on = chosen k ∙ with_other n true (chosen_in choice) k e
        ∙ is.no_other k (sym (with_other n last (bits_in choice) k e) ∙ sym (bits k) ∙ on)

pub among_more : (n : ℕ) (choice : Choice) → IsAmong n choice → IsAmong (suc n) choice
among_more n choice is = record {
  care = (let double = pow-suc 2 n in let small = is.care in omega (arith, double, small));
  bits = (let double = pow-suc 2 n in let small = is.bits in omega (arith, double, small));
  no_other = is.no_other;
}

-- Tables by halves.
pub power_small : (n : ℕ) → n < 13 → 2 ^ n ≤ 4096
power_small n less = pow_mono {i = n} {j = 12} (omega arith)

pub power_next : (n : ℕ) → 2 ^ (n + 1) ≡ 2 * 2 ^ n
power_next n = ap (λ m. 2 ^ m) (add-one n) ∙ (let double = pow-suc 2 n in omega (arith, double))

upto_long : (n : ℕ) → length (upto n) ≡ n
upto_long zero = refl
upto_long (suc n) = length-append (upto n) (n ∷ []) ∙ (let ih = upto_long n in omega (arith, ih))

mask_push : (xs : List ℕ) (y : ℕ) (f : ℕ → Bool)
    → mask_of (xs ++ y ∷ []) f ≡ mask_of xs f + 2 ^ length xs * cond (f y) 1 0
mask_push [] y f = omega arith
mask_push (x ∷ xs) y f =
    let ih = mask_push xs y f in
    let double = pow-suc 2 (length xs) in
    grind (arith, ih, double)

mask_same : (places : List ℕ) (f g : ℕ → Bool) → AllByRecursion (λ k. f k ≡ g k) places
    → mask_of places f ≡ mask_of places g
mask_same [] f g same = refl
mask_same (p ∷ ps) f g same = rw (same.0, mask_same ps f g same.1) refl

upto_same : (n : ℕ) (f g : ℕ → Bool) → ((k : ℕ) → k < n → f k ≡ g k) → mask_of (upto n) f ≡ mask_of (upto n) g
upto_same n f g same = mask_same (upto n) f g
    (among_all (λ k. f k ≡ g k) (upto n) (λ k at. same k (in_picked (λ i. true) n k at).0))

pub upto_small : (n : ℕ) (f : ℕ → Bool) → mask_of (upto n) f < 2 ^ n
upto_small n f = subst (λ m. mask_of (upto n) f < 2 ^ m) (upto_long n) (mask_small (upto n) f)

upto_next : (n : ℕ) (f : ℕ → Bool) → mask_of (upto (suc n)) f ≡ mask_of (upto n) f + 2 ^ n * cond (f n) 1 0
upto_next n f = mask_push (upto n) n f
    ∙ ap (λ m. mask_of (upto n) f + 2 ^ m * cond (f n) 1 0) (upto_long n)

-- The half of a table in which the last argument has a bit.
abbrev pub half_of : List Value → ℕ → Bool → (ℕ → Bool) → Value
half_of values n true = table_of (drop (2 ^ n) values) n
half_of values n false = table_of (take (2 ^ n) values) n

low_at : (n : ℕ) (values : List Value) (f : ℕ → Bool) → f n ≡ false
    → table_of values (suc n) f ≡ table_of (take (2 ^ n) values) n f
low_at n values f off =
    let small = upto_small n f in
    let same : mask_of (upto (suc n)) f ≡ mask_of (upto n) f =
    (let next = upto_next n f ∙ ap (λ b. mask_of (upto n) f + 2 ^ n * cond b 1 0) off in omega (arith, next)) in
    ap (value_at values) same ∙ sym (get_or-take (2 ^ n) values (mask_of (upto n) f) X small)

high_at : (n : ℕ) (values : List Value) (f : ℕ → Bool) → f n ≡ true
    → table_of values (suc n) f ≡ table_of (drop (2 ^ n) values) n f
high_at n values f on =
    let same : mask_of (upto (suc n)) f ≡ 2 ^ n + mask_of (upto n) f =
    (let next = upto_next n f ∙ ap (λ b. mask_of (upto n) f + 2 ^ n * cond b 1 0) on in omega (arith, next)) in
    ap (value_at values) same ∙ sym (get_or-drop (2 ^ n) values (mask_of (upto n) f) X)

half_at : (n : ℕ) (values : List Value) (f : ℕ → Bool) (b : Bool) → f n ≡ b
    → table_of values (suc n) f ≡ half_of values n b f
half_at n values f false is = low_at n values f is
half_at n values f true is = high_at n values f is

half_reads : (n : ℕ) (values : List Value) (f g : ℕ → Bool) (b : Bool) → ((k : ℕ) → k < n → f k ≡ g k)
    → half_of values n b f ≡ half_of values n b g
half_reads n values f g false same = ap (value_at (take (2 ^ n) values)) (upto_same n f g same)
half_reads n values f g true same = ap (value_at (drop (2 ^ n) values)) (upto_same n f g same)

half_both : (n : ℕ) (bit : Bool) (values both : List Value)
    → AreBoth bit (take (2 ^ n) values) (drop (2 ^ n) values) both → (f : ℕ → Bool) (b : Bool)
    → table_of both n f ≡ bit_value bit → half_of values n b f ≡ bit_value bit
half_both n bit values both are f false is = (are (mask_of (upto n) f)).from_low is
half_both n bit values both are f true is = (are (mask_of (upto n) f)).from_high is

pub halves_of : (n : ℕ) (values : List Value) → Halves n (table_of values (suc n)) (half_of values n)
halves_of n values = record {
  whole = λ f. half_at n values f (f n) refl;
  reads = λ f g b same. half_reads n values f g b same;
}

pub halves_split : (n : ℕ) (bit : Bool) (values both : List Value)
    → AreBoth bit (take (2 ^ n) values) (drop (2 ^ n) values) both
    → Splits n (table_of values (suc n)) (half_of values n) (table_of both n) bit
halves_split n bit values both are = record {
  halves = halves_of n values;
  to_both = λ f zero one. (are (mask_of (upto n) f)).to_both zero one;
  from_both = λ f b is. half_both n bit values both are f b is;
}
