-- What the machine reads of a word is what the word writes.
use Rattle.std.proofs.Common.{◌≡◌, ℕ, zero, suc, ◌<◌, ◌≤◌, ◌==◌, Bool, true, false, cond, List, [], ◌∷◌, length, Some, None, Result, Ok, Err, refl, sym, subst, ◌∙◌, ap, arith}
use Rattle.std.specs.Prelude.{ℤ, pos, neg_ℤ, nat_abs, nat_le, nat_lt, ◌&&◌}
use Rattle.std.specs.List.{list_all}
use Rattle.std.proofs.lemmas.Bool.Decides.{nat_tests}
use Rattle.sat_dimacs.specs.declared.fault.DimacsFault.{DimacsFault}
use Rattle.sat_dimacs.specs.declared.fault.DimacsFault.TheVariants.{Syntax, Range}
use Rattle.sat_dimacs.specs.Machine.{in_range, literal_of, negated, on_ok, plain as plainly, variable_of}
use Rattle.sat_dimacs.specs.Numbers.{AreDigitsOf, IsNumber, negative, plain}
use Rattle.base_scan.specs.Numbers.{at_most, number_from}
use Rattle.base_scan.specs.Bytes.{are_digits, is_digit}
use Rattle.base_scan.proofs.Digits.{filled, filled_true, within}
use Rattle.base_scan.proofs.Fronts.{both}

pub all_true : (a b : Bool) → a ≡ true → b ≡ true → a && b ≡ true
all_true a b x y = cc

past : (n limit : ℕ) → nat_le n limit ≡ false → limit < n
past n limit h = grind (arith, nat_tests)

is_same : (a b : ℕ) → (a == b) ≡ true → a ≡ b
is_same a b h = grind (arith, nat_tests)

not_same : (a b : ℕ) → (a == b) ≡ false → a ≡ b → ⊥
not_same a b h is = grind (arith, nat_tests)

not_both : (t : Bool) → t ≡ true → t ≡ false → ⊥
not_both t x y = absurd cc

-- Digits.
pub digits_of : (ds : List ℕ) → are_digits ds ≡ true → AreDigitsOf ds (number_from 0 ds)
digits_of ds h =
    let found = both (nat_lt 0 (length ds)) (list_all is_digit ds) h in
    record { some = filled (length ds) found.0; digits = found.1; is = refl }

pub digits_again : (ds : List ℕ) (n : ℕ) → AreDigitsOf ds n → are_digits ds ≡ true
digits_again ds n h = all_true (nat_lt 0 (length ds)) (list_all is_digit ds) (filled_true (length ds) h.some) h.digits

-- What the machine reads of digits.
pub data IsOver (vars line : ℕ) (ds : List ℕ) (fault : DimacsFault) : Type 0 where
  none : ((n : ℕ) → AreDigitsOf ds n → ⊥) → fault ≡ Syntax line → IsOver vars line ds fault
  over : (n : ℕ) → AreDigitsOf ds n → vars < n → fault ≡ Range line → IsOver vars line ds fault

abbrev pub VariableIs : ℕ → ℕ → List ℕ → Result ℕ DimacsFault → Type 0
VariableIs vars line ds (Ok n) = AreDigitsOf ds n × (n ≤ vars)
VariableIs vars line ds (Err fault) = IsOver vars line ds fault

variable_law : (vars line : ℕ) (ds : List ℕ) → VariableIs vars line ds (variable_of vars line ds)
variable_law vars line ds = by (are_digits ds) refl
  where
    small : (t : Bool) → nat_le (number_from 0 ds) vars ≡ t → AreDigitsOf ds (number_from 0 ds)
        → VariableIs vars line ds (in_range line (cond t (Some (number_from 0 ds)) None))
    small true is digits = (digits, within (number_from 0 ds) vars is)
    small false is digits = over (number_from 0 ds) digits (past (number_from 0 ds) vars is) refl

    by : (t : Bool) → are_digits ds ≡ t
        → VariableIs vars line ds (cond t (in_range line (at_most vars (number_from 0 ds))) (Err (Syntax line)))
    by true is = small (nat_le (number_from 0 ds) vars) refl (digits_of ds is)
    by false is = none (λ n h. not_both (are_digits ds) (digits_again ds n h) is) refl

-- What it reads of a word.
pub data IsWrong (vars line : ℕ) (word : List ℕ) (fault : DimacsFault) : Type 0 where
  no_number : ((n : ℤ) → IsNumber word n → ⊥) → fault ≡ Syntax line → IsWrong vars line word fault
  past_vars : (n : ℤ) → IsNumber word n → vars < nat_abs n → fault ≡ Range line → IsWrong vars line word fault

abbrev pub LiteralIs : ℕ → ℕ → List ℕ → Result ℤ DimacsFault → Type 0
LiteralIs vars line word (Ok l) = IsNumber word l × (nat_abs l ≤ vars)
LiteralIs vars line word (Err fault) = IsWrong vars line word fault

no_empty : (n : ℤ) → IsNumber [] n → ⊥
no_empty n (plain m digits is) = omega (arith, digits.some)
no_empty n (negative ds m word_is digits some is) = absurd cc

sign_digit : (b : ℕ) (bs : List ℕ) (n : ℕ) → b ≡ 45 → AreDigitsOf (b ∷ bs) n → ⊥
sign_digit b bs n is digits =
    let first : is_digit b ≡ true = (both (is_digit b) (list_all is_digit bs) digits.digits).0 in
    digit_no (both (nat_le 48 b) (nat_le b 57) first).0
  where
    digit_no : nat_le 48 b ≡ true → ⊥
    digit_no h = grind (arith, nat_tests)

tail_same : (b c : ℕ) (bs cs : List ℕ) → b ∷ bs ≡ c ∷ cs → bs ≡ cs
tail_same b c bs cs is = cc

head_same : (b c : ℕ) (bs cs : List ℕ) → b ∷ bs ≡ c ∷ cs → b ≡ c
head_same b c bs cs is = cc

-- The digits of a negative number.
behind_sign : (b : ℕ) (bs : List ℕ) (n : ℤ) → b ≡ 45 → IsNumber (b ∷ bs) n → (m : ℕ) × AreDigitsOf bs m × (0 < m) × (n ≡ neg_ℤ (pos m))
behind_sign b bs n is (plain m digits value) = absurd (sign_digit b bs m is digits)
behind_sign b bs n is (negative ds m word_is digits some value) =
    (m, subst (λ w. AreDigitsOf w m) (sym (tail_same b 45 bs ds word_is)) digits, some, value)

no_sign : (b : ℕ) (bs : List ℕ) (n : ℤ) → (b == 45) ≡ false → IsNumber (b ∷ bs) n → (m : ℕ) × AreDigitsOf (b ∷ bs) m × (n ≡ pos m)
no_sign b bs n is (plain m digits value) = (m, digits, value)
no_sign b bs n is (negative ds m word_is digits some value) = absurd (not_same b 45 is (head_same b 45 bs ds word_is))

one_value : (ds : List ℕ) (m n : ℕ) → AreDigitsOf ds m → AreDigitsOf ds n → m ≡ n
one_value ds m n a b = a.is ∙ sym b.is

abs_neg : (n : ℕ) → nat_abs (neg_ℤ (pos n)) ≡ n
abs_neg zero = refl
abs_neg (suc n) = refl

signed_law : (vars line b : ℕ) (bs : List ℕ) → b ≡ 45 → (r : Result ℕ DimacsFault) → VariableIs vars line bs r
    → LiteralIs vars line (b ∷ bs) (on_ok r (negated line))
signed_law vars line b bs is (Err fault) (none no_digits fault_is) =
    no_number (λ n h. let found = behind_sign b bs n is h in no_digits found.0 found.1) fault_is
signed_law vars line b bs is (Err fault) (over n digits more fault_is) =
    past_vars (neg_ℤ (pos n)) (negative bs n (ap (λ c. c ∷ bs) is) digits (omega (arith, more)) refl) (omega (arith, more, abs_neg n)) fault_is
signed_law vars line b bs is (Ok n) read = by (n == 0) refl
  where
    by : (t : Bool) → (n == 0) ≡ t → LiteralIs vars line (b ∷ bs) (cond t (Err (Syntax line)) (Ok (neg_ℤ (pos n))))
    by true zero_is =
        no_number (λ k h.
        let found = behind_sign b bs k is h in
        let same : found.0 ≡ n = one_value bs found.0 n found.1 read.0 in
        let none : n ≡ 0 = is_same n 0 zero_is in
        let more : 0 < found.0 = found.2 in
        omega (arith, same, none, more)) refl
    by false some =
        let more : 0 < n = positive some in
        (negative bs n (ap (λ c. c ∷ bs) is) read.0 more refl, omega (arith, read.1, abs_neg n))
      where
        positive : (n == 0) ≡ false → 0 < n
        positive h = grind (arith, nat_tests)

plain_law : (vars line b : ℕ) (bs : List ℕ) → (b == 45) ≡ false → (r : Result ℕ DimacsFault) → VariableIs vars line (b ∷ bs) r
    → LiteralIs vars line (b ∷ bs) (on_ok r plainly)
plain_law vars line b bs is (Err fault) (none no_digits fault_is) =
    no_number (λ n h. let found = no_sign b bs n is h in no_digits found.0 found.1) fault_is
plain_law vars line b bs is (Err fault) (over n digits more fault_is) = past_vars (pos n) (plain n digits refl) more fault_is
plain_law vars line b bs is (Ok n) read = (plain n read.0 refl, read.1)

pub literal_law : (vars line : ℕ) (word : List ℕ) → LiteralIs vars line word (literal_of vars line word)
unfolding literal_of
literal_law vars line [] = no_number no_empty refl
literal_law vars line (b ∷ bs) = by (b == 45) refl
  where
    by : (t : Bool) → (b == 45) ≡ t
        → LiteralIs vars line (b ∷ bs) (cond t (on_ok (variable_of vars line bs) (negated line)) (on_ok (variable_of vars line (b ∷ bs)) plainly))
    by true is = signed_law vars line b bs (is_same b 45 is) (variable_of vars line bs) (variable_law vars line bs)
    by false is = plain_law vars line b bs is (variable_of vars line (b ∷ bs)) (variable_law vars line (b ∷ bs))

-- A word writes one number.
pub one_number : (word : List ℕ) (m n : ℤ) → IsNumber word m → IsNumber word n → m ≡ n
one_number [] m n a b = absurd (no_empty m a)
one_number (c ∷ cs) m n a b = by (c == 45) refl
  where
    by : (t : Bool) → (c == 45) ≡ t → m ≡ n
    by true is =
        let x = behind_sign c cs m (is_same c 45 is) a in
        let y = behind_sign c cs n (is_same c 45 is) b in
        x.3 ∙ (ap (λ k. neg_ℤ (pos k)) (one_value cs x.0 y.0 x.1 y.1) ∙ sym y.3)
    by false is =
        let x = no_sign c cs m is a in
        let y = no_sign c cs n is b in
        x.2 ∙ (ap (λ k. pos k) (one_value (c ∷ cs) x.0 y.0 x.1 y.1) ∙ sym y.2)

-- A number within the variables is read.
pub literal_read : (vars line : ℕ) (word : List ℕ) (l : ℤ) → IsNumber word l → nat_abs l ≤ vars → literal_of vars line word ≡ Ok l
literal_read vars line word l is small = by (literal_of vars line word) (literal_law vars line word)
  where
    by : (r : Result ℤ DimacsFault) → LiteralIs vars line word r → r ≡ Ok l
    by (Ok k) h = ap (λ x. Ok x) (one_number word k l h.0 is)
    by (Err fault) (no_number none_is fault_is) = absurd (none_is l is)
    by (Err fault) (past_vars n other more fault_is) =
        let same : nat_abs n ≡ nat_abs l = ap nat_abs (one_number word n l other is) in
        absurd (omega (arith, same, more, small))
