-- Numbers and literals: what is read is written so, and what is written is read again.
use Rattle.std.proofs.Common.{◌≡◌, ℕ, zero, suc, ◌^◌, ◌<◌, ◌≤◌, ◌==◌, Bool, true, false, cond, List, [], ◌∷◌, length, get_or, Option, Some, None, refl, sym, ◌∙◌, ap, arith}
use Rattle.std.specs.Prelude.{ℤ, pos, negsuc, nat_abs, decimal, not, ◌&&◌, ◌||◌, nat_le, nat_lt, option_map}
use Rattle.std.specs.Fmt.{signed_decimal}
use Rattle.std.specs.List.{list_all}
use Rattle.std.proofs.lemmas.Bool.Decides.{nat_tests}
use Rattle.std.proofs.lemmas.Fmt.{decimal-digits_value, decimal_digit, decimal_nonempty, first_decimal}
use Rattle.cert_reader.specs.Numbers.{is_numeral, literal_of_word, negated, numeral_within, variable_of_word}
use Rattle.base_scan.specs.Numbers.{at_most, number_from}
use Rattle.base_scan.specs.Bytes.{is_digit}
use Rattle.base_scan.proofs.Digits.{all_digits_decimal, filled, filled_true, number_of_decimal, own, within, within_true}
use Rattle.base_scan.proofs.Fronts.{both, guarded, some_is}

lead_alone : (first n : ℕ) → not (first == 48) || (n == 1) ≡ true → first ≡ 48 → n ≡ 1
lead_alone first n h is = grind (arith, nat_tests)

-- A word that is read as a number is its decimal text.
pub record IsNumber (limit : ℕ) (word : List ℕ) (n : ℕ) : Type 0 where
  pub word_is : word ≡ decimal n
  pub small : n ≤ limit

pub number_takes : (limit : ℕ) (word : List ℕ) (n : ℕ) → limit < 2 ^ 64 → numeral_within limit word ≡ Some n
    → IsNumber limit word n
unfolding numeral_within
number_takes limit word n wide read =
    let one = guarded (is_numeral word) (at_most limit (number_from 0 word)) n read in
    let two = guarded (nat_le (number_from 0 word) limit) (Some (number_from 0 word)) n one.1 in
    let v : number_from 0 word ≡ n = some_is (number_from 0 word) n two.1 in
    let outer = both (nat_lt 0 (length word) && list_all is_digit word) (not (get_or word 0 0 == 48) || (length word == 1)) one.0 in
    let inner = both (nat_lt 0 (length word)) (list_all is_digit word) outer.0 in
    let small : number_from 0 word ≤ limit = within (number_from 0 word) limit two.0 in
    record {
      word_is =
          sym (decimal-digits_value own word inner.1 (filled (length word) inner.0)
          (lead_alone (get_or word 0 0) (length word) outer.1) (omega (arith, small, wide))) ∙ ap decimal v;
      small = omega (arith, small, v);
    }

-- The decimal text of a number is a numeral, and is read as that number.
first_alone : (n first length : ℕ) → (0 < n → 48 < first) → (n ≡ 0 → length ≡ 1) → not (first == 48) || (length == 1) ≡ true
first_alone zero first length more one = let is : length ≡ 1 = one refl in grind (arith, nat_tests)
first_alone (suc n) first length more one = let is : 48 < first = more (omega arith) in grind (arith, nat_tests)

all_true : (a b c : Bool) → a ≡ true → b ≡ true → c ≡ true → a && b && c ≡ true
all_true a b c x y z = cc

numeral_decimal : (n : ℕ) → n < 2 ^ 64 → is_numeral (decimal n) ≡ true
numeral_decimal n small =
    all_true (nat_lt 0 (length (decimal n))) (list_all is_digit (decimal n)) (not (get_or (decimal n) 0 0 == 48) || (length (decimal n) == 1))
    (filled_true (length (decimal n)) (decimal_nonempty n small)) (all_digits_decimal n small)
    (first_alone n (get_or (decimal n) 0 0) (length (decimal n)) (λ more. first_decimal n more small)
    (λ is. rw is (ap length (decimal_digit 0 (omega arith)))))

pub number_again : (limit n : ℕ) → limit < 2 ^ 64 → n ≤ limit → numeral_within limit (decimal n) ≡ Some n
unfolding numeral_within
number_again limit n wide small =
    let low : n < 2 ^ 64 = omega (arith, wide, small) in
    rw (numeral_decimal n low, number_of_decimal n low, within_true n limit small) refl

-- Digits in front are no sign.
no_sign : (b : ℕ) → is_digit b ≡ true → (b == 45) ≡ false
no_sign b h = grind (arith, nat_tests)

literal_digits : (t : List ℕ) → 0 < length t → list_all is_digit t ≡ true → literal_of_word t ≡ option_map (λ n. pos n) (variable_of_word t)
unfolding literal_of_word
literal_digits [] some digits = absurd (omega (arith, some))
literal_digits (b ∷ bs) some digits = rw (no_sign b (both (is_digit b) (list_all is_digit bs) digits).0) refl

pub record IsLiteral (word : List ℕ) (l : ℤ) : Type 0 where
  pub word_is : word ≡ signed_decimal l
  pub small : nat_abs l < 2 ^ 31

negated_suc : (n : ℕ) → negated (Some (suc n)) ≡ Some (negsuc n)
negated_suc n = let e : (suc n == 0) ≡ false = grind (arith, nat_tests) in rw e refl

negated_takes : (word : List ℕ) (o : Option ℕ) (l : ℤ) → ((n : ℕ) → o ≡ Some n → IsNumber 2147483647 word n)
    → negated o ≡ Some l → IsLiteral (45 ∷ word) l
negated_takes word None l number read = absurd cc
negated_takes word (Some zero) l number read = absurd cc
negated_takes word (Some (suc n)) l number read =
    let is : negsuc n ≡ l = some_is (negsuc n) l (sym (negated_suc n) ∙ read) in
    let found = number (suc n) refl in
    record {
      word_is = ap (λ w. 45 ∷ w) found.word_is ∙ ap signed_decimal is;
      small = rw (sym is) (omega (arith, found.small));
    }

positive_takes : (word : List ℕ) (o : Option ℕ) (l : ℤ) → ((n : ℕ) → o ≡ Some n → IsNumber 2147483647 word n)
    → option_map (λ n. pos n) o ≡ Some l → IsLiteral word l
positive_takes word None l number read = absurd cc
positive_takes word (Some n) l number read =
    let is : pos n ≡ l = some_is (pos n) l read in
    let found = number n refl in
    record {
      word_is = found.word_is ∙ ap signed_decimal is;
      small = rw (sym is) (omega (arith, found.small));
    }

is_sign : (b : ℕ) → (b == 45) ≡ true → b ≡ 45
is_sign b h = grind (arith, nat_tests)

pub literal_takes : (word : List ℕ) (l : ℤ) → literal_of_word word ≡ Some l → IsLiteral word l
unfolding literal_of_word
literal_takes [] l read = absurd cc
literal_takes (b ∷ bs) l read = by (b == 45) refl read
  where
    by : (t : Bool) → (b == 45) ≡ t → cond t (negated (variable_of_word bs)) (option_map (λ n. pos n) (variable_of_word (b ∷ bs))) ≡ Some l
        → IsLiteral (b ∷ bs) l
    by true is r = rw (is_sign b is) (negated_takes bs (variable_of_word bs) l (λ n h. number_takes 2147483647 bs n (omega arith) h) r)
    by false is r = positive_takes (b ∷ bs) (variable_of_word (b ∷ bs)) l (λ n h. number_takes 2147483647 (b ∷ bs) n (omega arith) h) r

literal_minus : (t : List ℕ) → literal_of_word (45 ∷ t) ≡ negated (variable_of_word t)
unfolding literal_of_word
literal_minus t = refl

pub literal_again : (l : ℤ) → nat_abs l < 2 ^ 31 → literal_of_word (signed_decimal l) ≡ Some l
unfolding literal_of_word
literal_again (pos n) small =
    literal_digits (decimal n) (decimal_nonempty n (omega (arith, small))) (all_digits_decimal n (omega (arith, small)))
    ∙ ap (option_map (λ m. pos m)) (number_again 2147483647 n (omega arith) (omega (arith, small)))
literal_again (negsuc n) small =
    literal_minus (decimal (suc n))
    ∙ (ap negated (number_again 2147483647 (suc n) (omega arith) (omega (arith, small))) ∙ negated_suc n)
