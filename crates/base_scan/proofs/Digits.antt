-- A number's decimal text is digits, and reads as that number.
use Rattle.std.proofs.Common.{◌≡◌, ℕ, ◌^◌, ◌<◌, ◌≤◌, true, Some, arith, rules}
use Rattle.std.specs.Prelude.{decimal, nat_le, nat_lt}
use Rattle.std.specs.List.{list_all}
use Rattle.std.proofs.lemmas.Bool.Decides.{nat_tests}
use Rattle.std.proofs.lemmas.Fmt.{digits_decimal, digits_value-decimal}
use Rattle.std.proofs.lemmas.Str.Parse.{IsNumeralModel, numerals_by_fold}
use Rattle.base_scan.specs.Bytes.{is_digit}
use Rattle.base_scan.specs.Numbers.{at_most, number_from}

-- Numbers are read as std's numerals are.
pub own : IsNumeralModel (λ ds. list_all is_digit ds ≡ true) (number_from 0)
own = numerals_by_fold _ (search rules) number_from (search rules)

pub all_digits_decimal : (n : ℕ) → n < 2 ^ 64 → list_all is_digit (decimal n) ≡ true
all_digits_decimal n small = digits_decimal own n small

pub number_of_decimal : (n : ℕ) → n < 2 ^ 64 → number_from 0 (decimal n) ≡ n
number_of_decimal n small = digits_value-decimal own n small

-- Tests of lengths and limits.
pub filled : (n : ℕ) → nat_lt 0 n ≡ true → 0 < n
filled n h = grind (arith, nat_tests)

pub filled_true : (n : ℕ) → 0 < n → nat_lt 0 n ≡ true
filled_true n h = grind (arith, nat_tests)

pub within : (n limit : ℕ) → nat_le n limit ≡ true → n ≤ limit
within n limit h = grind (arith, nat_tests)

pub within_true : (n limit : ℕ) → n ≤ limit → nat_le n limit ≡ true
within_true n limit h = grind (arith, nat_tests)

pub at_most_again : (limit n : ℕ) → n ≤ limit → at_most limit n ≡ Some n
at_most_again limit n small = grind (arith, nat_tests)
