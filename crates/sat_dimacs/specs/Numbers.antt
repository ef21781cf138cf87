-- Numbers: digits with an optional `-` before.
use Rattle.std.specs.Prelude.{◌≡◌, ℕ, ℤ, pos, neg_ℤ, ◌<◌, ◌≤◌, List, ◌∷◌, true, length}
use Rattle.std.specs.List.{list_all}
use Rattle.base_scan.specs.Bytes.{is_digit}
use Rattle.base_scan.specs.Numbers.{number_from}

-- One or more digits write a number. Zeros may lead.
pub record AreDigitsOf (word : List ℕ) (n : ℕ) : Type 0 where
  pub some : 0 < length word
  pub digits : list_all is_digit word ≡ true
  pub is : n ≡ number_from 0 word

-- A number is digits, or `-` and digits; `-0` is none.
pub data IsNumber (word : List ℕ) (number : ℤ) : Type 0 where
  plain : (n : ℕ) → AreDigitsOf word n → number ≡ pos n → IsNumber word number
  negative : (digits : List ℕ) (n : ℕ) → word ≡ 45 ∷ digits → AreDigitsOf digits n → 0 < n → number ≡ neg_ℤ (pos n)
      → IsNumber word number

-- A count in the header: digits, and no more than the limit.
pub record IsCount (limit : ℕ) (word : List ℕ) (n : ℕ) : Type 0 where
  pub writes : AreDigitsOf word n
  pub small : n ≤ limit
