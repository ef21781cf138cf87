-- Numbers by their digits. Zeros may lead.
use Rattle.std.specs.Prelude.{ℕ, ◌+◌, ◌-◌, ◌*◌, List, [], ◌∷◌, cond, nat_le, Option, Some, None}
use Rattle.base_scan.specs.Bytes.{are_digits}

-- The number that digits write after those of n.
abbrev pub number_from : ℕ → List ℕ → ℕ
number_from n [] = n
number_from n (d ∷ ds) = number_from (n * 10 + (d - 48)) ds

-- n, where it is at most the limit
abbrev pub at_most : ℕ → ℕ → Option ℕ
at_most limit n = cond (nat_le n limit) (Some n) None

-- The number that a word writes, where it is digits and at most the limit.
abbrev pub number_within : ℕ → List ℕ → Option ℕ
number_within limit word = cond (are_digits word) (at_most limit (number_from 0 word)) None
