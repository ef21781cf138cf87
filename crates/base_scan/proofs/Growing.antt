-- A number only grows by more digits.
use Rattle.std.proofs.Common.{◌≡◌, ℕ, ◌+◌, ◌-◌, ◌*◌, ◌<◌, ◌≤◌, List, [], ◌∷◌, length, slice_index, None, arith}
use Rattle.std.proofs.lemmas.Bool.Decides.{nat_tests}
use Rattle.base_scan.specs.Numbers.{at_most, number_from}

number_from-le : (n : ℕ) (ds : List ℕ) → n ≤ number_from n ds
number_from-le n [] = omega arith
number_from-le n (d ∷ ds) = omega (arith, number_from-le (n * 10 + (d - 48)) ds)

at_most-past : (limit n : ℕ) → limit < n → at_most limit n ≡ None
at_most-past limit n lt = grind (arith, nat_tests)

past_at_most : (limit n : ℕ) → None ≡ at_most limit n → limit < n
past_at_most limit n h = grind (arith, nat_tests)

past : (limit n d : ℕ) (ds : List ℕ) → None ≡ at_most limit (number_from n (d ∷ []))
    → at_most limit (number_from n (d ∷ ds)) ≡ None
past limit n d ds h =
    let lt : limit < n * 10 + (d - 48) = past_at_most limit (n * 10 + (d - 48)) h in
    at_most-past limit (number_from (n * 10 + (d - 48)) ds) (omega (arith, lt, number_from-le (n * 10 + (d - 48)) ds))

-- A number that is over the limit stays so.
pub past_from : (limit n : ℕ) (ds : List ℕ) (d : ℕ) → 1 ≤ length ds
    → None ≡ at_most limit (n * 10 + (slice_index ds 0 - 48)) → at_most limit (number_from n ds) ≡ None
past_from limit n [] d lt h = absurd (omega (arith, lt))
past_from limit n (x ∷ ds) d lt h = past limit n x ds h
