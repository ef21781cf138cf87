-- A slice that is written in the place of a vector's items.
use Rattle.std.proofs.Common.{◌≡◌, ℕ, ◌≤◌, List, ◌++◌, length, take, drop, ◌∙◌, arith}
use Rattle.std.proofs.lemmas.List.{take_all, take-append-le}

pub written : {A : Type 0} (old new : List A) (n : ℕ) → n ≡ length old → length new ≡ length old → take n (new ++ drop (length new) old) ≡ new
written old new n p q =
    let less : n ≤ length new = omega (arith, p, q) in
    let more : length new ≤ n = omega (arith, p, q) in
    take-append-le n new (drop (length new) old) less ∙ take_all n new more
