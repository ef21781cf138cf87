-- Files of which each has another name.
use Rattle.std.proofs.Common.{ℕ, zero, suc, ◌<◌, [], ◌∷◌, length, take, arith}
use Rattle.base_run.specs.Outputs.{AreApart, File}

pub none_apart : AreApart []
none_apart = λ i d within. absurd (omega (arith, within))

pub one_apart : (file : File) → AreApart (file ∷ [])
one_apart file = λ i d within k e less. absurd (nowhere i k within less)
  where
    nowhere : (i k : ℕ) → i < 1 → k < length (take i (file ∷ [])) → ⊥
    nowhere zero k within less = omega (arith, less)
    nowhere (suc i) k within less = omega (arith, within)
