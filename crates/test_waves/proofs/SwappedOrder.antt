-- The order of two nets in which the second comes first.
use Rattle.std.proofs.Common.{◌≡◌, ℕ, zero, suc, ◌<◌, List, [], ◌∷◌, get_or, refl, arith}
use Rattle.design_circuit.specs.Order.{IsOrdering}

abbrev pub swapped_nets : List ℕ
swapped_nets = 1 ∷ 0 ∷ []

pub swapped_ordered : IsOrdering swapped_nets
swapped_ordered = record { below = below; each = each; once = once }
  where
    below : (p : ℕ) → p < 2 → get_or swapped_nets p 0 < 2
    below zero h = omega arith
    below (suc zero) h = omega arith
    below (suc (suc p)) h = absurd (omega arith)

    each : (net : ℕ) → net < 2 → (p : ℕ) × (p < 2) × (get_or swapped_nets p 0 ≡ net)
    each zero h = (1, omega arith, refl)
    each (suc zero) h = (0, omega arith, refl)
    each (suc (suc net)) h = absurd (omega arith)

    once : (p q : ℕ) → p < 2 → q < 2 → get_or swapped_nets p 0 ≡ get_or swapped_nets q 0 → p ≡ q
    once zero zero h k same = omega arith
    once zero (suc zero) h k same = absurd (omega arith)
    once (suc zero) zero h k same = absurd (omega arith)
    once (suc zero) (suc zero) h k same = omega arith
    once zero (suc (suc q)) h k same = absurd (omega arith)
    once (suc zero) (suc (suc q)) h k same = absurd (omega arith)
    once (suc (suc p)) q h k same = absurd (omega arith)
