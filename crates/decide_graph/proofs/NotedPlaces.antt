-- Places that are noted.
use Rattle.std.proofs.Common.{◌≡◌, ℕ, ◌%◌, replicate, slice_index, slice_set, sym, ap, ◌∙◌, subst, arith, ⊎_elim}
use Rattle.std.proofs.lemmas.Bool.{cases_eq}
use Rattle.std.proofs.lemmas.Grind.{get_or-set_at}
use Rattle.std.proofs.lemmas.List.{get_or-replicate, get_or-set_other}
use Rattle.std.proofs.lemmas.Nat.{mod_below}
use Rattle.decide_graph.specs.Noted.{IsAt}

-- None stands at its spot.
pub none_at : (k : ℕ) → IsAt (slice_set (replicate 64 0) 0 1) k → ⊥
none_at k at =
    ⊎_elim (λ (e : k % 64 ≡ 0).
    (let one : slice_index (slice_set (replicate 64 0) 0 1) (k % 64) ≡ 1 =
    get_or-set_at (replicate 64 0) 0 (k % 64) 1 0 e (omega arith) in
    let no : 1 ≡ 0 = subst (λ i. i % 64 ≡ 0) (sym at ∙ one) e in cc))
    (λ (e : k % 64 ≡ 0 → ⊥).
    (let nil : slice_index (slice_set (replicate 64 0) 0 1) (k % 64) ≡ 0 =
    get_or-set_other (replicate 64 0) 0 (k % 64) 1 0 e ∙ get_or-replicate 64 (k % 64) 0 0 (mod_below k 64 (omega arith)) in
    e (ap (λ i. i % 64) (sym at ∙ nil))))
    (cases_eq (k % 64) 0)
