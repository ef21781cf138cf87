-- Models of clauses, one literal or clause more at a time.
use Rattle.std.proofs.Common.{◌≡◌, ℕ, ◌+◌, ◌<◌, ℤ, pos, Bool, true, false, List, length, take, get_or, w32, to_z, of_z, subst, sym, ◌∙◌}
use Rattle.std.specs.List.{All}
use Rattle.std.proofs.lemmas.Int.{to_z-of_z}
use Rattle.std.proofs.lemmas.List.Elements.{All-contains, All-more}
use Rattle.sat_proof.specs.Assignment.{IsMet, assigned, value_of}
use mir.Val.{SFits}

-- One literal more isn't true.
pub none_more : (v : ℕ → Bool) (xs : List ℤ) (i : ℕ) (b : Bool) → i < length xs
    → All (λ x. value_of v x ≡ false) (take i xs) → SFits w32 (get_or xs i (pos 0))
    → b ≡ value_of v (to_z w32 (of_z w32 (get_or xs i (pos 0)))) → b ≡ false
    → All (λ x. value_of v x ≡ false) (take (i + 1) xs)
none_more v xs i b less before fits is fails =
    let x = get_or xs i (pos 0) in
    All-more (λ x. value_of v x ≡ false) xs i (pos 0) less before
    (subst (λ z. value_of v z ≡ false) (to_z-of_z w32 x fits) (sym is ∙ fails))

-- A clause of which none is isn't met.
pub none_met : (v : ℕ → Bool) (xs : List ℤ) → All (λ x. value_of v x ≡ false) xs → IsMet v xs → ⊥
none_met v xs none (l, here, is) = apart (value_of v l) (All-contains (λ x. value_of v x ≡ false) xs l none here) is
  where
    apart : (b : Bool) → b ≡ false → b ≡ true → ⊥
    apart b fails holds = absurd cc

-- The item at a place is as all are.
pub item_there : {X : Type 0} (P : X → Type 0) (xs : List X) (i : ℕ) (d x : X) → i < length xs → All P xs
    → x ≡ get_or xs i d → P x
item_there P xs i d x less all is = subst P (sym is) (all i d less)

-- Clauses that are met by values, and the same clauses by the same values.
pub met_same : (v w : List Bool) (a b : List (List ℤ)) → v ≡ w → a ≡ b → All (IsMet (assigned v)) a
    → All (IsMet (assigned w)) b
met_same v w a b values clauses met =
    subst (λ x. All (IsMet (assigned x)) b) values (subst (All (IsMet (assigned v))) clauses met)
