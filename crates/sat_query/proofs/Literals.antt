-- Literals of a log, one more at a time.
use Rattle.std.proofs.Common.{◌≡◌, ℕ, ◌+◌, ◌<◌, ◌≤◌, ℤ, List, length, take, take_all, get_or, w32, to_z, of_z, subst, ◌∙◌}
use Rattle.std.specs.List.{All}
use Rattle.std.proofs.lemmas.List.Elements.{All-more}
use Rattle.std.specs.Prelude.{nat_abs}
use Rattle.std.proofs.lemmas.Int.{to_z-of_z}
use mir.Val.{SFits}

pub abs_le : (x : ℤ) (vars n : ℕ) → SFits w32 x → n ≡ nat_abs (to_z w32 (of_z w32 x)) → n ≤ vars → nat_abs x ≤ vars
abs_le x vars n fits is low = subst (λ z. nat_abs z ≤ vars) (to_z-of_z w32 x fits) (subst (λ m. m ≤ vars) is low)

-- What holds of the items so far and of the next one.
pub item_more : {X : Type 0} (P : X → Type 0) (xs : List X) (i : ℕ) (d x : X) → i < length xs → All P (take i xs)
    → x ≡ get_or xs i d → P x → All P (take (i + 1) xs)
item_more P xs i d x less before is holds = All-more P xs i d less before (subst P is holds)

pub item_all : {X : Type 0} (P : X → Type 0) (xs ys : List X) (i : ℕ) → length xs ≤ i → xs ≡ ys → All P (take i xs)
    → All P ys
item_all P xs ys i past is before = subst (All P) (take_all i xs past ∙ is) before
