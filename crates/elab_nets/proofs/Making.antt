-- One thing more of a row of things.
use Rattle.std.proofs.Common.{◌≡◌, ℕ, ◌+◌, List, [], ◌∷◌, ◌++◌, ◌∙◌, ap, append_assoc, add-one}
use Rattle.elab_nets.specs.Ranges.{upto}

pub one_more : {A : Type 0} (ys xs old : List A) (f : ℕ → A) (n : ℕ) (y : A) → ys ≡ xs ++ y ∷ [] → xs ≡ old ++ upto f n → y ≡ f n → ys ≡ old ++ upto f (n + 1)
one_more {A} ys xs old f n y more so is =
    rw add-one (more ∙ ap (λ (l : List A). l ++ y ∷ []) so ∙ append_assoc old (upto f n) (y ∷ []) ∙ ap (λ (z : A). old ++ (upto f n ++ z ∷ [])) is)
