-- Texts that grow piece by piece.
use Rattle.std.proofs.Common.{◌≡◌, ℕ, suc, ◌+◌, ◌<◌, List, ◌∷◌, ◌++◌, length, drop, get_or, sym, ◌∙◌, ap, append_assoc, add-one, drop-cons}
use Rattle.std.specs.List.{flat_map}

-- A piece moves from what is left to the text.
moved : (text piece rest all grown : List ℕ) → text ++ (piece ++ rest) ≡ all → grown ≡ text ++ piece → grown ++ rest ≡ all
moved text piece rest all grown before step =
    ap (λ (l : List ℕ). l ++ rest) step ∙ append_assoc text piece rest ∙ before

module _ {X : Type 0} (xs : List X) (i : ℕ) (x : X) (within : i < length xs) (is : x ≡ get_or xs i x) where
  rest_is : drop i xs ≡ x ∷ drop (i + 1) xs
  rest_is = rw (add-one, drop-cons xs i x) (ap (λ (y : X). y ∷ drop (suc i) xs) (sym is))

  pub one_moved : (f : X → List ℕ) (text all grown : List ℕ) → text ++ flat_map f (drop i xs) ≡ all → grown ≡ text ++ f x
      → grown ++ flat_map f (drop (i + 1) xs) ≡ all
  one_moved f text all grown before step =
      moved text (f x) (flat_map f (drop (i + 1) xs)) all grown (rw rest_is at before) step
