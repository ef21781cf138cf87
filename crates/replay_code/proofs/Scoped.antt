-- The names after those of a scope.
use Rattle.std.proofs.Common.{◌≡◌, ℕ, Bool, true, false, None, Some, List, [], ◌∷◌, ◌++◌, refl, sym, ap, ◌∙◌, bytes_eq, if◌then◌else◌}
use Rattle.std.proofs.lemmas.Slice.Eq.{bytes_eq-Decides}
use Rattle.recording_binding.specs.Naming.{Texts}
use Rattle.replay_code.specs.Lookup.{below}
use Rattle.replay_code.proofs.Stepping.{bytes_same}

-- Behind a scope's names stand the others.
pub below_own : (scope texts : Texts) → below scope (scope ++ texts) ≡ Some texts
below_own [] texts = refl
below_own (name ∷ scope) texts = ap (λ b. if b then below scope (scope ++ texts) else None) (bytes_same name) ∙ below_own scope texts

-- Where others stand after them, the names are the scope's with those.
pub own_below : (scope names texts : Texts) → below scope names ≡ Some texts → names ≡ scope ++ texts
own_below [] names texts is = cc
own_below (name ∷ scope) [] texts is = absurd cc
own_below (name ∷ scope) (text ∷ names) texts is = by (own_below scope names texts) (bytes_eq name text) refl is
  where
    by : (below scope names ≡ Some texts → names ≡ scope ++ texts) → (b : Bool) → bytes_eq name text ≡ b → (if b then below scope names else None) ≡ Some texts → text ∷ names ≡ name ∷ (scope ++ texts)
    by others true same rest =
        let head : name ≡ text = (bytes_eq-Decides name text).0 same in
        ap (λ (n : List ℕ). n ∷ names) (sym head) ∙ ap (λ (l : Texts). name ∷ l) (others rest)
    by others false same rest = absurd cc
