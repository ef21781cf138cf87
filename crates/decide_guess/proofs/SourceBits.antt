-- The bits of the sources of a cone, by their positions.
use Rattle.std.proofs.Common.{◌≡◌, ◌∙◌, ℕ, zero, suc, ◌+◌, ◌<◌, ◌++◌, ◌∷◌, [], Bool, true, false, IfOk, List, Result, Ok, Err, Vec, length, map, refl, arith, add-one, if◌then◌else◌}
use Rattle.std.specs.declared.alloc.Global.{Global}
use Rattle.std.proofs.lemmas.List.{map-append}
use Rattle.law_model.specs.Places.{places_where}
use Rattle.decide_nodes.specs.declared.node.Node.{Node}
use Rattle.decide_guess.specs.Renamed.{GivesSources, is_source_at}

-- Functions that agree below a number give the same of the places below it.
pub map_same_below : (test f g : ℕ → Bool) (n : ℕ) → ((k : ℕ) → k < n → f k ≡ g k)
    → map f (places_where test n) ≡ map g (places_where test n)
map_same_below test f g zero e = refl
map_same_below test f g (suc n) e =
    let before : map f (places_where test n) ≡ map g (places_where test n) =
    map_same_below test f g n (λ k less. e k (omega arith)) in
    let here : f n ≡ g n = e n (omega arith) in
    elim (test n) as (λ b. map f (if b then places_where test n ++ n ∷ [] else places_where test n)
    ≡ map g (if b then places_where test n ++ n ∷ [] else places_where test n))
    [ true ↦ simp map-append (cc) | false ↦ before ]

-- So what gives the sources the bits of one gives them those of the other.
pub gives_same : (nodes : List Node) (f g : ℕ → Bool) (given : List (List ℕ)) → GivesSources nodes f given
    → ((k : ℕ) → k < length nodes → f k ≡ g k) → GivesSources nodes g given
gives_same nodes f g given gives same lane less =
    gives lane less ∙ map_same_below (is_source_at nodes) f g (length nodes) same

pub found_same : {E : Type 0} (found : Result (Vec (List ℕ) Global) E) (nodes : List Node) (f g : ℕ → Bool)
    → ((k : ℕ) → k < length nodes → f k ≡ g k) → IfOk found (λ given. GivesSources nodes f given.items)
    → IfOk found (λ given. GivesSources nodes g given.items)
found_same (Ok given) nodes f g same gives = gives_same nodes f g given.items gives same
found_same (Err e) nodes f g same gives = gives

-- One place more, where the test holds and where it doesn't.
pub places_with : (test : ℕ → Bool) (n : ℕ) → test n ≡ true → places_where test (n + 1) ≡ places_where test n ++ n ∷ []
places_with test n holds = rw (add-one, holds) refl

pub places_without : (test : ℕ → Bool) (n : ℕ) → test n ≡ false → places_where test (n + 1) ≡ places_where test n
places_without test n fails = rw (add-one, fails) refl
