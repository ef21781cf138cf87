-- Names that are none of others.
use Rattle.std.proofs.Common.{◌≢◌, List, [], ◌∷◌, ◌++◌, map}
use Rattle.std.specs.List.{All, AllByRecursion}
use Rattle.base_line.specs.Line.{Text}
use Rattle.base_line.proofs.Settling.{map_from, map_to}

module _ (P : Text → Type 0) where
  pub all_append : (xs ys : List Text) → AllByRecursion P xs → AllByRecursion P ys → AllByRecursion P (xs ++ ys)
  all_append [] ys first second = second
  all_append (x ∷ xs) ys first second = (first.0, all_append xs ys first.1 second)

  pub all_front : (xs ys : List Text) → AllByRecursion P (xs ++ ys) → AllByRecursion P xs
  all_front [] ys all = tt
  all_front (x ∷ xs) ys all = (all.0, all_front xs ys all.1)

  pub all_back : (xs ys : List Text) → AllByRecursion P (xs ++ ys) → AllByRecursion P ys
  all_back [] ys all = all
  all_back (x ∷ xs) ys all = all_back xs ys all.1

-- No item has the name.
pub none_to : {X : Type 0} (text_of : X → Text) (name : Text) (xs : List X) → All (λ x. text_of x ≢ name) xs → AllByRecursion (λ n. n ≢ name) (map text_of xs)
none_to text_of name xs all = map_to (λ n. n ≢ name) text_of xs all

pub none_from : {X : Type 0} (text_of : X → Text) (name : Text) (xs : List X) → AllByRecursion (λ n. n ≢ name) (map text_of xs) → All (λ x. text_of x ≢ name) xs
none_from text_of name xs all = map_from (λ n. n ≢ name) text_of xs all
