-- Lists of items that grow by a bit.
use Rattle.std.proofs.Common.{◌≡◌, Bool, true, false, List, [], ◌∷◌, ◌++◌, cond, map, ap, ◌∙◌, append_assoc, append-nil}
use Rattle.std.specs.List.{filter}

-- What a bit adds is no longer left.
pub items_more : {A B : Type 0} (item : A → B) (test : A → Bool) (old new all : List B) (bit : A) (left rest : List A)
    → left ≡ bit ∷ rest → old ++ map item (filter test left) ≡ all → new ≡ old ++ map item (filter test (bit ∷ []))
    → new ++ map item (filter test rest) ≡ all
items_more {B = B} item test old new all bit left rest is before grown = rw grown (by (test bit) (rw is at before))
  where
    by : (b : Bool) → old ++ map item (cond b (bit ∷ filter test rest) (filter test rest)) ≡ all
        → (old ++ map item (cond b (bit ∷ []) [])) ++ map item (filter test rest) ≡ all
    by true h = append_assoc old (item bit ∷ []) (map item (filter test rest)) ∙ h
    by false h = ap (λ (l : List B). l ++ map item (filter test rest)) (append-nil old) ∙ h
