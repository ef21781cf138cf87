-- The map of the definitions' names has the first definition of each.
use Rattle.std.proofs.Common.{◌≡◌, ℕ, ◌+◌, ◌<◌, Bool, true, false, cond, List, [], ◌∷◌, ◌++◌, length, Option, Some, refl, sym, ap, ◌∙◌, bytes_eq, Bor, if◌then◌else◌, is_some, arith, take, get_or, subst, IfSome}
use Rattle.std.proofs.lemmas.List.{length-take-le, take_more}
use Rattle.std.specs.Map.{lookup}
use Rattle.std.specs.Option.{option_or}
use Rattle.indexmap.specs.IndexMap.{insert_entry}
use Rattle.netlist_trim.specs.Definition.{Defined}
use Rattle.netlist_trim.specs.Library.{numbers_in, with_number, Finds}
use Rattle.netlist_trim.specs.Needed.{first_named}
use Rattle.base_scan.proofs.FirstNumbers.{number_more, only, position_push, position_within}

-- ---- the map

pub found_is : (es : List (Bor (List ℕ) × ℕ)) (name : List ℕ) → lookup (bytes_eq name) (numbers_in es) ≡ lookup (λ (k : Bor (List ℕ)). bytes_eq name k.now) es
found_is [] name = refl
found_is (e ∷ es) name = ap (cond (bytes_eq name e.0.now) (Some e.1)) (found_is es name)

inserted_by : (b : Bool) (e : Bor (List ℕ) × ℕ) (k : Bor (List ℕ)) (v : ℕ) (es more : List (Bor (List ℕ) × ℕ)) (r : Option ℕ)
    → is_some (cond b (Some e.1) r) ≡ false → (is_some r ≡ false → numbers_in more ≡ numbers_in es ++ (k.now, v) ∷ []) → numbers_in (if b then (e.0, v) ∷ es else (e ∷ more)) ≡ numbers_in (e ∷ es) ++ (k.now, v) ∷ []
inserted_by true e k v es more r absent rest = absurd cc
inserted_by false e k v es more r absent rest = ap (λ (l : List (List ℕ × ℕ)). (e.0.now, e.1) ∷ l) (rest absent)

pub inserted_is : (es : List (Bor (List ℕ) × ℕ)) (k : Bor (List ℕ)) (v : ℕ) → is_some (lookup (bytes_eq k.now) (numbers_in es)) ≡ false
    → numbers_in (insert_entry (λ (a b : Bor (List ℕ)). bytes_eq a.now b.now) es k v) ≡ numbers_in es ++ (k.now, v) ∷ []
inserted_is [] k v absent = refl
inserted_is (e ∷ es) k v absent = inserted_by (bytes_eq k.now e.0.now) e k v es _ (lookup (bytes_eq k.now) (numbers_in es)) absent (inserted_is es k v)

-- ---- one more

named_more : (ds : List Defined) (d : Defined) (q : List ℕ)
    → first_named (ds ++ d ∷ []) q ≡ option_or (first_named ds q) (only (bytes_eq q d.name) (length ds))
named_more ds d q = position_push (λ (e : Defined). bytes_eq q e.name) ds d

pub finds_nothing : Finds [] []
finds_nothing = record { same = λ name. refl }

finds_more : (numbers more : List (List ℕ × ℕ)) (ds : List Defined) (d : Defined) → more ≡ with_number d.name (length ds) numbers
    → Finds numbers ds → Finds more (ds ++ d ∷ [])
finds_more numbers more ds d is finds = record {
  same = λ q.
      ap (lookup (bytes_eq q)) is ∙ number_more numbers q d.name (length ds)
      ∙ ap (λ (o : Option ℕ). option_or o (only (bytes_eq q d.name) (length ds))) (finds.same q) ∙ sym (named_more ds d q);
}

pub finds_more_at : (ds : List Defined) (k : ℕ) (d : Defined) (numbers more : List (List ℕ × ℕ)) (name : List ℕ) → k < length ds → d ≡ get_or ds k d → name ≡ d.name
    → more ≡ with_number name k numbers → Finds numbers (take k ds) → Finds more (take (k + 1) ds)
finds_more_at ds k d numbers more name within is named grown finds =
    let all : take (k + 1) ds ≡ take k ds ++ d ∷ [] = take_more ds k d within ∙ ap (λ (x : Defined). take k ds ++ x ∷ []) (sym is) in
    let long : length (take k ds) ≡ k = length-take-le k ds (omega arith) in
    let same : more ≡ with_number d.name (length (take k ds)) numbers =
    grown ∙ ap (λ (t : List ℕ). with_number t k numbers) named ∙ ap (λ (n : ℕ). with_number d.name n numbers) (sym long) in
    subst (λ (l : List Defined). Finds more l) (sym all) (finds_more numbers more (take k ds) d same finds)

-- ---- what an addition does

-- ---- a number is one of a definition

pub found_there : (ds : List Defined) (name : List ℕ) (found : Option ℕ) (numbers : List (List ℕ × ℕ)) → Finds numbers ds → found ≡ lookup (bytes_eq name) numbers
    → IfSome found (λ (k : ℕ). k < length ds)
found_there ds name found numbers finds is =
    subst (λ (o : Option ℕ). IfSome o (λ (k : ℕ). k < length ds)) (sym (is ∙ finds.same name)) (position_within (λ (d : Defined). bytes_eq name d.name) ds)
