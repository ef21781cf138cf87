-- The map of a scope means the list of its names.
use Rattle.std.proofs.Common.{◌≡◌, ℕ, ◌+◌, ◌≤◌, ◌^◌, Bool, true, false, cond, List, [], ◌∷◌, ◌++◌, Option, Some, None, refl, sym, ap, subst, bytes_eq, Bor, if◌then◌else◌, IfSome}
use Rattle.std.specs.Map.{lookup}
use Rattle.indexmap.specs.IndexMap.{insert_entry}
use Rattle.elab_names.specs.declared.scope.Entry.{Entry}
use Rattle.elab_nets.specs.State.{net_count}
use Rattle.elab_names.specs.NameMap.{names_in, entry_from, entry_after, names_from}

pub found_is : (es : List (Bor (List ℕ) × Entry)) (name : List ℕ) → lookup (bytes_eq name) (names_in es) ≡ lookup (λ (k : Bor (List ℕ)). bytes_eq name k.now) es
found_is [] name = refl
found_is (e ∷ es) name = ap (cond (bytes_eq name e.0.now) (Some e.1)) (found_is es name)

inserted_by : (b : Bool) (e : Bor (List ℕ) × Entry) (k : Bor (List ℕ)) (v : Entry) (es more : List (Bor (List ℕ) × Entry)) (r : Option Entry)
    → cond b (Some e.1) r ≡ None → (r ≡ None → names_in more ≡ names_in es ++ (k.now, v) ∷ []) → names_in (if b then (e.0, v) ∷ es else (e ∷ more)) ≡ names_in (e ∷ es) ++ (k.now, v) ∷ []
inserted_by true e k v es more r absent rest = cc
inserted_by false e k v es more r absent rest = ap (λ (l : List (List ℕ × Entry)). (e.0.now, e.1) ∷ l) (rest absent)

pub inserted_is : (es : List (Bor (List ℕ) × Entry)) (k : Bor (List ℕ)) (v : Entry) → lookup (bytes_eq k.now) (names_in es) ≡ None
    → names_in (insert_entry (λ (a b : Bor (List ℕ)). bytes_eq a.now b.now) es k v) ≡ names_in es ++ (k.now, v) ∷ []
inserted_is [] k v absent = refl
inserted_is (e ∷ es) k v absent = inserted_by (bytes_eq k.now e.0.now) e k v es _ (lookup (bytes_eq k.now) (names_in es)) absent (inserted_is es k v)

unknown_by : (b : Bool) (x : Entry) (r : Option Entry) → cond b (Some x) r ≡ None → r ≡ None
unknown_by true x r is = absurd cc
unknown_by false x r is = is

-- A name that isn't known in two maps isn't in the second.
pub unknown_behind : (names more : List (List ℕ × Entry)) (name : List ℕ) → lookup (bytes_eq name) (names ++ more) ≡ None → lookup (bytes_eq name) more ≡ None
unknown_behind [] more name is = is
unknown_behind (n ∷ names) more name is = unknown_behind names more name (unknown_by (bytes_eq name n.0) n.1 _ is)

-- the nets of a name are below 2^20
abbrev pub IsFew : Entry → Type 0
IsFew e = e.base + net_count e.what e.range ≤ 2 ^ 20

-- and so for each name
abbrev pub AllFew : List (List ℕ × Entry) → Type 0
AllFew names = (name : List ℕ) (e : Entry) → lookup (bytes_eq name) names ≡ Some e → IsFew e

each_by : (P : Entry → Type 0) (b : Bool) (first : Entry) (s : Option Entry) (e : Entry) → P first → (s ≡ Some e → P e) → cond b (Some first) s ≡ Some e → P e
each_by P true first s e fits rest is = let same : first ≡ e = cc in subst P same fits
each_by P false first s e fits rest is = rest is

each_step : (P : Entry → Type 0) (b : Bool) (first : Entry) (r s : Option Entry) (e : Entry)
    → (((f : Entry) → r ≡ Some f → P f) → s ≡ Some e → P e)
    → ((f : Entry) → cond b (Some first) r ≡ Some f → P f) → cond b (Some first) s ≡ Some e → P e
each_step P true first r s e rest all is = all e is
each_step P false first r s e rest all is = rest all is

-- What holds of each entry holds behind one more.
pub each_more : (P : Entry → Type 0) (names : List (List ℕ × Entry)) (name : List ℕ) (entry : Entry) (q : List ℕ) (e : Entry)
    → ((f : Entry) → lookup (bytes_eq q) names ≡ Some f → P f) → P entry
    → lookup (bytes_eq q) (names ++ (name, entry) ∷ []) ≡ Some e → P e
each_more P [] name entry q e all fits is = each_by P (bytes_eq q name) entry None e fits (λ (n : None ≡ Some e). absurd cc) is
each_more P (n ∷ names) name entry q e all fits is = each_step P (bytes_eq q n.0) n.1 _ _ e (λ (more : (f : Entry) → lookup (bytes_eq q) names ≡ Some f → P f). each_more P names name entry q e more fits) all is

pub few_found : (found : Option Entry) (names : List (List ℕ × Entry)) (name : List ℕ) → AllFew names → found ≡ lookup (bytes_eq name) names → IfSome found (λ (e : Entry). IsFew e)
few_found None names name few is = tt
few_found (Some e) names name few is = few name e (sym is)

-- ---- names behind names

known_by : (b : Bool) (x e : Entry) (r q : Option Entry) → (r ≡ Some e → q ≡ Some e) → cond b (Some x) r ≡ Some e → cond b (Some x) q ≡ Some e
known_by true x e r q rest is = is
known_by false x e r q rest is = rest is

-- What is known stays known where other names come behind.
pub known_before : (names more : List (List ℕ × Entry)) (name : List ℕ) (e : Entry) → lookup (bytes_eq name) names ≡ Some e → lookup (bytes_eq name) (names ++ more) ≡ Some e
known_before [] more name e is = absurd cc
known_before (n ∷ names) more name e is = known_by (bytes_eq name n.0) n.1 e _ _ (known_before names more name e) is

next_by : (b : Bool) (x : Entry) (r q s : Option Entry) → (r ≡ None → q ≡ s) → cond b (Some x) r ≡ None → cond b (Some x) q ≡ s
next_by true x r q s rest is = absurd cc
next_by false x r q s rest is = rest is

-- A name that isn't known is looked for among the others.
pub known_behind : (names more : List (List ℕ × Entry)) (name : List ℕ) → lookup (bytes_eq name) names ≡ None → lookup (bytes_eq name) (names ++ more) ≡ lookup (bytes_eq name) more
known_behind [] more name is = refl
known_behind (n ∷ names) more name is = next_by (bytes_eq name n.0) n.1 _ _ _ (known_behind names more name) is

-- ---- names with their nets behind so many

cond_after : (b : Bool) (base : ℕ) (x : Entry) (r q : Option Entry) → q ≡ entry_after base r → cond b (Some (entry_from base x)) q ≡ entry_after base (cond b (Some x) r)
cond_after true base x r q is = refl
cond_after false base x r q is = is

pub found_from : (base : ℕ) (name : List ℕ) (ns : List (List ℕ × Entry)) → lookup (bytes_eq name) (names_from base ns) ≡ entry_after base (lookup (bytes_eq name) ns)
found_from base name [] = refl
found_from base name (n ∷ ns) = cond_after (bytes_eq name n.0) base n.1 (lookup (bytes_eq name) ns) _ (found_from base name ns)
