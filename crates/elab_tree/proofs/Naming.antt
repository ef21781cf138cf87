-- What a scope knows behind a new name, and behind a new instance.
use Rattle.std.proofs.Common.{◌≡◌, ◌⊎◌, inl, inr, ℕ, ◌<◌, ltb, Bool, true, false, true≢false, cond, ◌||◌, List, [], ◌∷◌, ◌++◌, length, refl, sym, ◌∙◌, ap, subst, Option, Some, None, is_some, bytes_eq, ltb-true, ltb-false}
use Rattle.std.specs.Map.{lookup}
use Rattle.std.proofs.lemmas.List.{append_cancel_left}
use Rattle.std.proofs.lemmas.List.Folds.{list_any-append}
use Rattle.std.proofs.lemmas.Slice.Eq.{bytes_eq-Decides}
use Rattle.netlist_grammar.specs.Whole.{IsName}
use Rattle.netlist_grammar.specs.declared.tree.Word.{Word}
use Rattle.design_circuit.specs.Design.{spelling_of}
use Rattle.design_circuit.specs.declared.name.Name.{Name}
use Rattle.elab_nets.specs.State.{part_of}
use Rattle.elab_names.specs.declared.scope.Entry.{Entry}
use Rattle.elab_names.specs.Sets.{has}
use Rattle.elab_names.specs.Scope.{Scope, scope_of, entry_of, with_name}
use Rattle.elab_tree.specs.Sound.{texts_at, part_texts, IsMade, Knows, Grows}
use Rattle.elab_tree.proofs.Knowing.{texts_behind, two_not_one, first_same, made_more}
use Rattle.elab_tree.proofs.Nets.{IsNew, parts_more}

-- ---- a map with a name more

bytes_same : (xs : List ℕ) → bytes_eq xs xs ≡ true
bytes_same xs = (bytes_eq-Decides xs xs).1 refl

found_by : (b : Bool) (y x e : Entry) (r s : Option Entry) → (s ≡ Some e → (r ≡ Some e) ⊎ (x ≡ e)) → cond b (Some y) s ≡ Some e → (cond b (Some y) r ≡ Some e) ⊎ (x ≡ e)
found_by true y x e r s rest is = inl is
found_by false y x e r s rest is = rest is

last_by : (b : Bool) (x e : Entry) → cond b (Some x) None ≡ Some e → x ≡ e
last_by true x e is = cc
last_by false x e is = absurd cc

-- What is found is there already, or the new one.
pub found_in : (names : List (List ℕ × Entry)) (name : List ℕ) (x : Entry) (q : List ℕ) (e : Entry) → lookup (bytes_eq q) (names ++ (name, x) ∷ []) ≡ Some e → (lookup (bytes_eq q) names ≡ Some e) ⊎ (x ≡ e)
found_in [] name x q e is = inr (last_by (bytes_eq q name) x e is)
found_in (y ∷ ys) name x q e is = found_by (bytes_eq q y.0) y.1 x e _ _ (found_in ys name x q e) is

kept_by : (b : Bool) (y : Entry) (r s : Option Entry) → (is_some r ≡ true → is_some s ≡ true) → is_some (cond b (Some y) r) ≡ true → is_some (cond b (Some y) s) ≡ true
kept_by true y r s rest is = refl
kept_by false y r s rest is = rest is

pub known_more : (names : List (List ℕ × Entry)) (name : List ℕ) (x : Entry) (q : List ℕ) → is_some (lookup (bytes_eq q) names) ≡ true → is_some (lookup (bytes_eq q) (names ++ (name, x) ∷ [])) ≡ true
known_more [] name x q is = absurd (true≢false (sym is))
known_more (y ∷ ys) name x q is = kept_by (bytes_eq q y.0) y.1 _ _ (known_more ys name x q) is

some_by : (b : Bool) (y : Entry) (s : Option Entry) → is_some s ≡ true → is_some (cond b (Some y) s) ≡ true
some_by true y s is = refl
some_by false y s is = is

pub known_new : (names : List (List ℕ × Entry)) (name : List ℕ) (x : Entry) → is_some (lookup (bytes_eq name) (names ++ (name, x) ∷ [])) ≡ true
known_new [] name x = ap (λ (b : Bool). is_some (cond b (Some x) None)) (bytes_same name)
known_new (y ∷ ys) name x = some_by (bytes_eq name y.0) y.1 _ (known_new ys name x)

-- A name that the scope doesn't know is new among the nets.
pub new_of : (c : Scope) (w : Word) (names : List Name) → Knows c names → entry_of c w.text ≡ None → IsNew c.prefix w names
new_of c w names knows none = record { free = λ net within is. true≢false (sym (knows.own net w.text within is) ∙ ap is_some none) }

-- ---- a name more

-- The names of new nets are this word of the module.
abbrev pub Is : List (List ℕ) → List (List ℕ) → Type 0
Is name texts = texts ≡ name

pub knows_named : (c : Scope) (name : List ℕ) (e : Entry) (old new : List Name) → Knows c old → Grows (Is (part_texts c.prefix ++ name ∷ [])) old new → IsMade (length new) e → Knows (with_name name e c) new
knows_named c name e old new knows g made = record {
  parts = knows.parts;
  nets = λ q f found. nets_by f q (found_in c.names name e q f found) (λ is. knows.nets q f is);
  own = λ net text within is. own_by net text within is (ltb net (length old)) refl;
  below = λ net text next rest within is. below_by net text next rest within is (ltb net (length old)) refl;
}
  where
    nets_by : (f : Entry) (q : List ℕ) → (entry_of c q ≡ Some f) ⊎ (e ≡ f) → (entry_of c q ≡ Some f → IsMade (length old) f) → IsMade (length new) f
    nets_by f q (inl is) known = made_more f (length old) (length new) g.longer (known is)
    nets_by f q (inr same) known = subst (IsMade (length new)) same made

    own_by : (net : ℕ) (text : List ℕ) → net < length new → texts_at new net ≡ part_texts c.prefix ++ text ∷ [] → (o : Bool) → ltb net (length old) ≡ o → is_some (entry_of (with_name name e c) text) ≡ true
    own_by net text within is true at =
        let less = ltb-true net (length old) at in
        known_more c.names name e text (knows.own net text less (ap (λ (n : Name). (spelling_of n).texts) (sym (g.same net less)) ∙ is))
    own_by net text within is false at =
        let same = first_same name text [] [] (append_cancel_left (part_texts c.prefix) _ _ (sym (g.made net (ltb-false net (length old) at) within) ∙ is)) in
        subst (λ (t : List ℕ). is_some (entry_of (with_name name e c) t) ≡ true) same (known_new c.names name e)

    below_by : (net : ℕ) (text next : List ℕ) (rest : List (List ℕ)) → net < length new → texts_at new net ≡ part_texts c.prefix ++ text ∷ next ∷ rest → (o : Bool) → ltb net (length old) ≡ o
        → has c.instances text ≡ true
    below_by net text next rest within is true at =
        let less = ltb-true net (length old) at in knows.below net text next rest less (ap (λ (n : Name). (spelling_of n).texts) (sym (g.same net less)) ∙ is)
    below_by net text next rest within is false at =
        absurd (two_not_one text next name rest (append_cancel_left (part_texts c.prefix) _ _ (sym is ∙ g.made net (ltb-false net (length old) at) within)))

-- ---- an instance more

abbrev pub with_instance : List ℕ → Scope → Scope
with_instance name c = record c { instances = c.instances ++ name ∷ [] }

or_true : (b c : Bool) → b ≡ true → (b || c) ≡ true
or_true b c is = ap (λ (x : Bool). x || c) is

true_or : (b c : Bool) → c ≡ true → (b || c) ≡ true
true_or true c is = refl
true_or false c is = is

pub has_more : (names : List (List ℕ)) (name q : List ℕ) → has names q ≡ true → has (names ++ name ∷ []) q ≡ true
has_more names name q is = list_any-append (bytes_eq q) names (name ∷ []) ∙ or_true _ _ is

pub has_last : (names : List (List ℕ)) (name : List ℕ) → has (names ++ name ∷ []) name ≡ true
has_last names name = list_any-append (bytes_eq name) names (name ∷ []) ∙ true_or _ _ (ap (λ (b : Bool). b || false) (bytes_same name))

pub knows_instance : (c : Scope) (name : List ℕ) (names : List Name) → Knows c names → Knows (with_instance name c) names
knows_instance c name names knows = record { parts = knows.parts; nets = knows.nets; own = knows.own; below = λ net text next rest within is. has_more c.instances name text (knows.below net text next rest within is) }

-- The module of a new instance knows nothing yet, and nothing stands in it.
pub knows_fresh : (c : Scope) (w : Word) (names : List Name) → Knows c names → IsName w → has c.instances w.text ≡ false → Knows (scope_of (c.prefix ++ part_of w ∷ []) [] []) names
knows_fresh c w names knows name new = record {
  parts = parts_more c.prefix w knows.parts name;
  nets = λ q e found. absurd (none_found e found);
  own = λ net text within is. absurd (none net text [] within is);
  below = λ net text next rest within is. absurd (none net text (next ∷ rest) within is);
}
  where
    none_found : (e : Entry) → None ≡ Some e → ⊥
    none_found e is = cc

    none : (net : ℕ) (text : List ℕ) (rest : List (List ℕ)) → net < length names → texts_at names net ≡ part_texts (c.prefix ++ part_of w ∷ []) ++ text ∷ rest → ⊥
    none net text rest within is = true≢false (sym (knows.below net w.text text rest within (is ∙ texts_behind c.prefix (part_of w) (text ∷ rest))) ∙ new)
