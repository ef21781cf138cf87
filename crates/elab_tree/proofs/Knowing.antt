-- What a scope knows when nets are made elsewhere.
use Rattle.std.proofs.Common.{◌≡◌, ℕ, ◌<◌, ◌≤◌, ltb, Bool, true, false, List, [], ◌∷◌, ◌++◌, length, refl, sym, ◌∙◌, ap, subst, arith, is_some, ltb-true, ltb-false}
use Rattle.std.proofs.lemmas.List.{map-append, append_cancel_left, append_assoc}
use Rattle.design_circuit.specs.Design.{spelling_of}
use Rattle.design_circuit.specs.declared.name.Name.{Name}
use Rattle.design_circuit.specs.declared.name.NamePart.{NamePart}
use Rattle.elab_names.specs.declared.scope.Entry.{Entry}
use Rattle.elab_names.specs.Sets.{has}
use Rattle.elab_names.specs.Scope.{Scope, entry_of}
use Rattle.elab_tree.specs.Sound.{texts_at, part_texts, Within, Under, IsMade, Knows, Grows}

pub made_more : (e : Entry) (n m : ℕ) → n ≤ m → IsMade n e → IsMade m e
made_more e n m more made = omega arith

-- A scope knows new nets where it knows what names of their kind can be.
pub knows_more : (kind : List (List ℕ) → Type 0) (c : Scope) (old new : List Name) → Knows c old → Grows kind old new
    → ((texts : List (List ℕ)) (text : List ℕ) → kind texts → texts ≡ part_texts c.prefix ++ text ∷ [] → is_some (entry_of c text) ≡ true)
    → ((texts : List (List ℕ)) (text next : List ℕ) (rest : List (List ℕ)) → kind texts → texts ≡ part_texts c.prefix ++ text ∷ next ∷ rest → has c.instances text ≡ true)
    → Knows c new
knows_more kind c old new knows g own below = record {
  parts = knows.parts;
  nets = λ name e found. made_more e (length old) (length new) g.longer (knows.nets name e found);
  own = λ net text within is. own_by net text within is (ltb net (length old)) refl;
  below = λ net text next rest within is. below_by net text next rest within is (ltb net (length old)) refl;
}
  where
    own_by : (net : ℕ) (text : List ℕ) → net < length new → texts_at new net ≡ part_texts c.prefix ++ text ∷ [] → (o : Bool) → ltb net (length old) ≡ o → is_some (entry_of c text) ≡ true
    own_by net text within is true at =
        let less = ltb-true net (length old) at in knows.own net text less (ap (λ (n : Name). (spelling_of n).texts) (sym (g.same net less)) ∙ is)
    own_by net text within is false at = own (texts_at new net) text (g.made net (ltb-false net (length old) at) within) is

    below_by : (net : ℕ) (text next : List ℕ) (rest : List (List ℕ)) → net < length new → texts_at new net ≡ part_texts c.prefix ++ text ∷ next ∷ rest → (o : Bool) → ltb net (length old) ≡ o
        → has c.instances text ≡ true
    below_by net text next rest within is true at =
        let less = ltb-true net (length old) at in knows.below net text next rest less (ap (λ (n : Name). (spelling_of n).texts) (sym (g.same net less)) ∙ is)
    below_by net text next rest within is false at = below (texts_at new net) text next rest (g.made net (ltb-false net (length old) at) within) is

-- The texts of a longer prefix.
pub texts_behind : (prefix : List NamePart) (p : NamePart) (rest : List (List ℕ)) → part_texts (prefix ++ p ∷ []) ++ rest ≡ part_texts prefix ++ p.text ∷ rest
texts_behind prefix p rest =
    ap (λ (l : List (List ℕ)). l ++ rest) (map-append (λ (part : NamePart). part.text) prefix (p ∷ [])) ∙ append_assoc (part_texts prefix) (p.text ∷ []) rest

pub two_not_one : (a b c : List ℕ) (rest : List (List ℕ)) → a ∷ b ∷ rest ≡ c ∷ [] → ⊥
two_not_one a b c rest is = absurd cc

pub first_same : (a b : List ℕ) (xs ys : List (List ℕ)) → a ∷ xs ≡ b ∷ ys → a ≡ b
first_same a b xs ys is = cc

-- A module knows what its instance makes.
pub knows_child : (c : Scope) (p : NamePart) (old new : List Name) → Knows c old → has c.instances p.text ≡ true → Grows (Under (c.prefix ++ p ∷ [])) old new → Knows c new
knows_child c p old new knows there g = knows_more _ c old new knows g
    (λ texts text made is. absurd (two_not_one p.text made.0 text made.1 (append_cancel_left (part_texts c.prefix) _ _ (sym (texts_behind c.prefix p _) ∙ sym made.2 ∙ is))))
    (λ texts text next rest made is.
    let same = first_same p.text text _ _ (append_cancel_left (part_texts c.prefix) _ _ (sym (texts_behind c.prefix p _) ∙ sym made.2 ∙ is)) in
    subst (λ (t : List ℕ). has c.instances t ≡ true) same there)

-- What a module makes in itself stands outside of its instance.
pub knows_parent : (c : Scope) (prefix : List NamePart) (p : NamePart) (old new : List Name) → c.prefix ≡ prefix ++ p ∷ [] → Knows c old → Grows (Within prefix) old new → Knows c new
knows_parent c prefix p old new at knows g = knows_more _ c old new knows g
    (λ texts text made is. absurd (apart text [] made.0 (sym made.1 ∙ is)))
    (λ texts text next rest made is. absurd (apart text (next ∷ rest) made.0 (sym made.1 ∙ is)))
  where
    apart : (text : List ℕ) (rest : List (List ℕ)) (own : List ℕ) → part_texts prefix ++ own ∷ [] ≡ part_texts c.prefix ++ text ∷ rest → ⊥
    apart text rest own is =
        two_not_one p.text text own rest (append_cancel_left (part_texts prefix) _ _ (sym (texts_behind prefix p (text ∷ rest)) ∙ sym (ap (λ (q : List NamePart). part_texts q ++ text ∷ rest) at) ∙ sym is))
