-- A set of names means the list of them.
use Rattle.std.proofs.Common.{◌≡◌, ℕ, Bool, true, false, List, [], ◌∷◌, ◌++◌, refl, sym, ◌∙◌, ap, bytes_eq, Bor, if◌then◌else◌, map, ◌||◌, not}
use Rattle.std.specs.List.{list_any}
use Rattle.std.proofs.lemmas.Bool.{not-false}
use Rattle.std.proofs.lemmas.Slice.Eq.{bytes_eq-Decides}
use Rattle.netlist_grammar.specs.declared.tree.Word.{Word}
use Rattle.elab_names.specs.Sets.{has, is_among, HasNames}

-- the names of the keys
pub any_is : (keys : List (Bor (List ℕ))) (name : List ℕ) → has (map (λ (k : Bor (List ℕ)). k.now) keys) name ≡ list_any (λ (k : Bor (List ℕ)). bytes_eq name k.now) keys
any_is [] name = refl
any_is (k ∷ ks) name = ap (λ (b : Bool). bytes_eq name k.now || b) (any_is ks name)

now_append : (keys : List (Bor (List ℕ))) (k : Bor (List ℕ)) → map (λ (k : Bor (List ℕ)). k.now) (keys ++ k ∷ []) ≡ map (λ (k : Bor (List ℕ)). k.now) keys ++ k.now ∷ []
now_append [] k = refl
now_append (x ∷ xs) k = ap (λ (l : List (List ℕ)). x.now ∷ l) (now_append xs k)

-- what an insertion into the keys does to the names
pub added_is : (keys more : List (Bor (List ℕ))) (k : Bor (List ℕ)) (there fresh : Bool) → list_any (λ (x : Bor (List ℕ)). bytes_eq k.now x.now) keys ≡ there → fresh ≡ not there → more ≡ (if there then keys else keys ++ k ∷ [])
    → map (λ (x : Bor (List ℕ)). x.now) more ≡ (if fresh then map (λ (x : Bor (List ℕ)). x.now) keys ++ k.now ∷ [] else map (λ (x : Bor (List ℕ)). x.now) keys)
added_is keys more k true fresh is new grown = rw new (ap (map (λ (x : Bor (List ℕ)). x.now)) grown)
added_is keys more k false fresh is new grown = rw new (ap (map (λ (x : Bor (List ℕ)). x.now)) grown ∙ now_append keys k)

pub bytes_same : (a b : List ℕ) → bytes_eq a b ≡ true → a ≡ b
bytes_same a b h = (bytes_eq-Decides a b).0 h

pub or_false : (b : Bool) → (b || false) ≡ b
or_false true = refl
or_false false = refl

pub or_assoc : (a b c : Bool) → ((a || b) || c) ≡ (a || (b || c))
or_assoc true b c = refl
or_assoc false b c = refl

any_push : {X : Type 0} (p : X → Bool) (xs : List X) (x : X) → list_any p (xs ++ x ∷ []) ≡ (list_any p xs || p x)
any_push p [] x = or_false (p x)
any_push p (y ∷ ys) x = ap (λ (b : Bool). p y || b) (any_push p ys x) ∙ sym (or_assoc (p y) (list_any p ys) (p x))

-- a name that is there already adds nothing
again : (b : Bool) (names : List (List ℕ)) (name text : List ℕ) → bytes_eq name text ≡ b → has names text ≡ true → has names name ≡ (has names name || b)
again true names name text is h = (
    let same : name ≡ text = bytes_same name text is in
    let all : has names name ≡ true = ap (λ (l : List ℕ). has names l) same ∙ h in
    rw all refl)
again false names name text is h = sym (or_false (has names name))

module _ (names : List (List ℕ)) (before : List Word) (w : Word) (more : List (List ℕ)) (had : HasNames names before) where
  more_new : (name : List ℕ) → more ≡ names ++ w.text ∷ [] → has more name ≡ is_among (before ++ w ∷ []) name
  more_new name grown =
      ap (λ (l : List (List ℕ)). has l name) grown ∙ any_push (bytes_eq name) names w.text ∙ ap (λ (b : Bool). b || bytes_eq name w.text) (had.same name)
      ∙ sym (any_push (λ (v : Word). bytes_eq name v.text) before w)

  more_old : (name : List ℕ) → has names w.text ≡ true → more ≡ names → has more name ≡ is_among (before ++ w ∷ []) name
  more_old name there grown =
      ap (λ (l : List (List ℕ)). has l name) grown ∙ again (bytes_eq name w.text) names name w.text refl there ∙ ap (λ (b : Bool). b || bytes_eq name w.text) (had.same name)
      ∙ sym (any_push (λ (v : Word). bytes_eq name v.text) before w)

  -- one word more
  pub has_more : (fresh : Bool) → fresh ≡ not (has names w.text) → more ≡ (if fresh then names ++ w.text ∷ [] else names) → HasNames more (before ++ w ∷ [])
  has_more true new grown = record { same = λ name. more_new name grown }
  has_more false new grown = record { same = λ name. more_old name (not-false (has names w.text) (sym new)) grown }
