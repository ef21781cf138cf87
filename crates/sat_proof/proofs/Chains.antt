-- Chains of entries: one more entry, one more clause.
use Rattle.std.proofs.Common.{◌≡◌, ◌≢◌, ℕ, ◌<◌, ◌≤◌, ◌+◌, ◌-◌, List, [], ◌∷◌, ◌++◌, length, ap, sym, refl, ◌∙◌, ◌⊎◌, inl, inr, set, slice_index_or, arith, subst, take}
use Rattle.std.proofs.lemmas.Bool.{cases_eq, cases_lt}
use Rattle.std.proofs.lemmas.List.{get_or-set_other, get_or-set_same, take_more, take_all, length-append, get_or_append_left}
use Rattle.std.proofs.lemmas.List.Elements.{Contains-push_cases}
use Rattle.std.proofs.Math.Seq.{get_or-append_seam}
use Rattle.std.specs.Prelude.{ℤ, pos}
use Rattle.std.specs.List.{Contains}
use Rattle.sat_proof.specs.Code.{code_of}
use Rattle.sat_proof.specs.Index.{Reaches, here, further, head_of, Lists, IsIndexed, IsLink}
use Rattle.sat_proof.specs.Log.{clause_at}
use Rattle.sat_proof.specs.Status.{literal_at}
use Rattle.sat_proof.specs.declared.index.Index.{Index}

pub clause_before : (clauses : List (List ℤ)) (c : List ℤ) (n : ℕ) → n < length clauses → clause_at (clauses ++ c ∷ []) n ≡ clause_at clauses n
clause_before clauses c n lt = get_or_append_left clauses (c ∷ []) [] n lt

pub clause_last : (clauses : List (List ℤ)) (c : List ℤ) → clause_at (clauses ++ c ∷ []) (length clauses) ≡ c
clause_last clauses c = get_or-append_seam clauses c [] []

pub length_push : (clauses : List (List ℤ)) (c : List ℤ) → length (clauses ++ c ∷ []) ≡ length clauses + 1
length_push clauses c = omega (arith, length-append clauses (c ∷ []))

-- entries past the old ones don't matter to a chain
reaches_kept : (nexts owners : List ℕ) (used next owner n head : ℕ) → ((e : ℕ) → e < used → slice_index_or nexts e 0 ≤ e) → head ≤ used
    → Reaches nexts owners n head → Reaches (set nexts used next) (set owners used owner) n head
reaches_kept nexts owners used next owner n head low le (here h e at own) =
    here h e at (get_or-set_other owners used e owner 0 (omega arith) ∙ own)
reaches_kept nexts owners used next owner n head low le (further h e at rest) =
    let bound : slice_index_or nexts e 0 ≤ e = low e (omega arith) in
    further h e at (subst (Reaches (set nexts used next) (set owners used owner) n) (sym (get_or-set_other nexts used e next 0 (omega arith)))
    (reaches_kept nexts owners used next owner n (slice_index_or nexts e 0) low (omega arith) rest))

-- One more entry: c's literal k joins those that are listed.
module _ (old new : Index) (clauses : List (List ℤ)) (c : List ℤ) (k : ℕ) (x : IsIndexed old (clauses ++ take k c ∷ [])) (lt : k < length c)
    (room : code_of (literal_at c k) < length old.heads.items) (left : old.used < length old.nexts.items)
    (link : IsLink old new (code_of (literal_at c k)) (length clauses)) where
  head_same : head_of new (code_of (literal_at c k)) ≡ old.used + 1
  head_same = ap (λ hs. slice_index_or hs (code_of (literal_at c k)) 0) link.heads ∙ get_or-set_same old.heads.items (code_of (literal_at c k)) (old.used + 1) 0 room

  head_other : (code : ℕ) → code ≢ code_of (literal_at c k) → head_of new code ≡ head_of old code
  head_other code ne = ap (λ hs. slice_index_or hs code 0) link.heads ∙ get_or-set_other old.heads.items (code_of (literal_at c k)) code (old.used + 1) 0 ne

  next_same : slice_index_or new.nexts.items old.used 0 ≡ head_of old (code_of (literal_at c k))
  next_same = ap (λ ns. slice_index_or ns old.used 0) link.nexts ∙ get_or-set_same old.nexts.items old.used (head_of old (code_of (literal_at c k))) 0 left

  next_other : (e : ℕ) → e ≢ old.used → slice_index_or new.nexts.items e 0 ≡ slice_index_or old.nexts.items e 0
  next_other e ne = ap (λ ns. slice_index_or ns e 0) link.nexts ∙ get_or-set_other old.nexts.items old.used e (head_of old (code_of (literal_at c k))) 0 ne

  owner_same : slice_index_or new.owners.items old.used 0 ≡ length clauses
  owner_same = ap (λ os. slice_index_or os old.used 0) link.owners ∙ get_or-set_same old.owners.items old.used (length clauses) 0 (omega (arith, old.owned))

  owner_other : (e : ℕ) → e ≢ old.used → slice_index_or new.owners.items e 0 ≡ slice_index_or old.owners.items e 0
  owner_other e ne = ap (λ os. slice_index_or os e 0) link.owners ∙ get_or-set_other old.owners.items old.used e (length clauses) 0 ne

  still : (n head : ℕ) → head ≤ old.used → Reaches old.nexts.items old.owners.items n head → Reaches new.nexts.items new.owners.items n head
  still n head le r = subst (λ ns. Reaches ns new.owners.items n head) (sym link.nexts)
      (subst (λ os. Reaches (set old.nexts.items old.used (head_of old (code_of (literal_at c k)))) os n head) (sym link.owners)
      (reaches_kept old.nexts.items old.owners.items old.used (head_of old (code_of (literal_at c k))) (length clauses) n head x.nexts le r))

  lists_kept : (code n : ℕ) → Lists old code n → Lists new code n
  lists_kept code n r = elim (cases_eq code (code_of (literal_at c k))) [
    | inl e ↦ subst (λ i. Lists new i n) (sym e) (subst (Reaches new.nexts.items new.owners.items n) (sym head_same)
        (further (old.used + 1) old.used refl (subst (Reaches new.nexts.items new.owners.items n) (sym next_same)
        (still n (head_of old (code_of (literal_at c k))) (x.heads (code_of (literal_at c k))) (subst (λ i. Lists old i n) e r)))))
    | inr ne ↦ subst (Reaches new.nexts.items new.owners.items n) (sym (head_other code ne)) (still n (head_of old code) (x.heads code) r)
  ]

  lists_here : Lists new (code_of (literal_at c k)) (length clauses)
  lists_here = subst (Reaches new.nexts.items new.owners.items (length clauses)) (sym head_same) (here (old.used + 1) old.used refl owner_same)

  listed_more : (n : ℕ) (l : ℤ) → n < length (clauses ++ take (k + 1) c ∷ []) → Contains (clause_at (clauses ++ take (k + 1) c ∷ []) n) l → Lists new (code_of l) n
  listed_more n l n_lt there = elim (cases_lt n (length clauses)) [
    | inl low ↦ lists_kept (code_of l) n (x.listed n l (omega (arith, length_push clauses (take k c)))
        (subst (λ d. Contains d l) (clause_before clauses (take (k + 1) c) n low ∙ sym (clause_before clauses (take k c) n low)) there))
    | inr high ↦
        let last : n ≡ length clauses = omega (arith, length_push clauses (take (k + 1) c)) in
        let in_c : Contains (take (k + 1) c) l = subst (λ d. Contains d l) (ap (clause_at (clauses ++ take (k + 1) c ∷ [])) last ∙ clause_last clauses (take (k + 1) c)) there in
        subst (Lists new (code_of l)) (sym last) (elim (Contains-push_cases (take k c) (literal_at c k) l (subst (λ (d : List ℤ). Contains d l) (take_more c k (pos 0) lt) in_c)) [
          | inl old_l ↦ lists_kept (code_of l) (length clauses) (x.listed (length clauses) l (omega (arith, length_push clauses (take k c)))
              (subst (λ d. Contains d l) (sym (clause_last clauses (take k c))) old_l))
          | inr e ↦ subst (λ i. Lists new (code_of i) (length clauses)) e lists_here
        ])
  ]

  pub linked : IsIndexed new (clauses ++ take (k + 1) c ∷ [])
  linked = record {
    heads = λ code. elim (cases_eq code (code_of (literal_at c k))) [
      | inl e ↦ omega (arith, ap (head_of new) e, head_same, link.used)
      | inr ne ↦ omega (arith, head_other code ne, x.heads code, link.used)
    ];
    nexts = λ e e_lt. elim (cases_eq e old.used) [
      | inl same ↦ omega (arith, ap (λ i. slice_index_or new.nexts.items i 0) same, next_same, x.heads (code_of (literal_at c k)))
      | inr ne ↦ omega (arith, next_other e ne, x.nexts e (omega (arith, link.used)))
    ];
    owned = λ e e_lt. elim (cases_eq e old.used) [
      | inl same ↦ omega (arith, ap (λ i. slice_index_or new.owners.items i 0) same, owner_same, length_push clauses (take (k + 1) c))
      | inr ne ↦ omega (arith, owner_other e ne, x.owned e (omega (arith, link.used)), length_push clauses (take (k + 1) c), length_push clauses (take k c))
    ];
    listed = listed_more;
  }

-- a clause with no literal yet
pub linked_none : (x : Index) (clauses : List (List ℤ)) (c : List ℤ) → IsIndexed x clauses → IsIndexed x (clauses ++ take 0 c ∷ [])
linked_none x clauses c h = record {
  heads = h.heads;
  nexts = h.nexts;
  owned = λ e lt. omega (arith, h.owned e lt, length_push clauses (take 0 c));
  listed = λ n l lt there. elim (cases_lt n (length clauses)) [
    | inl low ↦ h.listed n l low (subst (λ d. Contains d l) (clause_before clauses (take 0 c) n low) there)
    | inr high ↦
        let last : n ≡ length clauses = omega (arith, length_push clauses (take 0 c)) in
        let (j, none, e) = subst (λ d. Contains d l) (ap (clause_at (clauses ++ take 0 c ∷ [])) last ∙ clause_last clauses (take 0 c)) there in absurd (omega arith)
  ];
}

pub linked_all : (x : Index) (clauses : List (List ℤ)) (c : List ℤ) (k : ℕ) → length c ≤ k → IsIndexed x (clauses ++ take k c ∷ []) → IsIndexed x (clauses ++ c ∷ [])
linked_all x clauses c k le h = subst (λ (d : List ℤ). IsIndexed x (clauses ++ d ∷ [])) (take_all k c le) h

-- the chain of an entry that is read goes on
pub reaches_next : (nexts owners : List ℕ) (n at : ℕ) → 0 < at → Reaches nexts owners n at
    → (n ≡ slice_index_or owners (at - 1) 0) ⊎ Reaches nexts owners n (slice_index_or nexts (at - 1) 0)
reaches_next nexts owners n at some (here h e is own) =
    let same : e ≡ at - 1 = omega arith in inl (sym own ∙ ap (λ i. slice_index_or owners i 0) same)
reaches_next nexts owners n at some (further h e is rest) =
    let same : e ≡ at - 1 = omega arith in inr (subst (λ i. Reaches nexts owners n (slice_index_or nexts i 0)) same rest)

pub reaches_none : (nexts owners : List ℕ) (n at : ℕ) → at ≡ 0 → Reaches nexts owners n at → ⊥
reaches_none nexts owners n at none (here h e is own) = omega arith
reaches_none nexts owners n at none (further h e is rest) = omega arith

-- what holds at each clause of a chain that was passed, and at one more
pub passed_more : (nexts owners : List ℕ) (head at owner next : ℕ) (P : ℕ → Type 0) → 0 < at → owner ≡ slice_index_or owners (at - 1) 0
    → next ≡ slice_index_or nexts (at - 1) 0 → ((n : ℕ) → Reaches nexts owners n head × (Reaches nexts owners n at → ⊥) → P n) → P owner
    → (n : ℕ) → Reaches nexts owners n head × (Reaches nexts owners n next → ⊥) → P n
passed_more nexts owners head at owner next P some own is passed this n there = elim (cases_eq n owner) [
  | inl e ↦ subst P (sym e) this
  | inr ne ↦ passed n (
    there.0,
    (λ r. elim (reaches_next nexts owners n at some r) [
      | inl e ↦ ne (e ∙ sym own)
      | inr rest ↦ there.1 (subst (Reaches nexts owners n) (sym is) rest)
    ]),
  )
]
