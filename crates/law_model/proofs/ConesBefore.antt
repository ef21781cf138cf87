-- Cones, sources and queries depend on the certain values before their place alone.
use Rattle.std.proofs.Common.{◌≡◌, ℕ, zero, suc, ◌+◌, ◌<◌, ◌≤◌, ◌&&◌, not, Bool, true, false, List, [], ◌∷◌, ◌++◌, length, refl, sym, ap, ◌∙◌, arith, subst, inl, inr, ⊎_elim, Contains}
use Rattle.std.specs.Prelude.{ℤ}
use Rattle.std.proofs.Math.Path.{fun_ext}
use Rattle.design_cell.specs.declared.value.Value.{Value}
use Rattle.design_circuit.specs.Job.{Job, places_of}
use Rattle.design_circuit.specs.Fits.{Fits}
use Rattle.design_circuit.specs.Filling.{bit_of}
use Rattle.design_circuit.specs.Order.{position_of}
use Rattle.design_circuit.specs.Rule.{rule}
use Rattle.design_circuit.specs.World.{decided}
use Rattle.design_circuit.proofs.Rules.{AgreeBelow, rule_local, arguments_certain}
use Rattle.design_circuit.proofs.Worlds.{world_bit_local}
use Rattle.sat_proof.specs.declared.clause.Cnf.{Cnf}
use Rattle.law_model.specs.Places.{among, places_where}
use Rattle.law_model.specs.Assignment.{with_bit, assigned, for_every}
use Rattle.law_model.specs.Class.{class_of, flipped}
use Rattle.law_model.specs.Root.{Root, root_of}
use Rattle.law_model.specs.Cone.{is_carried, reads_filling, are_alike, is_essential, essentials, supports_by, supports, cone_by, cone_at, cones, in_cone, cone, is_source, sources, only, table, denied_value}
use Rattle.law_model.specs.Query.{is_variable, variables, signed, literal, IsChoice, IsClause, IsConeClause, denial, IsQueryClause, IsQuery}
use Rattle.law_model.proofs.Assignments.{every_same}
use Rattle.law_model.proofs.Cones.{cone_within}
use Rattle.law_model.proofs.EssentialArguments.{with_agrees}
use Rattle.law_model.proofs.ClassesBefore.{class_local, never_unknown_same}
use Rattle.law_model.proofs.PlacesWhere.{in_picked, picked_same}
use Rattle.law_model.proofs.Roots.{root_local}

essential_same : (j : Job) → Fits j → (c d : ℕ → Value) (place k : ℕ) → place < places_of j → AgreeBelow c d place
    → k < place → is_essential j c place k ≡ is_essential j d place k
essential_same j fits c d place k within agree less =
    let every : for_every j c place (λ bits. are_alike (rule j c (with_bit k false bits) place)
    (rule j c (with_bit k true bits) place)) ≡ for_every j d place
    (λ bits. are_alike (rule j d (with_bit k false bits) place) (rule j d (with_bit k true bits) place)) =
    every_same j c d place (λ bits. are_alike (rule j c (with_bit k false bits) place)
    (rule j c (with_bit k true bits) place)) (λ bits. are_alike (rule j d (with_bit k false bits) place)
    (rule j d (with_bit k true bits) place)) (arguments_certain j fits c d place within agree)
    (λ bits. (rw (with_same false bits, with_same true bits) refl)) in
    rw (every, agree k less) refl
  where
    with_same : (bit : Bool) (bits : ℕ → Bool)
        → rule j c (with_bit k bit (assigned c bits)) place ≡ rule j d (with_bit k bit (assigned d bits)) place
    with_same bit bits = rule_local j fits c d (with_bit k bit (assigned c bits)) (with_bit k bit (assigned d bits))
        place within agree (λ i low. with_agrees k bit (assigned c bits) (assigned d bits) i
        (ap (λ v. decided v (bits i)) (agree i low)))

pub essentials_local : (j : Job) → Fits j → (c d : ℕ → Value) (place : ℕ) → place < places_of j → AgreeBelow c d place
    → essentials j c place ≡ essentials j d place
unfolding essentials
essentials_local j fits c d place within agree = picked_same (is_essential j c place) (is_essential j d place) place
    (λ k less. essential_same j fits c d place k within agree less)

pub table_local : (j : Job) → Fits j → (c d : ℕ → Value) (place : ℕ) → place < places_of j → AgreeBelow c d place
    → table j c place ≡ table j d place
unfolding table
table_local j fits c d place within agree =
    fun_ext (λ bits. ap (λ xs. rule j c (assigned c (only xs bits)) place)
    (essentials_local j fits c d place within agree)
    ∙ rule_local j fits c d (assigned c (only (essentials j d place) bits))
    (assigned d (only (essentials j d place) bits)) place within agree
    (λ i low. ap (λ v. decided v (only (essentials j d place) bits i)) (agree i low)))

pub supports_local : (j : Job) → Fits j → (c d : ℕ → Value) (place : ℕ) → place < places_of j → AgreeBelow c d place
    → supports j c place ≡ supports j d place
supports_local j fits c d place within agree = ap (λ xs. supports_by xs (class_of j c place))
    (essentials_local j fits c d place within agree)
    ∙ ap (supports_by (essentials j d place)) (class_local j fits c d place within agree)

cones_local : (j : Job) → Fits j → (c d : ℕ → Value) (n : ℕ) → n ≤ places_of j → ((k : ℕ) → suc k < n → c k ≡ d k)
    → cones j c n ≡ cones j d n
unfolding cones
cones_local j fits c d zero within agree = refl
cones_local j fits c d (suc n) within agree =
    let ih = cones_local j fits c d n (omega arith) (λ k less. agree k (omega arith)) in
    let same = supports_local j fits c d n (omega arith) (λ k less. agree k (omega arith)) in
    ap (λ earlier. earlier ++ cone_by (cone_at earlier) n (supports j c n) ∷ []) ih
    ∙ ap (λ xs. cones j d n ++ cone_by (cone_at (cones j d n)) n xs ∷ []) same

-- Whether a place is in the cone.
pub in_cone_local : (j : Job) → Fits j → (c d : ℕ → Value) (root : ℕ) → root < places_of j → AgreeBelow c d root
    → in_cone j c root ≡ in_cone j d root
in_cone_local j fits c d root within agree = ap (λ cones. cone_at cones root)
    (cones_local j fits c d (root + 1) (omega arith) (λ k less. agree k (omega arith)))

pub cone_local : (j : Job) → Fits j → (c d : ℕ → Value) (root : ℕ) → root < places_of j → AgreeBelow c d root
    → cone j c root ≡ cone j d root
cone_local j fits c d root within agree = ap (λ test. places_where test (root + 1))
    (in_cone_local j fits c d root within agree)

both_same : (a b x y : Bool) → a ≡ b → x ≡ y → a && x ≡ b && y
both_same a b x y first second = rw (first, second) refl

born_same : (j : Job) → Fits j → (c d : ℕ → Value) (k : ℕ) → k < places_of j → AgreeBelow c d k
    → reads_filling j c k ≡ reads_filling j d k
born_same j fits c d k within agree = both_same _ _ _ _
    (ap (λ class. not (is_carried class)) (class_local j fits c d k within agree))
    (ap not (never_unknown_same j fits c d k within agree))

pub sources_local : (j : Job) → Fits j → (c d : ℕ → Value) (root : ℕ) → root < places_of j → AgreeBelow c d root
    → sources j c root ≡ sources j d root
sources_local j fits c d root within agree =
    picked_same (is_source j c root) (is_source j d root) (root + 1)
    (λ k less. both_same _ _ _ _ (ap (λ cone. cone k) (in_cone_local j fits c d root within agree))
    (born_same j fits c d k (omega arith) (λ i low. agree i (omega arith))))

pub variables_local : (j : Job) → Fits j → (c d : ℕ → Value) (root : ℕ) → root < places_of j → AgreeBelow c d root
    → variables j c root ≡ variables j d root
unfolding variables
variables_local j fits c d root within agree =
    picked_same (is_variable j c root) (is_variable j d root) (root + 1)
    (λ k less. both_same _ _ _ _ (ap (λ cone. cone k) (in_cone_local j fits c d root within agree))
    (ap (λ class. not (is_carried class)) (class_local j fits c d k (omega arith)
    (λ i low. agree i (omega arith)))))

literal_local : (j : Job) → Fits j → (c d : ℕ → Value) (root k : ℕ) → root < places_of j → AgreeBelow c d root
    → k ≤ root → (bit : Bool) → literal j c root k bit ≡ literal j d root k bit
unfolding literal
literal_local j fits c d root k within agree low bit =
    ap (λ vs. signed (position_of vs (root_of j c k).place) (flipped (root_of j c k).inverted bit))
    (variables_local j fits c d root within agree)
    ∙ ap (λ (r : Root). signed (position_of (variables j d root) r.place) (flipped r.inverted bit))
    (root_local j fits c d k (omega arith) (λ i less. agree i (omega arith)))

denied_local : (j : Job) → Fits j → (c d : ℕ → Value) (root : ℕ) → root < places_of j → AgreeBelow c d root
    → denied_value j c root ≡ denied_value j d root
denied_local j fits c d root within agree = world_bit_local j fits c d (bit_of j []) (bit_of j []) root within agree
    (λ k less. refl)

-- A clause over literals that are the same where it reads them.
clause_moved : (says other : ℕ → Bool → ℤ) (place : ℕ) (chosen bits : ℕ → Bool) (bit : Bool) (clause : List ℤ)
    → ((k : ℕ) → chosen k ≡ true → (b : Bool) → says k b ≡ other k b) → ((b : Bool) → says place b ≡ other place b)
    → IsClause says place chosen bits bit clause → IsClause other place chosen bits bit clause
clause_moved says other place chosen bits bit clause same here is = record {
  ascends = is.ascends;
  denies = λ k taken. subst (Contains clause) (same k taken (not (bits k))) (is.denies k taken);
  gives = subst (Contains clause) (here bit) is.gives;
  no_other = λ l at. ⊎_elim (λ (e : l ≡ says place bit). inl (e ∙ here bit))
      (λ (e : (k : ℕ) × (chosen k ≡ true) × (l ≡ says k (not (bits k)))). inr
      (e.0, e.1, e.2 ∙ same e.0 e.1 (not (bits e.0)))) (is.no_other l at);
}

essential_below : (j : Job) (c : ℕ → Value) (place k : ℕ) → among (essentials j c place) k ≡ true → k < place
unfolding essentials
essential_below j c place k at = (in_picked (is_essential j c place) place k at).0

cone_clause_moved : (j : Job) → Fits j → (c d : ℕ → Value) (root : ℕ) (clause : List ℤ) → root < places_of j
    → AgreeBelow c d root → IsConeClause j c root clause → IsConeClause j d root clause
cone_clause_moved j fits c d root clause within agree is =
    let low = cone_within j fits c root is.place within is.inside in
    let agree_here : AgreeBelow c d is.place = λ i less. agree i (omega (arith, low, less)) in
    let within_here : is.place < places_of j = omega (arith, low, within) in
    record {
      place = is.place;
      bit = is.bit;
      chosen = is.chosen;
      bits = is.bits;
      inside = ap (λ cone. cone is.place) (sym (in_cone_local j fits c d root within agree)) ∙ is.inside;
      free = ap is_carried (sym (class_local j fits c d is.place within_here agree_here)) ∙ is.free;
      choice = subst (λ xs. IsChoice xs (table j d is.place) is.chosen is.bits is.bit)
          (essentials_local j fits c d is.place within_here agree_here)
          (subst (λ t. IsChoice (essentials j c is.place) t is.chosen is.bits is.bit)
          (table_local j fits c d is.place within_here agree_here) is.choice);
      is_clause = clause_moved (literal j c root) (literal j d root) is.place is.chosen is.bits is.bit clause
          (λ k taken. literal_local j fits c d root k within agree
          (let less = essential_below j c is.place k (is.choice.among_arguments k taken) in omega (arith, less, low)))
          (literal_local j fits c d root is.place within agree low) is.is_clause;
    }

denial_moved : (j : Job) → Fits j → (c d : ℕ → Value) (root : ℕ) → root < places_of j → AgreeBelow c d root
    → denial j c root ≡ denial j d root
denial_moved j fits c d root within agree =
    ap (λ l. l ∷ []) (ap (λ bit. literal j c root root (not bit)) (denied_local j fits c d root within agree)
    ∙ literal_local j fits c d root root within agree (omega arith) (not (denied_value j d root)))

query_clause_moved : (j : Job) → Fits j → (c d : ℕ → Value) (root : ℕ) (clause : List ℤ) → root < places_of j
    → AgreeBelow c d root → IsQueryClause j c root clause → IsQueryClause j d root clause
query_clause_moved j fits c d root clause within agree (inl is) = inl
    (cone_clause_moved j fits c d root clause within agree is)
query_clause_moved j fits c d root clause within agree (inr is) = inr (is ∙ denial_moved j fits c d root within agree)

-- The query of a place.
pub query_moved : (j : Job) → Fits j → (c d : ℕ → Value) (root : ℕ) (query : Cnf) → root < places_of j
    → AgreeBelow c d root → IsQuery j c root query → IsQuery j d root query
query_moved j fits c d root query within agree is = record {
  vars = is.vars ∙ ap length (variables_local j fits c d root within agree);
  each = λ clause at. query_clause_moved j fits c d root clause within agree (is.each clause at);
  all = λ clause member. is.all clause (query_clause_moved j fits d c root clause within (λ k less. sym (agree k less))
      member);
  once = is.once;
}

pub denied_moved : (j : Job) → Fits j → (c d : ℕ → Value) (root : ℕ) (bit : Bool) → root < places_of j
    → AgreeBelow c d root → denied_value j c root ≡ bit → denied_value j d root ≡ bit
denied_moved j fits c d root bit within agree is = sym (denied_local j fits c d root within agree) ∙ is
