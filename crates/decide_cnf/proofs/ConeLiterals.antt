-- The literals of nodes are those of the places of their cone.
use Rattle.std.proofs.Common.{◌≡◌, ℕ, zero, suc, ◌+◌, ◌<◌, ◌≤◌, not, Bool, true, false, cond, List, [], ◌∷◌, filter, length, take, refl, sym, ap, ◌∙◌, arith, add-one, subst, slice_index, slice_index_or, ◌&&◌, ⊎_elim}
use Rattle.std.specs.Prelude.{ℤ, pos}
use Rattle.std.proofs.lemmas.Bool.{cases_Bool}
use Rattle.std.proofs.lemmas.List.{get_or-take, length-take-le}
use Rattle.design_cell.specs.declared.value.Value.{Value}
use Rattle.design_circuit.specs.Job.{Job}
use Rattle.design_circuit.specs.Order.{position_of}
use Rattle.design_circuit.specs.Waveform.{certain}
use Rattle.law_model.specs.Class.{class_of, flipped}
use Rattle.law_model.specs.Cone.{is_carried}
use Rattle.law_model.specs.Query.{is_variable, literal, signed, variables}
use Rattle.law_model.specs.Root.{Root, root_of}
use Rattle.law_model.proofs.ConeModels.{position_rises}
use Rattle.law_model.proofs.PlacesWhere.{picked_rises, picked_same}
use Rattle.law_model.proofs.Roots.{root_carried, root_own}
use Rattle.wave_proved.specs.Contents.{Contents, job}
use Rattle.decide_nodes.specs.declared.node.Node.{Node}
use Rattle.decide_nodes.specs.declared.node.NodeBody.{NodeBody as Body}
use Rattle.decide_nodes.specs.declared.node.NodeBody.TheVariants.{Carried, Rule}
use Rattle.decide_nodes.specs.Nodes.{StandsAt, body_of, node_at, no_node}
use Rattle.decide_nodes.specs.Traced.{IsBodyOver, IsConeOf}
use Rattle.decide_nodes.proofs.ConeBits.{count, fits, place_within, spots}
use Rattle.decide_nodes.proofs.PickedLists.{filter_position, places_both}
use Rattle.decide_cnf.specs.Literals.{AreLiterals, is_ruled_body, is_ruled_node, literal_at, literal_by, says, variables_of}

-- Lists whose elements pass in the same positions have as many that pass.
pub passes_match : {A B : Type 0} (t : A → Bool) (u : B → Bool) (d : A) (e : B) (xs : List A) (ys : List B)
    → length xs ≡ length ys → ((p : ℕ) → p < length xs → t (slice_index_or xs p d) ≡ u (slice_index_or ys p e))
    → length (filter t xs) ≡ length (filter u ys)
passes_match t u d e [] [] same tests = refl
passes_match t u d e [] (y ∷ ys) same tests = absurd (omega arith)
passes_match t u d e (x ∷ xs) [] same tests = absurd (omega arith)
passes_match t u d e (x ∷ xs) (y ∷ ys) same tests = step (t x) (u y) (tests 0 (omega arith))
    (passes_match t u d e xs ys (omega arith) (λ p less. tests (suc p) (omega arith)))
  where
    step : (a b : Bool) → a ≡ b → length (filter t xs) ≡ length (filter u ys)
        → length (cond a (x ∷ filter t xs) (filter t xs)) ≡ length (cond b (y ∷ filter u ys) (filter u ys))
    step true true e ih = ap suc ih
    step false false e ih = ih
    step true false e ih = cc
    step false true e ih = cc

pub passes_before : {A : Type 0} (t : A → Bool) (d : A) (xs : List A) (p : ℕ) → p < length xs
    → t (slice_index_or xs p d) ≡ true → length (filter t (take p xs)) < length (filter t xs)
passes_before t d [] p less passes = absurd (omega arith)
passes_before t d (x ∷ xs) zero less passes = rw passes (omega arith)
passes_before t d (x ∷ xs) (suc p) less passes = step (t x) (passes_before t d xs p (omega arith) passes)
  where
    step : (a : Bool) → length (filter t (take p xs)) < length (filter t xs)
        → length (cond a (x ∷ filter t (take p xs)) (filter t (take p xs)))
        < length (cond a (x ∷ filter t xs) (filter t xs))
    step true ih = omega (arith, ih)
    step false ih = ih

body_ruled : (j : Job) (c : ℕ → Value) (places : List ℕ) (place : ℕ) (body : Body)
    → IsBodyOver j c places place (body_of body) → is_ruled_body body ≡ not (is_carried (class_of j c place))
body_ruled j c places place (Carried node inverted) is = sym (ap (λ k. not (is_carried k)) is.class)
body_ruled j c places place (Rule arguments values) is = sym (ap not is.free)

-- A literal of a bit, from that of 1.
pub signed_says : (n : ℕ) (inverted bit : Bool) → signed n (flipped inverted bit)
    ≡ says (signed n (flipped inverted true)) bit
signed_says n inverted true = refl
signed_says n false false = refl
signed_says n true false = refl

pub turned_says : (n : ℕ) (turned inverted : Bool)
    → signed n (flipped (flipped turned inverted) true) ≡ says (signed n (flipped inverted true)) (not turned)
turned_says n false inverted = refl
turned_says n true false = refl
turned_says n true true = refl

module _ (c : Contents) (root : ℕ) (nodes : List Node) (is : IsConeOf c root nodes) where
  ruled_same : (p : ℕ) → p < length nodes → is_ruled_node (node_at nodes p)
      ≡ not (is_carried (class_of (job c) (certain c.written) (slice_index (spots c root nodes is) p)))
  ruled_same p less = body_ruled (job c) (certain c.written) (spots c root nodes is) (slice_index (spots c root nodes is) p)
      (node_at nodes p).body (is.bodies p less)

  -- As many nodes before one aren't carried as there are variables before its place.
  counted : (p : ℕ) → p ≤ length nodes → variables_of (take p nodes)
      ≡ length (filter (λ place. not (is_carried (class_of (job c) (certain c.written) place))) (take p
      (spots c root nodes is)))
  counted p within = passes_match is_ruled_node
      (λ place. not (is_carried (class_of (job c) (certain c.written) place))) no_node 0 (take p nodes)
      (take p (spots c root nodes is))
      (length-take-le p nodes within ∙ sym (length-take-le p (spots c root nodes is)
      (let all = count c root nodes is in omega (arith, all, within))))
      (λ k less. (let low : k < p = (let short = length-take-le p nodes within in omega (arith, short, less)) in
      ap is_ruled_node (get_or-take p nodes k no_node low) ∙ ruled_same k (omega (arith, low, within))
      ∙ ap (λ place. not (is_carried (class_of (job c) (certain c.written) place)))
      (sym (get_or-take p (spots c root nodes is) k 0 low))))

  -- There is a node at each variable.
  kept_variable : (place : ℕ) → is.kept place && not (is_carried (class_of (job c) (certain c.written) place))
      ≡ is_variable (job c) (certain c.written) root place
  kept_variable place =
      ⊎_elim (λ (on : is.kept place ≡ true). (rw (on, is.inside place on) refl)) (λ (off : is.kept place ≡ false).
      ap (λ b. b && not (is_carried (class_of (job c) (certain c.written) place))) off
      ∙ ⊎_elim (λ (variable : is_variable (job c) (certain c.written) root place ≡ true).
      (let e : true ≡ false = sym (is.variables place variable) ∙ off in cc))
      (λ (none : is_variable (job c) (certain c.written) root place ≡ false). sym none)
      (cases_Bool (is_variable (job c) (certain c.written) root place))) (cases_Bool (is.kept place))

  picked_variables : variables (job c) (certain c.written) root
      ≡ filter (λ place. not (is_carried (class_of (job c) (certain c.written) place))) (spots c root nodes is)
  unfolding variables
  picked_variables =
      picked_same (is_variable (job c) (certain c.written) root)
      (λ place. is.kept place && not (is_carried (class_of (job c) (certain c.written) place))) (root + 1)
      (λ place less. sym (kept_variable place))
      ∙ places_both is.kept (λ place. not (is_carried (class_of (job c) (certain c.written) place))) (root + 1)

  variables_rise : (n : ℕ) → n < length (variables (job c) (certain c.written) root)
      → position_of (variables (job c) (certain c.written) root)
      (slice_index_or (variables (job c) (certain c.written) root) n 0) ≡ n
  unfolding variables
  variables_rise n less = position_rises (variables (job c) (certain c.written) root) n
      (picked_rises (is_variable (job c) (certain c.written) root) (root + 1)) less

  -- The variable of a place that isn't carried.
  pub variable_number : (p : ℕ) → p < length nodes
      → is_carried (class_of (job c) (certain c.written) (slice_index (spots c root nodes is) p)) ≡ false
      → position_of (variables (job c) (certain c.written) root) (slice_index (spots c root nodes is) p)
      ≡ variables_of (take p nodes)
  variable_number p less free =
      let xs : List ℕ = spots c root nodes is in
      let here : ℕ = slice_index xs p in
      let q : ℕ → Bool = λ place. not (is_carried (class_of (job c) (certain c.written) place)) in
      let n : ℕ = length (filter q (take p xs)) in
      let all = count c root nodes is in
      let at : slice_index_or (filter q xs) n 0 ≡ here = filter_position q 0 xs p (omega (arith, all, less))
      (ap not free) in
      let within : n < length (filter q xs) = passes_before q 0 xs p (omega (arith, all, less)) (ap not free) in
      let same = picked_variables in
      let number = variables_rise n (subst (λ ys. n < length ys) (sym same) within) in
      let found : slice_index_or (variables (job c) (certain c.written) root) n 0 ≡ here =
      ap (λ ys. slice_index_or ys n 0) same ∙ at in
      ap (position_of (variables (job c) (certain c.written) root)) (sym found) ∙ number
      ∙ sym (counted p (omega (arith, less)))

  pub variables_counted : length (variables (job c) (certain c.written) root) ≡ variables_of nodes
  variables_counted =
      let all = count c root nodes is in
      ap length picked_variables
      ∙ sym (passes_match is_ruled_node (λ place. not (is_carried (class_of (job c) (certain c.written) place)))
      no_node 0 nodes (spots c root nodes is) (sym all) (λ k less. ruled_same k less))

  module _ (literals : List ℤ) (are : AreLiterals nodes literals) where
    -- A node's literal says that its place has 1.
    true_by : (p : ℕ) → p < length nodes → (body : Body) → StandsAt p body
        → IsBodyOver (job c) (certain c.written) (spots c root nodes is) (slice_index (spots c root nodes is) p) (body_of body)
        → ((k : ℕ) → k < p → literal (job c) (certain c.written) root (slice_index (spots c root nodes is) k) true
        ≡ literal_at literals k)
        → literal (job c) (certain c.written) root (slice_index (spots c root nodes is) p) true
        ≡ literal_by literals (variables_of (take p nodes)) body
    unfolding literal
    true_by p less (Carried node inverted) stands at before =
        let j : Job = job c in
        let cert : ℕ → Value = certain c.written in
        let here : ℕ = slice_index (spots c root nodes is) p in
        let from : ℕ = slice_index (spots c root nodes is) node in
        let n : ℕ = position_of (variables j cert root) (root_of j cert from).place in
        ap (λ (r : Root). signed (position_of (variables j cert root) r.place) (flipped r.inverted true))
        (root_carried j (fits c root nodes is) cert here from inverted (place_within c root nodes is p less) at.class)
        ∙ turned_says n inverted (root_of j cert from).inverted
        ∙ ap (λ l. says l (not inverted)) (before node stands)
    true_by p less (Rule arguments values) stands at before =
        let j : Job = job c in
        let cert : ℕ → Value = certain c.written in
        let here : ℕ = slice_index (spots c root nodes is) p in
        ap (λ (r : Root). signed (position_of (variables j cert root) r.place) (flipped r.inverted true))
        (root_own j cert here at.free)
        ∙ ap (λ n. pos n) (sym (add-one _) ∙ ap (λ n. n + 1) (variable_number p less at.free))

    true_below : (n p : ℕ) → p < n → p < length nodes
        → literal (job c) (certain c.written) root (slice_index (spots c root nodes is) p) true ≡ literal_at literals p
    true_below zero p low less = absurd (omega arith)
    true_below (suc n) p low less = true_by p less (node_at nodes p).body (is.are_nodes.each p less) (is.bodies p less)
        (λ k before. true_below n k (omega (arith, low, before)) (omega (arith, before, less)))
        ∙ sym (are.each p less)

    pub node_literal : (p : ℕ) (bit : Bool) → p < length nodes
        → literal (job c) (certain c.written) root (slice_index (spots c root nodes is) p) bit
        ≡ says (literal_at literals p) bit
    unfolding literal
    node_literal p bit less =
        let j : Job = job c in
        let cert : ℕ → Value = certain c.written in
        let r : Root = root_of j cert (slice_index (spots c root nodes is) p) in
        signed_says (position_of (variables j cert root) r.place) r.inverted bit
        ∙ ap (λ l. says l bit) (true_below (suc p) p (omega arith) less)
