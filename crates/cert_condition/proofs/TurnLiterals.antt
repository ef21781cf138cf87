-- The literals of the nodes of a turn query are those of its places.
use Rattle.std.proofs.Common.{◌≡◌, ℕ, zero, suc, ◌+◌, ◌<◌, ◌≤◌, ◌&&◌, ◌||◌, not, Bool, true, false, List, [], ◌∷◌, filter, length, take, refl, sym, ap, ◌∙◌, arith, add-one, subst, ⊎_elim, slice_index, slice_index_or}
use Rattle.std.specs.Prelude.{ℤ, pos}
use Rattle.std.specs.List.Sorted.{IsStrictlyIncreasing}
use Rattle.std.proofs.lemmas.Bool.{and_from, cases_Bool, or_cases}
use Rattle.std.proofs.lemmas.List.{get_or-take, length-map, length-take-le}
use Rattle.design_cell.specs.declared.value.Value.{Value}
use Rattle.design_circuit.specs.Fits.{Fits, place_at}
use Rattle.design_circuit.specs.Job.{Job, places_of}
use Rattle.design_circuit.specs.Order.{position_of}
use Rattle.design_circuit.specs.Waveform.{certain}
use Rattle.law_model.specs.Class.{class_of, flipped}
use Rattle.law_model.specs.Cone.{in_cone, is_carried}
use Rattle.law_model.specs.Query.{is_variable, signed}
use Rattle.law_model.specs.Root.{Root, root_of}
use Rattle.law_model.proofs.ConeModels.{position_rises}
use Rattle.law_model.proofs.PlacesWhere.{among_contains, in_picked, or_left, or_right, picked_rises, picked_same}
use Rattle.law_model.proofs.Roots.{root_carried, root_own}
use Rattle.wave_proved.specs.Contents.{Contents, job}
use Rattle.decide_nodes.specs.declared.node.Node.{Node}
use Rattle.decide_nodes.specs.declared.node.NodeBody.{NodeBody as Body}
use Rattle.decide_nodes.specs.declared.node.NodeBody.TheVariants.{Carried, Rule}
use Rattle.decide_nodes.specs.Nodes.{StandsAt, body_of, node_at, no_node, place_of_node}
use Rattle.decide_nodes.proofs.PickedLists.{filter_position, places_both}
use Rattle.decide_cnf.specs.Literals.{AreLiterals, is_ruled_body, is_ruled_node, literal_at, literal_by, says, variables_of}
use Rattle.decide_cnf.proofs.ConeLiterals.{passes_before, passes_match, signed_says, turned_says}
use Rattle.decide_cone.specs.Boundary.{is_boundary, is_near, near_in}
use Rattle.cert_condition.specs.TurnNodes.{AreTurnNodes, IsOpen, IsTurnBody, IsWholeRule}
use Rattle.cert_condition.specs.TurnQuery.{is_turn_variable, turn_literal, turn_root, turn_variables}
use Rattle.cert_condition.proofs.TurnChoices.{boundary_outside, root_beside, root_inside, variable_near}

near_turn : (j : Job) (c : ℕ → Value) (root k : ℕ) → is_near j c root k && is_turn_variable j c root k
    ≡ is_turn_variable j c root k
near_turn j c root k = ⊎_elim (λ (h : is_turn_variable j c root k ≡ true). rw (h, variable_near j c root k h) refl)
    (λ (h : is_turn_variable j c root k ≡ false). rw h (off (is_near j c root k)))
    (cases_Bool (is_turn_variable j c root k))
  where
    off : (a : Bool) → a && false ≡ false
    off true = refl
    off false = refl

same_element : (xs : List ℕ) (p : ℕ) → slice_index_or xs p (slice_index_or xs p 0) ≡ slice_index_or xs p 0
same_element [] p = refl
same_element (x ∷ xs) zero = refl
same_element (x ∷ xs) (suc p) = same_element xs p

-- Whether a place is a variable, from its body.
carried_none : (j : Job) (c : ℕ → Value) (root k : ℕ) → in_cone j c root k ≡ true → is_carried (class_of j c k) ≡ true
    → is_turn_variable j c root k ≡ false
carried_none j c root k inside carried =
    let off : is_boundary j c root k ≡ false =
    ⊎_elim (λ (h : is_boundary j c root k ≡ true).
    (let e : true ≡ false = sym inside ∙ boundary_outside j c root k h in cc))
    (λ (h : is_boundary j c root k ≡ false). h) (cases_Bool (is_boundary j c root k)) in
    ap (λ b. is_variable j c root k || b) off
    ∙ ap (λ b. (in_cone j c root k && not b) || false) carried ∙ both_off (in_cone j c root k)
  where
    both_off : (a : Bool) → (a && false) || false ≡ false
    both_off true = refl
    both_off false = refl

whole_some : (j : Job) (c : ℕ → Value) (root k : ℕ) → in_cone j c root k ≡ true → is_carried (class_of j c k) ≡ false
    → is_turn_variable j c root k ≡ true
whole_some j c root k inside free = or_left (is_variable j c root k) (is_boundary j c root k)
    (and_from (in_cone j c root k) (not (is_carried (class_of j c k))) inside (ap not free))

open_some : (j : Job) (c : ℕ → Value) (root k : ℕ) → is_near j c root k ≡ true → in_cone j c root k ≡ false
    → is_turn_variable j c root k ≡ true
open_some j c root k near outside = or_right (is_variable j c root k) (is_boundary j c root k)
    (⊎_elim (λ (h : in_cone j c root k ≡ true). (let e : true ≡ false = sym h ∙ outside in cc))
    (λ (h : is_boundary j c root k ≡ true). h) (or_cases (in_cone j c root k) (is_boundary j c root k) near))

body_variable : (j : Job) (c : ℕ → Value) (root : ℕ) (places : List ℕ) (place : ℕ) (body : Body)
    → is_near j c root place ≡ true → IsTurnBody j c root places place (body_of body)
    → is_ruled_body body ≡ is_turn_variable j c root place
body_variable j c root places place (Carried node inverted) near is =
    sym (carried_none j c root place is.inside (ap is_carried is.from.class))
body_variable j c root places place (Rule arguments values) near is =
    ⊎_elim (λ (w : IsWholeRule j c root places place arguments values). sym (whole_some j c root place w.inside w.free))
    (λ (o : IsOpen j c root place arguments values). sym (open_some j c root place near o.outside)) is

module _ (c : Contents) (root : ℕ) (nodes : List Node) (is : AreTurnNodes c root nodes) where
  pub near_fits : Fits (job c)
  near_fits = is.wave.fits.fits_job

  pub near_count : length (near_in c root) ≡ length nodes
  near_count = sym (length-map (near_in c root) (place_at (job c))) ∙ sym (ap length is.places)
      ∙ length-map nodes place_of_node

  pub near_rises : IsStrictlyIncreasing (near_in c root)
  near_rises = picked_rises (is_near (job c) (certain c.written) root) (root + 1)

  pub near_picked : (p : ℕ) → p < length nodes → (slice_index (near_in c root) p < root + 1)
      × (is_near (job c) (certain c.written) root (slice_index (near_in c root) p) ≡ true)
  near_picked p less = in_picked (is_near (job c) (certain c.written) root) (root + 1) (slice_index (near_in c root) p)
      (among_contains (near_in c root) (slice_index (near_in c root) p)
      (p, (let l = near_count in omega (arith, l, less)), same_element (near_in c root) p))

  pub near_within : (p : ℕ) → p < length nodes → slice_index (near_in c root) p < places_of (job c)
  near_within p less = let low = (near_picked p less).0 in let up = is.reach.within in omega (arith, low, up)

  ruled_same : (p : ℕ) → p < length nodes → is_ruled_node (node_at nodes p)
      ≡ is_turn_variable (job c) (certain c.written) root (slice_index (near_in c root) p)
  ruled_same p less = body_variable (job c) (certain c.written) root (near_in c root) (slice_index (near_in c root) p)
      (node_at nodes p).body (near_picked p less).1 (is.bodies p less)

  -- As many nodes before one are variables as there are variables before its place.
  counted : (p : ℕ) → p ≤ length nodes → variables_of (take p nodes)
      ≡ length (filter (is_turn_variable (job c) (certain c.written) root) (take p (near_in c root)))
  counted p within = passes_match is_ruled_node (is_turn_variable (job c) (certain c.written) root) no_node 0
      (take p nodes) (take p (near_in c root))
      (length-take-le p nodes within ∙ sym (length-take-le p (near_in c root)
      (let all = near_count in omega (arith, all, within))))
      (λ k less. (let low : k < p = (let short = length-take-le p nodes within in omega (arith, short, less)) in
      ap is_ruled_node (get_or-take p nodes k no_node low) ∙ ruled_same k (omega (arith, low, within))
      ∙ ap (is_turn_variable (job c) (certain c.written) root) (sym (get_or-take p (near_in c root) k 0 low))))

  picked_variables : turn_variables (job c) (certain c.written) root
      ≡ filter (is_turn_variable (job c) (certain c.written) root) (near_in c root)
  unfolding turn_variables
  picked_variables =
      picked_same (is_turn_variable (job c) (certain c.written) root)
      (λ k. is_near (job c) (certain c.written) root k && is_turn_variable (job c) (certain c.written) root k) (root + 1)
      (λ k less. sym (near_turn (job c) (certain c.written) root k))
      ∙ places_both (is_near (job c) (certain c.written) root) (is_turn_variable (job c) (certain c.written) root) (root + 1)

  variables_rise : (n : ℕ) → n < length (turn_variables (job c) (certain c.written) root)
      → position_of (turn_variables (job c) (certain c.written) root)
      (slice_index_or (turn_variables (job c) (certain c.written) root) n 0) ≡ n
  unfolding turn_variables
  variables_rise n less = position_rises (turn_variables (job c) (certain c.written) root) n
      (picked_rises (is_turn_variable (job c) (certain c.written) root) (root + 1)) less

  -- The variable of a place that is one.
  pub variable_number : (p : ℕ) → p < length nodes
      → is_turn_variable (job c) (certain c.written) root (slice_index (near_in c root) p) ≡ true
      → position_of (turn_variables (job c) (certain c.written) root) (slice_index (near_in c root) p)
      ≡ variables_of (take p nodes)
  variable_number p less own =
      let xs : List ℕ = near_in c root in
      let here : ℕ = slice_index xs p in
      let q : ℕ → Bool = is_turn_variable (job c) (certain c.written) root in
      let n : ℕ = length (filter q (take p xs)) in
      let all = near_count in
      let at : slice_index_or (filter q xs) n 0 ≡ here = filter_position q 0 xs p (omega (arith, all, less)) own in
      let within : n < length (filter q xs) = passes_before q 0 xs p (omega (arith, all, less)) own in
      let same = picked_variables in
      let number = variables_rise n (subst (λ ys. n < length ys) (sym same) within) in
      let found : slice_index_or (turn_variables (job c) (certain c.written) root) n 0 ≡ here =
      ap (λ ys. slice_index_or ys n 0) same ∙ at in
      ap (position_of (turn_variables (job c) (certain c.written) root)) (sym found) ∙ number
      ∙ sym (counted p (omega (arith, less)))

  pub turn_variables_counted : length (turn_variables (job c) (certain c.written) root) ≡ variables_of nodes
  turn_variables_counted =
      let all = near_count in
      ap length picked_variables
      ∙ sym (passes_match is_ruled_node (is_turn_variable (job c) (certain c.written) root) no_node 0 nodes
      (near_in c root) (sym all) (λ k less. ruled_same k less))

  module _ (literals : List ℤ) (are : AreLiterals nodes literals) where
    own_literal : (p : ℕ) → p < length nodes
        → turn_root (job c) (certain c.written) root (slice_index (near_in c root) p)
        ≡ record { place = slice_index (near_in c root) p; inverted = false }
        → is_turn_variable (job c) (certain c.written) root (slice_index (near_in c root) p) ≡ true
        → turn_literal (job c) (certain c.written) root (slice_index (near_in c root) p) true
        ≡ pos (variables_of (take p nodes) + 1)
    unfolding turn_literal
    own_literal p less itself own =
        let j : Job = job c in
        let cert : ℕ → Value = certain c.written in
        ap (λ (r : Root). signed (position_of (turn_variables j cert root) r.place) (flipped r.inverted true)) itself
        ∙ ap (λ n. pos n) (sym (add-one _) ∙ ap (λ n. n + 1) (variable_number p less own))

    -- A node's literal says that its place has 1.
    true_by : (p : ℕ) → p < length nodes → (body : Body) → StandsAt p body
        → IsTurnBody (job c) (certain c.written) root (near_in c root) (slice_index (near_in c root) p) (body_of body)
        → ((k : ℕ) → k < p → turn_literal (job c) (certain c.written) root (slice_index (near_in c root) k) true
        ≡ literal_at literals k)
        → turn_literal (job c) (certain c.written) root (slice_index (near_in c root) p) true
        ≡ literal_by literals (variables_of (take p nodes)) body
    unfolding turn_literal
    true_by p less (Carried node inverted) stands at before =
        let j : Job = job c in
        let cert : ℕ → Value = certain c.written in
        let here : ℕ = slice_index (near_in c root) p in
        let from : ℕ = slice_index (near_in c root) node in
        let n : ℕ = position_of (turn_variables j cert root) (root_of j cert from).place in
        ap (λ (r : Root). signed (position_of (turn_variables j cert root) r.place) (flipped r.inverted true))
        (root_inside j cert root here at.inside
        ∙ root_carried j near_fits cert here from inverted (near_within p less) at.from.class)
        ∙ turned_says n inverted (root_of j cert from).inverted
        ∙ ap (λ (r : Root). says (signed (position_of (turn_variables j cert root) r.place) (flipped r.inverted true))
        (not inverted)) (sym (root_inside j cert root from at.deeper))
        ∙ ap (λ l. says l (not inverted)) (before node stands)
    true_by p less (Rule arguments values) stands at before =
        let j : Job = job c in
        let cert : ℕ → Value = certain c.written in
        let here : ℕ = slice_index (near_in c root) p in
        ⊎_elim (λ (w : IsWholeRule j cert root (near_in c root) here arguments values).
        own_literal p less (root_inside j cert root here w.inside ∙ root_own j cert here w.free)
        (whole_some j cert root here w.inside w.free))
        (λ (o : IsOpen j cert root here arguments values).
        own_literal p less (root_beside j cert root here o.outside)
        (open_some j cert root here (near_picked p less).1 o.outside)) at

    true_below : (n p : ℕ) → p < n → p < length nodes
        → turn_literal (job c) (certain c.written) root (slice_index (near_in c root) p) true ≡ literal_at literals p
    true_below zero p low less = absurd (omega arith)
    true_below (suc n) p low less = true_by p less (node_at nodes p).body (is.are_nodes.each p less) (is.bodies p less)
        (λ k before. true_below n k (omega (arith, low, before)) (omega (arith, before, less)))
        ∙ sym (are.each p less)

    pub turn_node_literal : (p : ℕ) (bit : Bool) → p < length nodes
        → turn_literal (job c) (certain c.written) root (slice_index (near_in c root) p) bit
        ≡ says (literal_at literals p) bit
    unfolding turn_literal
    turn_node_literal p bit less =
        let j : Job = job c in
        let cert : ℕ → Value = certain c.written in
        let r : Root = turn_root j cert root (slice_index (near_in c root) p) in
        signed_says (position_of (turn_variables j cert root) r.place) r.inverted bit
        ∙ ap (λ l. says l bit) (true_below (suc p) p (omega arith) less)
