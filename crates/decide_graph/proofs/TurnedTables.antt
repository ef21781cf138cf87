-- Tables by the bits of nodes, of which some are inverted.
use Rattle.std.proofs.Common.{◌≡◌, ℕ, suc, ◌+◌, ◌*◌, ◌/◌, ◌%◌, ◌<◌, ◌≤◌, ◌^◌, ◌==◌, cond, Bool, true, false, List, [], ◌∷◌, ◌++◌, length, map, refl, sym, ap, ◌∙◌, subst, arith, length-append, slice_index, slice_index_or, ⊎_elim}
use Rattle.std.specs.List.{AllByRecursion}
use Rattle.std.proofs.lemmas.List.{length-map}
use Rattle.std.proofs.Math.ListN.{get_or-append}
use Rattle.std.proofs.Math.Nat.{pow-le-pow_right}
use Rattle.std.proofs.Math.Seq.{get_or-append_seam}
use Rattle.std.proofs.lemmas.Bool.{cases_eq}
use Rattle.design_cell.specs.declared.value.Value.{Value}
use Rattle.design_cell.specs.declared.value.Value.TheVariants.{X}
use Rattle.law_model.specs.Class.{flipped}
use Rattle.law_model.specs.Mask.{mask_of}
use Rattle.design_circuit.specs.declared.place.Place.{Place}
use Rattle.decide_nodes.specs.declared.node.Node.{Node}
use Rattle.decide_nodes.specs.declared.node.NodeBody.TheVariants.{Rule}
use Rattle.decide_nodes.specs.Nodes.{StandsAt, no_node, node_at}
use Rattle.decide_graph.specs.Graph.{AreOrdered}
use Rattle.decide_graph.specs.NodeRoots.{AreNodeRoots, IsTurnedTable, node_in, node_root_at, turned_number}
use Rattle.decide_graph.specs.declared.node_root.NodeRoot.{NodeRoot}

pub record TurnedSoFar (roots : List NodeRoot) (values : List Value) (n : ℕ) (turned : List Value) : Type 0 where
  pub long : length turned ≡ n
  pub are : (number : ℕ) → number < n
      → slice_index_or turned number X ≡ slice_index_or values (turned_number roots number) X

pub turned_more : (roots : List NodeRoot) (values : List Value) (n : ℕ) (turned new : List Value) (value : Value)
    → TurnedSoFar roots values n turned → value ≡ slice_index_or values (turned_number roots n) X
    → new ≡ turned ++ value ∷ [] → TurnedSoFar roots values (n + 1) new
turned_more roots values n turned new value so is new_is = record {
  long = (let long = ap length new_is ∙ length-append turned (value ∷ []) in let was = so.long in omega (arith, long, was));
  are = λ number low. ap (λ xs. slice_index_or xs number X) new_is ∙ ⊎_elim
      (λ (last : number ≡ n). ap (λ k. slice_index_or (turned ++ value ∷ []) k X) (last ∙ sym so.long)
      ∙ get_or-append_seam turned value [] X ∙ is ∙ ap (λ k. slice_index_or values (turned_number roots k) X) (sym last))
      (λ (other : number ≡ n → ⊥). (let inner : number < n = omega (arith, low, other) in
      get_or-append turned (value ∷ []) X number (let long = so.long in omega (arith, long, inner))
      ∙ so.are number inner)) (cases_eq number n);
}

low : (b : Bool) (m : ℕ) → ((cond b 1 0 + 2 * m) % 2 == 1) ≡ b
low true m = let e : (1 + 2 * m) % 2 ≡ 1 = omega arith in rw e refl
low false m = let e : (0 + 2 * m) % 2 ≡ 0 = omega arith in rw e refl

high : (b : Bool) (m : ℕ) → (cond b 1 0 + 2 * m) / 2 ≡ m
high true m = omega arith
high false m = omega arith

-- The turned number of some bits is that of the bits turned.
pub turned_mask : (roots : List NodeRoot) (names : List ℕ) (turns bits : ℕ → Bool) → length roots ≡ length names
    → ((k : ℕ) → k < length roots → (node_root_at roots k).inverted ≡ turns (slice_index names k))
    → turned_number roots (mask_of names bits) ≡ mask_of names (λ k. flipped (turns k) (bits k))
turned_mask [] [] turns bits long same = refl
turned_mask [] (n ∷ ns) turns bits long same = absurd (omega arith)
turned_mask (r ∷ rs) [] turns bits long same = absurd (omega arith)
turned_mask (r ∷ rs) (n ∷ ns) turns bits long same =
    let here : r.inverted ≡ turns n = same 0 (omega arith) in
    let ih = turned_mask rs ns turns bits (omega arith) (λ k less. same (suc k) (omega arith)) in
    rw (low (bits n) (mask_of ns bits), high (bits n) (mask_of ns bits), here, ih) refl

-- A table over at most 13 nodes has at most 8,192 values.
few_numbers : (n : ℕ) → n ≤ 13 → 2 ^ n ≤ 2 ^ 13
few_numbers n few = pow-le-pow_right {n = 2} (omega arith) {i = n} {j = 13} few

pub few_values : (roots : List NodeRoot) (values turned : List Value) → length roots ≤ 13
    → length values ≡ 2 ^ length roots → IsTurnedTable roots values turned → length turned ≤ 2 ^ 13
few_values roots values turned few table is =
    let long = is.long in
    let most = few_numbers (length roots) few in omega (arith, long, table, most)

-- A node that comes in stands after what it reads.
mapped_all : (n : ℕ) (roots : List NodeRoot) → AllByRecursion (λ root. node_in root < n) roots
    → AllByRecursion (λ k. k < n) (map node_in roots)
mapped_all n [] all = tt
mapped_all n (r ∷ rs) all = (all.0, mapped_all n rs all.1)

pub kept_more : (old new : List Node) (place : Place) (roots : List NodeRoot) (values turned : List Value) → AreOrdered old
    → length old < 2 ^ 27 → AreNodeRoots (length old) roots → length values ≡ 2 ^ length roots
    → IsTurnedTable roots values turned → new ≡ old ++ record { place = place; body = Rule (map node_in roots) turned } ∷ []
    → AreOrdered new
kept_more old new place roots values turned kept few readings table is grown = record {
  few = (let long = longer in omega (arith, long, few));
  each = λ node less. ⊎_elim
      (λ (same : node ≡ length old). subst (λ (n : Node). StandsAt node n.body)
      (sym (ap (λ ns. node_at ns node) grown ∙ ap (node_at (old ++ last ∷ [])) same ∙ get_or-append_seam old last [] no_node))
      (subst (λ k. StandsAt k last.body) (sym same) stands))
      (λ (other : node ≡ length old → ⊥). (let low : node < length old = (let long = longer in omega (arith, less, long, other)) in
      subst (λ (n : Node). StandsAt node n.body)
      (sym (ap (λ ns. node_at ns node) grown ∙ get_or-append old (last ∷ []) no_node node low)) (kept.each node low)))
      (cases_eq node (length old));
}
  where
    last : Node
    last = record { place = place; body = Rule (map node_in roots) turned }

    longer : length new ≡ length old + 1
    longer = ap length grown ∙ length-append old (last ∷ [])

    stands : StandsAt (length old) last.body
    stands = (let count = length-map roots node_in in let most = readings.few in record {
      few = omega (arith, count, most);
      before = mapped_all (length old) roots readings.before;
      long = is.long ∙ table ∙ ap (λ n. 2 ^ n) (sym count);
    })
