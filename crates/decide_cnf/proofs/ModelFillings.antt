-- The filling of a model of a cone's query.
use Rattle.std.proofs.Common.{◌≡◌, ℕ, zero, suc, ◌+◌, ◌<◌, ◌≤◌, ◌&&◌, Bool, true, false, cond, List, [], ◌∷◌, ◌++◌, filter, length, map, take, refl, sym, ap, ◌∙◌, add-one, arith, append-nil, subst, slice_index, slice_index_or, if◌then◌else◌}
use Rattle.std.proofs.Math.Seq.{take-length, take-suc}
use Rattle.std.proofs.lemmas.Bool.{and_parts, not-true}
use Rattle.std.proofs.lemmas.List.{map-append}
use Rattle.std.proofs.lemmas.List.Elements.{All-contains, filter-append}
use Rattle.design_circuit.specs.declared.place.Place.{Place}
use Rattle.design_circuit.specs.Fits.{place_at}
use Rattle.design_circuit.specs.Order.{position_of}
use Rattle.design_circuit.specs.Waveform.{certain}
use Rattle.law_model.specs.Class.{class_of, flipped}
use Rattle.law_model.specs.Cone.{denied_value, reads_filling, is_carried, is_source, source_filling}
use Rattle.law_model.specs.Line.{GivesBoth}
use Rattle.law_model.specs.Query.{valuation_of, variables}
use Rattle.law_model.specs.Root.{Root}
use Rattle.law_model.specs.Stated.{pair_of, swapped}
use Rattle.law_model.proofs.FoundFillings.{model_pair}
use Rattle.law_model.proofs.PlacesWhere.{picked_same}
use Rattle.law_model.proofs.Roots.{root_own}
use Rattle.sat_proof.specs.Assignment.{IsMet, assigned}
use Rattle.wave_proved.specs.Contents.{Contents, job}
use Rattle.decide_nodes.specs.declared.node.Node.{Node}
use Rattle.decide_nodes.specs.Nodes.{no_node, node_at, place_of_node}
use Rattle.decide_nodes.specs.Traced.{IsConeOf}
use Rattle.decide_nodes.proofs.ConeBits.{count, fits, kept_source, node_born, seen, spots}
use Rattle.decide_nodes.proofs.ConeLaws.{base_law}
use Rattle.decide_nodes.proofs.PickedLists.{places_both}
use Rattle.decide_cnf.specs.Literals.{variables_of}
use Rattle.decide_cnf.specs.Models.{GivesPair, IsModelFilling, is_picked, picked_places}
use Rattle.decide_cnf.proofs.ConeLiterals.{variable_number}

maps_at : {A B C : Type 0} (f : A → C) (g : B → C) (xs : List A) (ys : List B) (d : A) (e : B) (i : ℕ)
    → map f xs ≡ map g ys → i < length xs → f (slice_index_or xs i d) ≡ g (slice_index_or ys i e)
maps_at f g [] ys d e i same less = absurd (omega arith)
maps_at f g (x ∷ xs) [] d e i same less = cc
maps_at f g (x ∷ xs) (y ∷ ys) d e zero same less = cc
maps_at f g (x ∷ xs) (y ∷ ys) d e (suc i) same less =
    let rest : map f xs ≡ map g ys = cc in maps_at f g xs ys d e i rest (omega arith)

and_assoc : (a b c : Bool) → ((a && b) && c) ≡ (a && (b && c))
and_assoc true b c = refl
and_assoc false b c = refl

module _ (c : Contents) (root : ℕ) (nodes : List Node) (is : IsConeOf c root nodes) (model : ℕ → Bool) where
  abbrev valued : ℕ → Bool
  valued = valuation_of (job c) (certain c.written) root model

  abbrev chosen : ℕ → Bool
  chosen place = reads_filling (job c) (certain c.written) place && valued place

  own_value : (p : ℕ) → p < length nodes
      → is_carried (class_of (job c) (certain c.written) (slice_index (spots c root nodes is) p)) ≡ false
      → valued (slice_index (spots c root nodes is) p) ≡ model (variables_of (take p nodes))
  own_value p less free =
      ap (λ (r : Root). flipped r.inverted (model (position_of (variables (job c) (certain c.written) root) r.place)))
      (root_own (job c) (certain c.written) (slice_index (spots c root nodes is) p) free)
      ∙ ap model (variable_number c root nodes is p less free)

  either_way : (p : ℕ) → p < length nodes → (b : Bool)
      → reads_filling (job c) (certain c.written) (slice_index (spots c root nodes is) p) ≡ b
      → (b && model (variables_of (take p nodes))) ≡ (b && valued (slice_index (spots c root nodes is) p))
  either_way p less false born = refl
  either_way p less true born = sym (own_value p less (not-true _ (and_parts _ _ born).0))

  picked_at : (p : ℕ) → p < length nodes → is_picked nodes model p ≡ chosen (slice_index (spots c root nodes is) p)
  picked_at p less =
      let born = node_born c root nodes is p less in
      ap (λ b. b && model (variables_of (take p nodes))) born
      ∙ either_way p less (reads_filling (job c) (certain c.written) (slice_index (spots c root nodes is) p)) refl

  prefix : (n : ℕ) → n ≤ length nodes
      → picked_places nodes model n ≡ map (place_at (job c)) (filter chosen (take n (spots c root nodes is)))
  prefix zero within = refl
  prefix (suc n) within =
      let all = count c root nodes is in
      let less : n < length nodes = omega arith in
      step (is_picked nodes model n) (chosen (slice_index (spots c root nodes is) n)) (picked_at n less) refl
      (prefix n (omega arith))
      ∙ ap (map (place_at (job c))) (sym (ap (filter chosen)
      (take-suc (spots c root nodes is) n 0 (omega (arith, less, all)))
      ∙ filter-append chosen (take n (spots c root nodes is)) (slice_index (spots c root nodes is) n ∷ [])))
    where
      step : (a b : Bool) → a ≡ b → chosen (slice_index (spots c root nodes is) n) ≡ b
          → picked_places nodes model n ≡ map (place_at (job c)) (filter chosen (take n (spots c root nodes is)))
          → (if a then picked_places nodes model n ++ (node_at nodes n).place ∷ [] else picked_places nodes model n)
          ≡ map (place_at (job c)) (filter chosen (take n (spots c root nodes is))
          ++ filter chosen (slice_index (spots c root nodes is) n ∷ []))
      step true true same on ih =
          let place : (node_at nodes n).place ≡ place_at (job c) (slice_index (spots c root nodes is) n) =
          maps_at place_of_node (place_at (job c)) nodes (spots c root nodes is) no_node 0 n is.places (omega arith) in
          let last : filter chosen (slice_index (spots c root nodes is) n ∷ []) ≡ slice_index (spots c root nodes is) n ∷ [] =
          ap (λ b. cond b (slice_index (spots c root nodes is) n ∷ []) []) on in
          ap (λ xs. xs ++ (node_at nodes n).place ∷ []) ih
          ∙ ap (λ place. map (place_at (job c)) (filter chosen (take n (spots c root nodes is))) ++ place ∷ []) place
          ∙ sym (map-append (place_at (job c)) (filter chosen (take n (spots c root nodes is)))
          (slice_index (spots c root nodes is) n ∷ []))
          ∙ ap (λ xs. map (place_at (job c)) (filter chosen (take n (spots c root nodes is)) ++ xs)) (sym last)
      step false false same off ih =
          let last : filter chosen (slice_index (spots c root nodes is) n ∷ []) ≡ [] =
          ap (λ b. cond b (slice_index (spots c root nodes is) n ∷ []) []) off in
          ih ∙ ap (map (place_at (job c))) (sym (append-nil (filter chosen (take n (spots c root nodes is)))))
          ∙ ap (λ xs. map (place_at (job c)) (filter chosen (take n (spots c root nodes is)) ++ xs)) (sym last)
      step true false same off ih = cc
      step false true same on ih = cc

  pub model_places : picked_places nodes model (length nodes)
      ≡ source_filling (job c) (certain c.written) root valued
  model_places =
      let all = count c root nodes is in
      prefix (length nodes) (omega arith)
      ∙ ap (λ xs. map (place_at (job c)) (filter chosen xs))
      (ap (λ n. take n (spots c root nodes is)) (sym all) ∙ take-length (spots c root nodes is))
      ∙ ap (map (place_at (job c))) (sym (places_both is.kept chosen (root + 1)))
      ∙ ap (map (place_at (job c)))
      (picked_same (λ p. is.kept p && chosen p)
      (λ p. is_source (job c) (certain c.written) root p && valued p) (root + 1)
      (λ p less. sym (and_assoc (is.kept p) (reads_filling (job c) (certain c.written) p) (valued p))
      ∙ ap (λ b. b && valued p) (kept_source c root nodes is p)))

-- The places that are picked are the filling, whichever place of a wave the nodes are the cone of,
pub picked_filling : (nodes : List Node) (values : List Bool) (filling : List Place)
    → filling ≡ picked_places nodes (assigned values) (length nodes) → IsModelFilling nodes values filling
picked_filling nodes values filling same c root is = same ∙ model_places c root nodes is (assigned values)

-- and give the other bit than the empty filling where the values are a model of the query.
pub picked_pair : (nodes : List Node) (values : List Bool) (filling : List Place)
    → filling ≡ picked_places nodes (assigned values) (length nodes) → GivesPair nodes values filling
picked_pair nodes values filling same c root is has =
    subst (λ b. GivesBoth (job c) c.written root (swapped b (pair_of [] filling))) (sym (base_law c root nodes is))
    (subst (λ f. GivesBoth (job c) c.written root (swapped (denied_value (job c) (certain c.written) root)
    (pair_of [] f)))
    (sym (picked_filling nodes values filling same c root is))
    (model_pair (job c) (fits c root nodes is) c.written root (assigned values) is.reach.within (seen c root nodes is)
    (λ clause of. All-contains (IsMet (assigned values)) has.query.clauses clause has.is_model.met
    (has.is_query.all clause of))))

-- One node after another.
next_places : (nodes : List Node) (model : ℕ → Bool) (i : ℕ) (b : Bool) → is_picked nodes model i ≡ b
    → picked_places nodes model (i + 1)
    ≡ (if b then picked_places nodes model i ++ (node_at nodes i).place ∷ [] else picked_places nodes model i)
next_places nodes model i b is = ap (picked_places nodes model) (add-one i)
    ∙ ap (λ x. if x then picked_places nodes model i ++ (node_at nodes i).place ∷ [] else picked_places nodes model i) is

pub picked_push : (nodes : List Node) (model : ℕ → Bool) (i : ℕ) (old : List Place) (place : Place)
    → is_picked nodes model i ≡ true → old ≡ picked_places nodes model i → place ≡ (node_at nodes i).place
    → old ++ place ∷ [] ≡ picked_places nodes model (i + 1)
picked_push nodes model i old place on same here =
    ap (λ xs. xs ++ place ∷ []) same ∙ ap (λ p. picked_places nodes model i ++ p ∷ []) here
    ∙ sym (next_places nodes model i true on)

pub picked_skip : (nodes : List Node) (model : ℕ → Bool) (i : ℕ) (old : List Place) → is_picked nodes model i ≡ false
    → old ≡ picked_places nodes model i → old ≡ picked_places nodes model (i + 1)
picked_skip nodes model i old off same = same ∙ sym (next_places nodes model i false off)
