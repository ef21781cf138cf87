-- Nodes that are made of the places of a cone, the least first.
use Rattle.std.proofs.Common.{◌≡◌, ℕ, ◌+◌, ◌<◌, ◌≤◌, ◌^◌, ◌==◌, true, Result, Ok, Err, IfOk, List, [], ◌∷◌, ◌++◌, length, map, reverse, slice_index, refl, sym, ap, ◌∙◌, subst, arith, ◌⊎◌, inl, inr, ⊎_elim, append_assoc, length-append}
use Rattle.std.specs.List.{AllByRecursion}
use Rattle.std.specs.List.Sorted.{IsStrictlyIncreasing}
use Rattle.std.proofs.Math.ListN.{get_or-append}
use Rattle.std.proofs.Math.Seq.{get_or-append_seam}
use Rattle.std.proofs.lemmas.Bool.{cases_eq, eq-eqb}
use Rattle.std.proofs.lemmas.List.{append-nil, length-map, length-reverse, map-append, reverse-append}
use Rattle.design_cell.specs.declared.value.Value.{Value}
use Rattle.design_circuit.specs.declared.place.Place.{Place}
use Rattle.design_circuit.specs.declared.waveform.Written.{Written}
use Rattle.design_circuit.specs.Fits.{Fits, place_at}
use Rattle.design_circuit.specs.Job.{Job, places_of}
use Rattle.design_circuit.specs.Waveform.{certain}
use Rattle.law_model.specs.Cone.{cone, in_cone, is_carried, supports}
use Rattle.law_model.specs.Laws.{InReach}
use Rattle.law_model.specs.Node.{IsBody}
use Rattle.law_model.specs.Places.{among}
use Rattle.law_model.specs.declared.class.ClassByNumber.TheVariants as class
use Rattle.law_model.proofs.Cones.{cone_closed, cone_self, cone_within, supports_below}
use Rattle.law_model.proofs.PlacesWhere.{all_among, among_all, contains_among, in_picked, or_left, or_right, picked_in, picked_rises}
use Rattle.law_model.proofs.TracedCones.{values_are}
use Rattle.wave_proved.specs.Contents.{Contents, IsWave, class_in, job}
use Rattle.decide_nodes.specs.Nodes.{StandsAt, body_at, body_of, no_node, node_at, place_of_node}
use Rattle.decide_nodes.specs.Traced.{IsWholeCone}
use Rattle.decide_nodes.specs.declared.node.Node.{Node}
use Rattle.decide_nodes.specs.declared.node.NodeBody.{NodeBody as Body}
use Rattle.decide_nodes.specs.declared.node.NodeBody.TheVariants as node
use Rattle.decide_cone.specs.Placed.{IsPlaced}
use Rattle.decide_graph.specs.Traced.{AreTraced, IsBodyOf, supports_in}
use Rattle.decide_graph.specs.declared.traced.TracedBody.{TracedBody}
use Rattle.decide_graph.specs.declared.traced.TracedBody.TheVariants.{Carried, Rule}
use Rattle.decide_graph.proofs.RisingLists.{front_increases, stands_before}
use Rattle.decide_cone.proofs.TracedBodies.{supports_are}

-- What is made so far of a cone: its first places, with their nodes, and those that are left, the greatest first.
pub record IsMade (j : Job) (c : ℕ → Value) (root : ℕ) (places rest : List ℕ) (nodes : List Node) : Type 0 where
  pub parts : places ++ reverse rest ≡ cone j c root
  pub named : map place_of_node nodes ≡ map (place_at j) places
  pub bodies : (position : ℕ) → position < length nodes
      → IsBody j c (cone j c root) (slice_index (cone j c root) position) (body_at nodes position)
  pub stands : (position : ℕ) → position < length nodes → StandsAt position (node_at nodes position).body

pub made_begins : (j : Job) (c : ℕ → Value) (root : ℕ) (places rest : List ℕ) (nodes : List Node)
    → AreTraced j c root rest → places ≡ [] → nodes ≡ [] → IsMade j c root places rest nodes
made_begins j c root places rest nodes traced none none_too =
    subst (λ ps. IsMade j c root ps rest nodes) (sym none)
    (subst (λ ns. IsMade j c root [] rest ns) (sym none_too) (record {
      parts = traced;
      named = refl;
      bodies = λ position less. absurd (omega arith);
      stands = λ position less. absurd (omega arith);
    }))

-- The last of those that are left comes next, behind the places before it.
pub record IsNext (j : Job) (c : ℕ → Value) (root : ℕ) (places : List ℕ) (next : ℕ) (left : List ℕ) : Type 0 where
  pub parts : places ++ next ∷ reverse left ≡ cone j c root

pub made_next : (j : Job) (c : ℕ → Value) (root : ℕ) (places rest left : List ℕ) (next : ℕ) (nodes : List Node)
    → IsMade j c root places rest nodes → rest ≡ left ++ next ∷ [] → IsNext j c root places next left
made_next j c root places rest left next nodes made rest_is = record {
  parts = sym (ap (λ xs. places ++ xs) (ap reverse rest_is ∙ reverse-append left (next ∷ []))) ∙ made.parts;
}

cone_rises : (j : Job) (c : ℕ → Value) (root : ℕ) → IsStrictlyIncreasing (cone j c root)
cone_rises j c root = picked_rises (in_cone j c root) (root + 1)

pub next_rises : (j : Job) (c : ℕ → Value) (root : ℕ) (places : List ℕ) (next : ℕ) (left : List ℕ)
    → IsNext j c root places next left → IsStrictlyIncreasing places
next_rises j c root places next left is =
    front_increases places (next ∷ reverse left)
    (subst IsStrictlyIncreasing (sym is.parts) (cone_rises j c root))

-- A cone has as many places as were traced.
pub few_traced : (j : Job) (c : ℕ → Value) (root : ℕ) (traced : List ℕ) → AreTraced j c root traced
    → length traced ≤ 2 ^ 27 → length (cone j c root) ≤ 2 ^ 27
few_traced j c root traced are few =
    let same = ap length are in
    let long = length-reverse traced in
    omega (arith, same, long, few)

pub next_few : (j : Job) (c : ℕ → Value) (root : ℕ) (places : List ℕ) (next : ℕ) (left : List ℕ)
    → length (cone j c root) ≤ 2 ^ 27 → IsNext j c root places next left → length places < 2 ^ 27
next_few j c root places next left few is =
    let whole = ap length is.parts in
    let long = length-append places (next ∷ reverse left) in
    omega (arith, few, whole, long)

in_here : (xs : List ℕ) (p : ℕ) (ys : List ℕ) → among (xs ++ p ∷ ys) p ≡ true
in_here [] p ys = or_left (p == p) (among ys p) (eq-eqb p p refl)
in_here (x ∷ xs) p ys = or_right (x == p) (among (xs ++ p ∷ ys) p) (in_here xs p ys)

next_in : (j : Job) (c : ℕ → Value) (root : ℕ) (places : List ℕ) (next : ℕ) (left : List ℕ)
    → IsNext j c root places next left → (next < root + 1) × (in_cone j c root next ≡ true)
next_in j c root places next left is =
    in_picked (in_cone j c root) (root + 1) next
    (subst (λ xs. among xs next ≡ true) is.parts (in_here places next (reverse left)))

-- It is in reach where the root is.
pub next_reach : (j : Job) (c : ℕ → Value) (waveform : List Written) (root : ℕ) (places : List ℕ) (next : ℕ)
    (left : List ℕ) → InReach j waveform root → IsNext j c root places next left → InReach j waveform next
next_reach j c waveform root places next left reach is =
    let low = (next_in j c root places next left is).0 in
    let written = reach.written in
    let within = reach.within in
    record { written = omega (arith, low, written); within = omega (arith, low, within) }

-- Its supports stand before it.
pub next_supports : (j : Job) → Fits j → (c : ℕ → Value) (root : ℕ) (places : List ℕ) (next : ℕ) (left : List ℕ)
    (body : TracedBody) → root < places_of j → IsNext j c root places next left → IsBodyOf j c next body
    → AllByRecursion (λ k. among places k ≡ true) (supports_in body)
next_supports j fits c root places next left body within is of_place =
    subst (AllByRecursion (λ k. among places k ≡ true)) (sym (supports_are j c next body of_place))
    (among_all _ (supports j c next) before)
  where
    of_cone : in_cone j c root next ≡ true
    of_cone = (next_in j c root places next left is).1

    before : (k : ℕ) → among (supports j c next) k ≡ true → among places k ≡ true
    before k at =
        let up = cone_within j fits c root next within of_cone in
        let low : k < next = all_among (λ i. i < next) (supports j c next) k
        (supports_below j fits c next (omega (arith, up, within))) at in
        let inside = cone_closed j fits c root next k within of_cone at in
        let there : among (cone j c root) k ≡ true = picked_in (in_cone j c root) (root + 1) k (omega (arith, low, up)) inside in
        stands_before places next (reverse left) k (subst IsStrictlyIncreasing (sym is.parts) (cone_rises j c root))
        (subst (λ xs. among xs k ≡ true) (sym is.parts) there) low

front_index : (xs ys : List ℕ) (i : ℕ) → i < length xs → slice_index (xs ++ ys) i ≡ slice_index xs i
front_index xs ys i less = get_or-append xs ys 0 i less

front_map : (xs ys positions : List ℕ) → AllByRecursion (λ p. p < length xs) positions
    → map (slice_index (xs ++ ys)) positions ≡ map (slice_index xs) positions
front_map xs ys [] within = refl
front_map xs ys (p ∷ ps) within = rw (front_index xs ys p within.0, front_map xs ys ps within.1) refl

all_up : (a b : ℕ) (xs : List ℕ) → a ≤ b → AllByRecursion (λ p. p < a) xs → AllByRecursion (λ p. p < b) xs
all_up a b [] up all = tt
all_up a b (x ∷ xs) up all = ((let less = all.0 in omega (arith, less, up)), all_up a b xs up all.1)

-- A body by positions among the first places of the cone is that of the place.
placed_body : (j : Job) → Fits j → (c : ℕ → Value) (place : ℕ) (places others : List ℕ) (body : TracedBody)
    (made : Body) → place < places_of j → IsBodyOf j c place body → IsPlaced places body made
    → IsBody j c (places ++ others) place (body_of made)
placed_body j fits c place places others (Carried from inverted) (node.Carried position flips) within is placed =
    let long = length-append places others in
    let low = placed.within in
    record {
      within = omega (arith, long, low);
      class = is ∙ ap (λ f. class.Carried f inverted) (sym (front_index places others position low ∙ placed.place))
          ∙ ap (λ b. class.Carried (slice_index (places ++ others) position) b) (sym placed.same);
    }
placed_body j fits c place places others (Carried from inverted) (node.Rule positions kept) within is placed = absurd placed
placed_body j fits c place places others (Rule arguments values) (node.Carried position flips) within is placed = absurd placed
placed_body j fits c place places others (Rule arguments values) (node.Rule positions kept) within is placed =
    let long = length-append places others in
    record {
      free = is.free;
      within = all_up (length places) (length (places ++ others)) positions (omega (arith, long)) placed.within;
      are_essential = front_map places others positions placed.within ∙ placed.are_places ∙ is.are_essential;
      are_values = values_are j fits c place kept within (λ number less. rw (placed.same, ← is.are_essential)
          (is.is_table.are_values number (rw is.are_essential less)));
    }

-- It stands before its place.
placed_stands : (j : Job) (c : ℕ → Value) (place : ℕ) (places : List ℕ) (body : TracedBody) (made : Body)
    → IsBodyOf j c place body → IsPlaced places body made → StandsAt (length places) made
placed_stands j c place places (Carried from inverted) (node.Carried position flips) is placed = placed.within
placed_stands j c place places (Carried from inverted) (node.Rule positions kept) is placed = absurd placed
placed_stands j c place places (Rule arguments values) (node.Carried position flips) is placed = absurd placed
placed_stands j c place places (Rule arguments values) (node.Rule positions kept) is placed =
    let same : length positions ≡ length arguments = sym (length-map positions (slice_index places))
    ∙ ap length placed.are_places in
    let few = is.few in
    record {
      few = omega (arith, same, few);
      before = placed.within;
      long = ap length placed.same ∙ is.is_table.long ∙ ap (λ n. 2 ^ n) (sym same);
    }

pub next_within : (j : Job) (c : ℕ → Value) (root : ℕ) (places : List ℕ) (next : ℕ) (left : List ℕ)
    → root < places_of j → IsNext j c root places next left → next < places_of j
next_within j c root places next left within is =
    let low = (next_in j c root places next left is).0 in omega (arith, low, within)

length_named : (j : Job) (places : List ℕ) (nodes : List Node) → map place_of_node nodes ≡ map (place_at j) places
    → length nodes ≡ length places
length_named j places nodes named =
    sym (length-map nodes place_of_node) ∙ ap length named ∙ length-map places (place_at j)

last_or_before : (n k : ℕ) → k < n + 1 → (k ≡ n) ⊎ (k < n)
last_or_before n k less = ⊎_elim (λ (e : k ≡ n). inl e) (λ (e : k ≡ n → ⊥). inr (omega arith)) (cases_eq k n)

pushed : (j : Job) → Fits j → (c : ℕ → Value) (root : ℕ) (places rest left : List ℕ) (next : ℕ) (nodes : List Node)
    (traced : TracedBody) (body : Body) → root < places_of j → IsMade j c root places rest nodes
    → IsNext j c root places next left → IsBodyOf j c next traced → IsPlaced places traced body
    → IsMade j c root (places ++ next ∷ []) left (nodes ++ record { place = place_at j next; body = body } ∷ [])
pushed j fits c root places rest left next nodes traced body within made is of_place placed = record {
  parts = append_assoc places (next ∷ []) (reverse left) ∙ is.parts;
  named = map-append place_of_node nodes (last ∷ []) ∙ ap (λ xs. xs ++ place_at j next ∷ []) made.named
      ∙ sym (map-append (place_at j) places (next ∷ []));
  bodies = λ position less. ⊎_elim (last_body position) (old_body position)
      (last_or_before (length nodes) position (more position less));
  stands = λ position less. ⊎_elim (last_stands position) (old_stands position)
      (last_or_before (length nodes) position (more position less));
}
  where
    last : Node
    last = record { place = place_at j next; body = body }

    whole : List ℕ
    whole = cone j c root

    more : (position : ℕ) → position < length (nodes ++ last ∷ []) → position < length nodes + 1
    more position less = let long = length-append nodes (last ∷ []) in omega (arith, less, long)

    same : length nodes ≡ length places
    same = length_named j places nodes made.named

    last_at : (position : ℕ) → position ≡ length nodes → node_at (nodes ++ last ∷ []) position ≡ last
    last_at position e = ap (node_at (nodes ++ last ∷ [])) e ∙ get_or-append_seam nodes last [] no_node

    old_at : (position : ℕ) → position < length nodes → node_at (nodes ++ last ∷ []) position ≡ node_at nodes position
    old_at position less = get_or-append nodes (last ∷ []) no_node position less

    place_here : (position : ℕ) → position ≡ length nodes → slice_index whole position ≡ next
    place_here position e = ap (slice_index whole) (e ∙ same) ∙ ap (λ xs. slice_index xs (length places)) (sym is.parts)
        ∙ get_or-append_seam places next (reverse left) 0

    is_body : IsBody j c whole next (body_of body)
    is_body = subst (λ xs. IsBody j c xs next (body_of body)) is.parts
        (placed_body j fits c next places (next ∷ reverse left) traced body
        (next_within j c root places next left within is) of_place placed)

    last_body : (position : ℕ) → position ≡ length nodes
        → IsBody j c whole (slice_index whole position) (body_at (nodes ++ last ∷ []) position)
    last_body position e = subst (λ b. IsBody j c whole (slice_index whole position) b)
        (sym (ap (λ (n : Node). body_of n.body) (last_at position e)))
        (subst (λ p. IsBody j c whole p (body_of body)) (sym (place_here position e)) is_body)

    old_body : (position : ℕ) → position < length nodes
        → IsBody j c whole (slice_index whole position) (body_at (nodes ++ last ∷ []) position)
    old_body position less = subst (λ b. IsBody j c whole (slice_index whole position) b)
        (sym (ap (λ (n : Node). body_of n.body) (old_at position less))) (made.bodies position less)

    last_stands : (position : ℕ) → position ≡ length nodes → StandsAt position (node_at (nodes ++ last ∷ []) position).body
    last_stands position e = subst (λ (n : Node). StandsAt position n.body) (sym (last_at position e))
        (subst (λ p. StandsAt p body) (sym (e ∙ same))
        (placed_stands j c next places traced body of_place placed))

    old_stands : (position : ℕ) → position < length nodes → StandsAt position (node_at (nodes ++ last ∷ []) position).body
    old_stands position less = subst (λ (n : Node). StandsAt position n.body) (sym (old_at position less))
        (made.stands position less)

-- The next place with its node.
pub made_more : (j : Job) → Fits j → (c : ℕ → Value) (root : ℕ) (places all rest left : List ℕ) (next : ℕ)
    (nodes every : List Node) (place : Place) (traced : TracedBody) (body : Body) → root < places_of j
    → IsMade j c root places rest nodes → IsNext j c root places next left → IsBodyOf j c next traced
    → IsPlaced places traced body → place ≡ place_at j next
    → every ≡ nodes ++ record { place = place; body = body } ∷ [] → all ≡ places ++ next ∷ []
    → IsMade j c root all left every
made_more j fits c root places all rest left next nodes every place traced body within made is of_place placed place_is
    every_is all_is =
    subst (λ ps. IsMade j c root ps left every) (sym all_is)
    (subst (λ ns. IsMade j c root (places ++ next ∷ []) left ns)
    (sym (every_is ∙ ap (λ (p : Place). nodes ++ record { place = p; body = body } ∷ []) place_is))
    (pushed j fits c root places rest left next nodes traced body within made is of_place placed))

-- Where none is left, the nodes are the cone.
pub made_ends : (c : Contents) (root : ℕ) (places rest : List ℕ) (nodes : List Node) → IsWave c
    → InReach (job c) c.written root → class_in c root ≡ class.Line
    → length (cone (job c) (certain c.written) root) ≤ 2 ^ 27
    → IsMade (job c) (certain c.written) root places rest nodes → rest ≡ [] → IsWholeCone c root nodes
made_ends c root places rest nodes wave reach line most made none = record {
  wave = wave;
  are_nodes = record { some = some; few = few; each = made.stands };
  reach = reach;
  free = ap is_carried line;
  places = made.named ∙ ap (map (place_at j)) all;
  bodies = made.bodies;
}
  where
    j : Job
    j = job c

    known : ℕ → Value
    known = certain c.written

    all : places ≡ cone j known root
    all = sym (append-nil places) ∙ sym (ap (λ xs. places ++ reverse xs) none) ∙ made.parts

    same : length nodes ≡ length (cone j known root)
    same = length_named j places nodes made.named ∙ ap length all

    some : 0 < length nodes
    some = (let inside = cone_self j wave.fits.fits_job known root reach.within in
        let there = contains_among (cone j known root) root
        (picked_in (in_cone j known root) (root + 1) root (omega arith) inside) in
        let less = there.1 in omega (arith, less, same))

    few : length nodes ≤ 2 ^ 27
    few = (let all_few : length (cone j known root) ≤ 2 ^ 27 = most in omega (arith, all_few, same))

pub ends_ok : {T E : Type 0} (nodes_in : T → List Node) (P : List Node → Type 0) (result : Result T E)
    (nodes : List Node) → IfOk result (λ cone. nodes_in cone ≡ nodes) → P nodes → IfOk result (λ cone. P (nodes_in cone))
ends_ok nodes_in P (Ok cone) nodes same is = subst P (sym same) is
ends_ok nodes_in P (Err e) nodes same is = tt

pub none_left : (rest : List ℕ) → length rest ≡ 0 → rest ≡ []
none_left [] none = refl
none_left (k ∷ ks) none = absurd (omega arith)
