-- Nodes by their positions, node after node.
use Rattle.std.proofs.Common.{◌≡◌, ℕ, zero, suc, ◌+◌, ◌<◌, ◌≤◌, ◌==◌, Bool, true, false, List, [], ◌∷◌, ◌++◌, length, map, reverse, refl, sym, ap, ◌∙◌, subst, arith, length-append, slice_index, slice_set, if◌then◌else◌, ⊎_elim, append-nil, append_assoc}
use Rattle.std.specs.List.{AllByRecursion}
use Rattle.std.proofs.Math.Seq.{get_or-append_seam}
use Rattle.std.proofs.lemmas.Bool.{cases_eq, eq-eqb, eqb-true, or_cases}
use Rattle.std.proofs.lemmas.List.{get_or-set_other, length-map, length-reverse, length-set, map-append, reverse-append}
use Rattle.std.proofs.lemmas.Grind.{get_or-set_at}
use Rattle.std.proofs.lemmas.List.Folds.{list_any-append}
use Rattle.law_model.specs.Places.{among, places_where}
use Rattle.law_model.proofs.PlacesWhere.{all_among, among_all, or_left, or_right, picked_rises}
use Rattle.decide_graph.specs.Reached.{IsFalling}
use Rattle.decide_graph.proofs.FallingPlaces.{falling_is}
use Rattle.decide_nodes.specs.declared.node.Node.{Node}
use Rattle.decide_nodes.specs.declared.node.NodeBody.{NodeBody as Body}
use Rattle.decide_nodes.specs.declared.node.NodeBody.TheVariants.{Carried, Rule}
use Rattle.decide_nodes.specs.Nodes.{StandsAt, node_at}
use Rattle.decide_nodes.proofs.RisingNumbers.{place_position}
use Rattle.decide_graph.specs.Graph.{AreOrdered}
use Rattle.decide_graph.specs.Picked.{before_node, moved_body, moved_node, picked_by}
use Rattle.decide_graph.specs.Walk.{AreAllTaken, read_nodes, is_taken, reads_node}
use Rattle.decide_graph.proofs.ReadNodes.{reads_before}
use Rattle.decide_graph.proofs.Rising.{one_position}

pub few_where : (test : ℕ → Bool) (n : ℕ) → length (places_where test n) ≤ n
few_where test zero = omega arith
few_where test (suc n) = one (test n) (few_where test n)
  where
    one : (b : Bool) → length (places_where test n) ≤ n
        → length (if b then places_where test n ++ n ∷ [] else places_where test n) ≤ suc n
    one true ih = let long = length-append (places_where test n) (n ∷ []) in omega (arith, long, ih)
    one false ih = omega (arith, ih)

-- Of the nodes that are taken some are left, and those after them are picked, by their positions.
pub record ArePicked (nodes : List Node) (taken rest positions : List ℕ) (picked : List Node) : Type 0 where
  pub back : List ℕ
  pub parts : rest ++ back ≡ taken
  pub are : picked ≡ map (λ node. moved_node (before_node (is_taken taken)) (node_at nodes node)) (reverse back)
  pub before : (node : ℕ) → among back node ≡ true → slice_index positions node ≡ before_node (is_taken taken) node
  pub room : length nodes ≤ length positions

pub stands_more : (n m : ℕ) (body : Body) → n ≤ m → StandsAt n body → StandsAt m body
stands_more n m (Carried node inverted) up stands = omega (arith, up, stands)
stands_more n m (Rule arguments values) up stands = record {
  few = stands.few;
  before = among_all (λ a. a < m) arguments (λ a at. (let low = all_among (λ a. a < n) arguments a stands.before at in omega (arith, low, up)));
  long = stands.long;
}

map_reads : (f g : ℕ → ℕ) (xs : List ℕ) → ((k : ℕ) → among xs k ≡ true → f k ≡ g k) → map f xs ≡ map g xs
map_reads f g [] same = refl
map_reads f g (x ∷ xs) same =
    rw (
      same x (or_left (x == x) (among xs x) (eq-eqb x x refl)),
      map_reads f g xs (λ k at. same k (or_right (x == k) (among xs k) at)),
    ) refl

body_same : (f g : ℕ → ℕ) (body : Body) → ((k : ℕ) → among (read_nodes body) k ≡ true → f k ≡ g k)
    → moved_body f body ≡ moved_body g body
body_same f g (Carried node inverted) same =
    ap (λ k. Carried k inverted) (same node (or_left (node == node) false (eq-eqb node node refl)))
body_same f g (Rule arguments values) same = ap (λ xs. Rule xs values) (map_reads f g arguments same)

falls_over : (xs : List ℕ) (y : ℕ) (ys : List ℕ) → IsFalling (xs ++ y ∷ ys) → AllByRecursion (λ x. y < x) xs
falls_over [] y ys falls = tt
falls_over (x ∷ xs) y ys falls = (
  all_among (λ k. k < x) (xs ++ y ∷ ys) y falls.0
      (list_any-append (λ i. i == y) xs (y ∷ ys) ∙ or_right (among xs y) (among (y ∷ ys) y)
      (or_left (y == y) (among ys y) (eq-eqb y y refl))),
  falls_over xs y ys falls.1,
)

module _ (nodes : List Node) (taken rest left positions : List ℕ) (picked : List Node) (node : ℕ) (kept : AreOrdered nodes)
    (all : AreAllTaken nodes taken) (so : ArePicked nodes taken rest positions picked) (pops : rest ≡ left ++ node ∷ []) where
  whole : left ++ node ∷ so.back ≡ taken
  whole = sym (append_assoc left (node ∷ []) so.back) ∙ ap (λ xs. xs ++ so.back) (sym pops) ∙ so.parts

  in_taken : is_taken taken node ≡ true
  in_taken = subst (λ xs. among xs node ≡ true) whole
      (list_any-append (λ i. i == node) left (node ∷ so.back) ∙ or_right (among left node) (among (node ∷ so.back) node)
      (or_left (node == node) (among so.back node) (eq-eqb node node refl)))

  pub node_within : node < length nodes
  node_within = all_among (λ k. k < length nodes) taken node all.within in_taken

  pub node_room : node < length positions
  node_room = let low = node_within in let up = so.room in omega (arith, low, up)

  ascending : reverse taken ≡ places_where (is_taken taken) (length nodes)
  ascending = falling_is (length nodes) (is_taken taken) taken all.falls all.within (λ k less. refl)

  seam : slice_index (places_where (is_taken taken) (length nodes)) (length so.back) ≡ node
  seam = ap (λ xs. slice_index xs (length so.back)) (sym ascending ∙ ap reverse (sym whole)
      ∙ reverse-append left (node ∷ so.back) ∙ ap (λ xs. xs ++ reverse left) (reverse-append (node ∷ []) so.back)
      ∙ append_assoc (reverse so.back) (node ∷ []) (reverse left))
      ∙ subst (λ n. slice_index (reverse so.back ++ node ∷ reverse left) n ≡ node) (length-reverse so.back)
      (get_or-append_seam (reverse so.back) node (reverse left) 0)

  long : length (places_where (is_taken taken) (length nodes)) ≡ length left + 1 + length so.back
  long = ap length (sym ascending) ∙ length-reverse taken ∙ ap length (sym whole)
      ∙ (let l = length-append left (node ∷ so.back) in omega (arith, l))

  -- As many are picked as stand before the node.
  pub picked_count : length picked ≡ before_node (is_taken taken) node
  picked_count =
      ap length so.are ∙ length-map (reverse so.back) (λ node. moved_node (before_node (is_taken taken)) (node_at nodes node))
      ∙ length-reverse so.back
      ∙ (let at = place_position (is_taken taken) (length nodes) node node_within in_taken in
      one_position (places_where (is_taken taken) (length nodes)) (length so.back) (before_node (is_taken taken) node)
      (picked_rises (is_taken taken) (length nodes)) (let l = long in omega (arith, l)) at.0 (seam ∙ sym at.1))

  pub picked_small : length picked < length nodes
  picked_small =
      let same = picked_count in
      let few = few_where (is_taken taken) node in
      let low = node_within in omega (arith, same, few, low)

  read_back : (k : ℕ) → reads_node nodes node k ≡ true → among so.back k ≡ true
  read_back k at =
      let low = reads_before nodes node k kept node_within at in
      let inside : among (left ++ node ∷ so.back) k ≡ true =
      subst (λ xs. among xs k ≡ true) (sym whole) (all.closed node k in_taken at) in
      ⊎_elim (λ (e : among left k ≡ true).
      absurd (let over = all_among (λ x. node < x) left k (falls_over left node so.back (subst IsFalling (sym whole) all.falls)) e in
      omega (arith, over, low)))
      (λ (e : among (node ∷ so.back) k ≡ true). ⊎_elim
      (λ (d : (node == k) ≡ true). absurd (let same = eqb-true node k d in omega (arith, same, low)))
      (λ (d : among so.back k ≡ true). d) (or_cases (node == k) (among so.back k) e))
      (or_cases (among left k) (among (node ∷ so.back) k) (sym (list_any-append (λ i. i == k) left (node ∷ so.back)) ∙ inside))

  -- With the node.
  module _ (now : List ℕ) (sets : now ≡ slice_set positions node (length picked)) where
    pub now_room : length nodes ≤ length now
    now_room = let same = ap length sets ∙ length-set positions node (length picked) in let up = so.room in omega (arith, same, up)

    pub node_stands : StandsAt (length now) (node_at nodes node).body
    node_stands = stands_more node (length now) (node_at nodes node).body
        (let up = now_room in let low = node_within in omega (arith, up, low)) (kept.each node node_within)

    own_position : slice_index now node ≡ before_node (is_taken taken) node
    own_position = ap (λ xs. slice_index xs node) sets
        ∙ get_or-set_at positions node node (length picked) 0 refl node_room ∙ picked_count

    back_position : (k : ℕ) → among so.back k ≡ true → slice_index now k ≡ before_node (is_taken taken) k
    back_position k at = ⊎_elim (λ (same : node ≡ k). subst (λ i. slice_index now i ≡ before_node (is_taken taken) i) same own_position)
        (λ (other : node ≡ k → ⊥). ap (λ xs. slice_index xs k) sets
        ∙ get_or-set_other positions node k (length picked) 0 (λ e. other (sym e)) ∙ so.before k at) (cases_eq node k)

    pub picked_more : (new : Node) (more : List Node) → new ≡ moved_node (slice_index now) (node_at nodes node)
        → more ≡ picked ++ new ∷ [] → ArePicked nodes taken left now more
    picked_more new more new_is more_is = record {
      back = node ∷ so.back;
      parts = whole;
      are = more_is ∙ ap (λ xs. xs ++ new ∷ []) so.are
          ∙ ap (λ (x : Node). map (λ node. moved_node (before_node (is_taken taken)) (node_at nodes node)) (reverse so.back) ++ x ∷ [])
          (new_is ∙ ap (λ (b : Body). record { place = (node_at nodes node).place; body = b })
          (body_same (slice_index now) (before_node (is_taken taken)) (node_at nodes node).body
          (λ k at. back_position k (read_back k at))))
          ∙ sym (ap (map (λ node. moved_node (before_node (is_taken taken)) (node_at nodes node))) (reverse-append (node ∷ []) so.back)
          ∙ map-append (λ node. moved_node (before_node (is_taken taken)) (node_at nodes node)) (reverse so.back) (node ∷ []));
      before = λ k at. ⊎_elim (λ (e : (node == k) ≡ true).
          subst (λ i. slice_index now i ≡ before_node (is_taken taken) i) (eqb-true node k e) own_position)
          (λ (e : among so.back k ≡ true). back_position k e) (or_cases (node == k) (among so.back k) at);
      room = now_room;
    }

pub picked_none : (nodes : List Node) (taken positions : List ℕ) (picked : List Node) → length nodes ≤ length positions
    → picked ≡ [] → ArePicked nodes taken taken positions picked
picked_none nodes taken positions picked room none = record {
  back = [];
  parts = append-nil taken;
  are = none;
  before = λ node at. (let no : false ≡ true = at in cc);
  room = room;
}

pub picked_all : (nodes : List Node) (taken rest positions : List ℕ) (picked : List Node)
    → ArePicked nodes taken rest positions picked → rest ≡ [] → picked ≡ picked_by nodes taken
picked_all nodes taken rest positions picked so none =
    so.are ∙ ap (λ xs. map (λ node. moved_node (before_node (is_taken taken)) (node_at nodes node)) (reverse xs))
    (ap (λ xs. xs ++ so.back) (sym none) ∙ so.parts)
