-- The cones of the places of two nodes of a graph that have the same body: the bodies of their nodes are the same.
use Rattle.std.proofs.Common.{◌≡◌, ℕ, zero, suc, ◌+◌, ◌<◌, ◌≤◌, ◌==◌, ◌||◌, Bool, true, false, List, [], ◌∷◌, ◌++◌, length, map, refl, sym, ap, ◌∙◌, subst, arith, add-one, ⊎_elim}
use Rattle.std.specs.List.{AllByRecursion, list_any}
use Rattle.std.proofs.lemmas.Bool.{cases_Bool, cases_eq, cases_lt, eq-eqb, eqb-true, ne_eqb, or_cases}
use Rattle.law_model.specs.Places.{among, places_where}
use Rattle.law_model.proofs.PlacesWhere.{among_all, among_itself, any_in, in_any, in_picked, or_left, or_right, picked_same}
use Rattle.decide_nodes.specs.declared.node.Node.{Node}
use Rattle.decide_nodes.specs.declared.node.NodeBody.{NodeBody as Body}
use Rattle.decide_nodes.specs.declared.node.NodeBody.TheVariants.{Carried, Rule}
use Rattle.decide_nodes.specs.Nodes.{node_at}
use Rattle.decide_graph.specs.Graph.{AreOrdered, IsConeOfNode}
use Rattle.decide_graph.specs.Picked.{before_node, moved_body, moved_node, picked_of}
use Rattle.decide_graph.specs.Walk.{AreReached, read_nodes, reads_node}
use Rattle.decide_graph.proofs.GraphCones.{cone_of_node}
use Rattle.decide_graph.proofs.ReadNodes.{reads_before}

-- Whether a node is reached from another one in fewer steps than a number.
abbrev reaches : List Node → ℕ → ℕ → ℕ → Bool
reaches nodes zero node k = false
reaches nodes (suc steps) node k =
    (node == k) || list_any (λ argument. reaches nodes steps argument k) (read_nodes (node_at nodes node).body)

itself_reached : (nodes : List Node) (steps node : ℕ) → 0 < steps → reaches nodes steps node node ≡ true
itself_reached nodes zero node some = absurd (omega (arith, some))
itself_reached nodes (suc steps) node some = or_left (node == node) _ (eq-eqb node node refl)

reached_low : (nodes : List Node) → AreOrdered nodes → (steps node k : ℕ) → node < length nodes
    → reaches nodes steps node k ≡ true → k < node + 1
reached_low nodes ordered zero node k less at = cc
reached_low nodes ordered (suc steps) node k less at =
    ⊎_elim (λ (same : (node == k) ≡ true). (let is = eqb-true node k same in omega (arith, is)))
    (λ (rest : list_any (λ argument. reaches nodes steps argument k) (read_nodes (node_at nodes node).body) ≡ true).
    (let found = in_any (λ argument. reaches nodes steps argument k) (read_nodes (node_at nodes node).body) rest in
    let low = reads_before nodes node found.0 ordered less found.1 in
    let under = reached_low nodes ordered steps found.0 k (omega (arith, low, less)) found.2 in
    omega (arith, low, under))) (or_cases (node == k) _ at)

reached_closed : (nodes : List Node) → AreOrdered nodes → (steps node k argument : ℕ) → node < length nodes
    → node < steps → reaches nodes steps node k ≡ true → reads_node nodes k argument ≡ true
    → reaches nodes steps node argument ≡ true
reached_closed nodes ordered zero node k argument less deep at reads = absurd (omega (arith, deep))
reached_closed nodes ordered (suc steps) node k argument less deep at reads =
    ⊎_elim (λ (same : (node == k) ≡ true).
    (let here : reads_node nodes node argument ≡ true =
    subst (λ i. reads_node nodes i argument ≡ true) (sym (eqb-true node k same)) reads in
    let low = reads_before nodes node argument ordered less here in
    or_right (node == argument) _ (any_in (λ i. reaches nodes steps i argument) (read_nodes (node_at nodes node).body)
    argument here (itself_reached nodes steps argument (omega (arith, low, deep))))))
    (λ (rest : list_any (λ i. reaches nodes steps i k) (read_nodes (node_at nodes node).body) ≡ true).
    (let found = in_any (λ i. reaches nodes steps i k) (read_nodes (node_at nodes node).body) rest in
    let low = reads_before nodes node found.0 ordered less found.1 in
    or_right (node == argument) _ (any_in (λ i. reaches nodes steps i argument) (read_nodes (node_at nodes node).body)
    found.0 found.1 (reached_closed nodes ordered steps found.0 k argument (omega (arith, low, less))
    (omega (arith, low, deep)) found.2 reads)))) (or_cases (node == k) _ at)

reached_least : (nodes : List Node) (has : ℕ → Bool)
    → ((node argument : ℕ) → has node ≡ true → reads_node nodes node argument ≡ true → has argument ≡ true)
    → (steps node k : ℕ) → has node ≡ true → reaches nodes steps node k ≡ true → has k ≡ true
reached_least nodes has closed zero node k on at = cc
reached_least nodes has closed (suc steps) node k on at =
    ⊎_elim (λ (same : (node == k) ≡ true). subst (λ i. has i ≡ true) (eqb-true node k same) on)
    (λ (rest : list_any (λ i. reaches nodes steps i k) (read_nodes (node_at nodes node).body) ≡ true).
    (let found = in_any (λ i. reaches nodes steps i k) (read_nodes (node_at nodes node).body) rest in
    reached_least nodes has closed steps found.0 k (closed node found.0 on found.1) found.2))
    (or_cases (node == k) _ at)

abbrev reached : List Node → ℕ → ℕ → Bool
reached nodes top = reaches nodes (suc (length nodes)) top

are_reached : (nodes : List Node) → AreOrdered nodes → (top : ℕ) → top < length nodes
    → AreReached nodes top (reaches nodes (suc (length nodes)) top)
are_reached nodes ordered top less = record {
  low = λ node at. reached_low nodes ordered (suc (length nodes)) top node less at;
  closed = record {
    first = itself_reached nodes (suc (length nodes)) top (omega arith);
    each = λ node argument at reads.
        reached_closed nodes ordered (suc (length nodes)) top node argument less (omega (arith, less)) at reads;
  };
  least = λ other closed node at.
      reached_least nodes other closed.each (suc (length nodes)) top node closed.first at;
}

-- Places past the last one make no difference.
where_up : (test : ℕ → Bool) (n m : ℕ) → ((k : ℕ) → test k ≡ true → k < n) → n ≤ m
    → places_where test m ≡ places_where test n
where_up test n zero low up = let none : zero ≡ n = omega (arith, up) in ap (places_where test) none
where_up test n (suc m) low up =
    ⊎_elim (λ (same : n ≡ suc m). ap (places_where test) (sym same))
    (λ (other : n ≡ suc m → ⊥).
    (let none : test m ≡ false = ⊎_elim
    (λ (on : test m ≡ true). absurd (let less = low m on in omega (arith, less, up, other)))
    (λ (off : test m ≡ false). off) (cases_Bool (test m)) in
    rw none (where_up test n m low (omega (arith, up, other))))) (cases_eq n (suc m))

-- A body by the positions of what it reads.
mapped_same : (f g : ℕ → ℕ) (xs : List ℕ) → ((k : ℕ) → among xs k ≡ true → f k ≡ g k) → map f xs ≡ map g xs
mapped_same f g [] same = refl
mapped_same f g (x ∷ xs) same =
    rw (same x (among_itself x xs), mapped_same f g xs (λ k at. same k (or_right (x == k) (among xs k) at))) refl

moved_same : (f g : ℕ → ℕ) (body : Body) → ((k : ℕ) → among (read_nodes body) k ≡ true → f k ≡ g k)
    → moved_body f body ≡ moved_body g body
moved_same f g (Carried node inverted) same = ap (λ n. Carried n inverted) (same node (among_itself node []))
moved_same f g (Rule arguments values) same = ap (λ xs. Rule xs values) (mapped_same f g arguments same)

moved_all : (nodes : List Node) (f g : ℕ → ℕ) (spots : List ℕ) (first second : ℕ)
    → AllByRecursion (λ k. moved_body f (node_at nodes k).body ≡ moved_body g (node_at nodes k).body) spots
    → moved_body f (node_at nodes first).body ≡ moved_body g (node_at nodes second).body
    → map (λ (node : Node). node.body) (map (λ k. moved_node f (node_at nodes k)) (spots ++ first ∷ []))
    ≡ map (λ (node : Node). node.body) (map (λ k. moved_node g (node_at nodes k)) (spots ++ second ∷ []))
moved_all nodes f g [] first second all last = rw last refl
moved_all nodes f g (k ∷ spots) first second all last =
    rw (all.0, moved_all nodes f g spots first second all.1 last) refl

module _ (nodes : List Node) (ordered : AreOrdered nodes) (first second : ℕ) (first_less : first < length nodes)
    (second_less : second < length nodes) (same : (node_at nodes first).body ≡ (node_at nodes second).body) where
  -- What is reached from what they read.
  abbrev under : ℕ → Bool
  under k = list_any (λ i. reaches nodes (length nodes) i k) (read_nodes (node_at nodes first).body)

  under_second : (k : ℕ) → list_any (λ i. reaches nodes (length nodes) i k) (read_nodes (node_at nodes second).body)
      ≡ list_any (λ i. reaches nodes (length nodes) i k) (read_nodes (node_at nodes first).body)
  under_second k = ap (λ (b : Body). list_any (λ i. reaches nodes (length nodes) i k) (read_nodes b)) (sym same)

  read_low : (k : ℕ) → among (read_nodes (node_at nodes first).body) k ≡ true → (k < first) × (k < second)
  read_low k at = (
    reads_before nodes first k ordered first_less at,
    reads_before nodes second k ordered second_less (subst (λ (b : Body). among (read_nodes b) k ≡ true) same at),
  )

  under_low : (k : ℕ) → under k ≡ true → (k < first) × (k < second)
  under_low k at =
      let found = in_any (λ i. reaches nodes (length nodes) i k) (read_nodes (node_at nodes first).body) at in
      let low = read_low found.0 found.1 in
      let low_first = low.0 in
      let low_second = low.1 in
      let up = reached_low nodes ordered (length nodes) found.0 k (omega (arith, low_first, first_less)) found.2 in
      (omega (arith, low_first, up), omega (arith, low_second, up))

  under_closed : (k argument : ℕ) → under k ≡ true → reads_node nodes k argument ≡ true → under argument ≡ true
  under_closed k argument at reads =
      let found = in_any (λ i. reaches nodes (length nodes) i k) (read_nodes (node_at nodes first).body) at in
      let low = (read_low found.0 found.1).0 in
      any_in (λ i. reaches nodes (length nodes) i argument) (read_nodes (node_at nodes first).body) found.0 found.1
      (reached_closed nodes ordered (length nodes) found.0 k argument (omega (arith, low, first_less))
      (omega (arith, low, first_less)) found.2 reads)

  on_first : (k : ℕ) → k < first → reached nodes first k ≡ under k
  on_first k less = rw (ne_eqb first k (λ (is : first ≡ k). omega (arith, is, less))) refl

  on_second : (k : ℕ) → k < second → reached nodes second k ≡ under k
  on_second k less = rw (ne_eqb second k (λ (is : second ≡ k). omega (arith, is, less))) (under_second k)

  spots_same : places_where under second ≡ places_where under first
  spots_same = ⊎_elim
      (λ (up : first < second). where_up under first second (λ k at. (under_low k at).0) (omega (arith, up)))
      (λ (up : second ≤ first). sym (where_up under second first (λ k at. (under_low k at).1) up))
      (cases_lt first second)

  spots_first : places_where (reached nodes first) (first + 1) ≡ places_where under first ++ first ∷ []
  spots_first = rw (add-one, itself_reached nodes (suc (length nodes)) first (omega arith))
      (ap (λ xs. xs ++ first ∷ []) (picked_same (reached nodes first) under first on_first))

  spots_second : places_where (reached nodes second) (second + 1) ≡ places_where under first ++ second ∷ []
  spots_second = rw (add-one, itself_reached nodes (suc (length nodes)) second (omega arith))
      (ap (λ xs. xs ++ second ∷ []) (picked_same (reached nodes second) under second on_second ∙ spots_same))

  before_same : (k : ℕ) → k < first → k < second
      → before_node (reached nodes first) k ≡ before_node (reached nodes second) k
  before_same k low also =
      ap length (picked_same (reached nodes first) under k (λ i less. on_first i (omega (arith, less, low)))
      ∙ sym (picked_same (reached nodes second) under k (λ i less. on_second i (omega (arith, less, also)))))

  spot_same : (k : ℕ) → among (places_where under first) k ≡ true
      → moved_body (before_node (reached nodes first)) (node_at nodes k).body
      ≡ moved_body (before_node (reached nodes second)) (node_at nodes k).body
  spot_same k at = moved_same (before_node (reached nodes first)) (before_node (reached nodes second))
      (node_at nodes k).body
      (λ argument reads. (let low = under_low argument (under_closed k argument (in_picked under first k at).1 reads) in
      before_same argument low.0 low.1))

  last_same : moved_body (before_node (reached nodes first)) (node_at nodes first).body
      ≡ moved_body (before_node (reached nodes second)) (node_at nodes second).body
  last_same = moved_same (before_node (reached nodes first)) (before_node (reached nodes second))
      (node_at nodes first).body
      (λ argument reads. (let low = read_low argument reads in before_same argument low.0 low.1))
      ∙ ap (moved_body (before_node (reached nodes second))) same

  cones_same : map (λ (node : Node). node.body) (picked_of nodes (reached nodes first) (first + 1))
      ≡ map (λ (node : Node). node.body) (picked_of nodes (reached nodes second) (second + 1))
  cones_same =
      ap (λ xs. map (λ (node : Node). node.body)
      (map (λ k. moved_node (before_node (reached nodes first)) (node_at nodes k)) xs)) spots_first
      ∙ moved_all nodes (before_node (reached nodes first)) (before_node (reached nodes second))
      (places_where under first) first second (among_all _ (places_where under first) spot_same) last_same
      ∙ ap (λ xs. map (λ (node : Node). node.body)
      (map (λ k. moved_node (before_node (reached nodes second)) (node_at nodes k)) xs)) (sym spots_second)

  pub same_cones : (cone : List Node) × (other : List Node) × IsConeOfNode nodes first cone
      × IsConeOfNode nodes second other
      × (map (λ (node : Node). node.body) cone ≡ map (λ (node : Node). node.body) other)
  same_cones = (
    picked_of nodes (reached nodes first) (first + 1),
    picked_of nodes (reached nodes second) (second + 1),
    cone_of_node nodes ordered first first_less (reached nodes first) (are_reached nodes ordered first first_less)
        (picked_of nodes (reached nodes first) (first + 1)) refl,
    cone_of_node nodes ordered second second_less (reached nodes second) (are_reached nodes ordered second second_less)
        (picked_of nodes (reached nodes second) (second + 1)) refl,
    cones_same,
  )
