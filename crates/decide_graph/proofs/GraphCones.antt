-- The marked nodes of a graph are the cone of the place of the node that they are reached from.
use Rattle.std.proofs.Common.{◌≡◌, ℕ, zero, suc, ◌+◌, ◌<◌, ◌&&◌, ◌==◌, not, Bool, true, false, List, [], ◌∷◌, length, map, refl, sym, ap, ◌∙◌, subst, arith, nat_lt, slice_index, slice_index_or, ⊎_elim}
use Rattle.std.specs.List.{AllByRecursion}
use Rattle.std.specs.List.Sorted.{IsStrictlyIncreasing}
use Rattle.std.proofs.lemmas.Bool.{and_from, and_parts, eqb-true, ltb-true, not-true, or_cases, lt-ltb}
use Rattle.std.proofs.lemmas.List.{get_or_default}
use Rattle.std.proofs.lemmas.List.{length-map}
use Rattle.std.proofs.lemmas.List.Elements.{Contains-get_or}
use Rattle.design_cell.specs.declared.value.Value.{Value}
use Rattle.design_circuit.specs.Fits.{Fits, place_at}
use Rattle.design_circuit.specs.Job.{Job, places_of}
use Rattle.design_circuit.specs.Waveform.{certain}
use Rattle.law_model.specs.Class.{class_of}
use Rattle.law_model.specs.Cone.{Reaches, itself, further, essentials, in_cone, is_carried, supports, supports_by}
use Rattle.law_model.specs.Places.{among, places_where}
use Rattle.law_model.specs.Query.{is_variable}
use Rattle.law_model.specs.Root.{Root, root_of}
use Rattle.law_model.specs.declared.class.ClassByNumber.{ClassByNumber}
use Rattle.law_model.specs.declared.class.ClassByNumber.TheVariants.{Local, Free, Carried as IsCarried, Line}
use Rattle.law_model.proofs.Cones.{cone_closed, cone_reaches, cone_self, cone_within, reaches_cone}
use Rattle.law_model.proofs.ConeWorlds.{free_supports}
use Rattle.law_model.proofs.PlacesWhere.{among_all, among_contains, among_itself, contains_among, in_picked}
use Rattle.law_model.proofs.Roots.{carried_below, root_carried, root_own}
use Rattle.decide_nodes.specs.OfWave.{Contents, IsWave, job}
use Rattle.decide_graph.proofs.FallingPlaces.{falling_is}
use Rattle.decide_nodes.specs.declared.node.Node.{Node}
use Rattle.decide_nodes.specs.declared.node.NodeBody.{NodeBody as Body}
use Rattle.decide_nodes.specs.declared.node.NodeBody.TheVariants.{Carried, Rule}
use Rattle.decide_nodes.specs.Nodes.{body_at, body_of, no_node, node_at, place_of_node}
use Rattle.decide_nodes.specs.Traced.{IsBodyOver, IsConeOf, IsRuledOver, turned_root}
use Rattle.decide_graph.specs.Graph.{AreOrdered, IsConeOfNode, IsGraphOf}
use Rattle.decide_graph.specs.Walk.{AreReached, AreTakenFrom, IsClosedSet, read_nodes, is_taken, reads_node}
use Rattle.decide_graph.proofs.ReadNodes.{reads_before}
use Rattle.decide_graph.proofs.ReachedCones.{at_position, cone_at, cone_long, cone_nodes, mapped_all, mark_low, node_marked, node_within, nodes_rise, reads_marked}
use Rattle.decide_graph.specs.Picked.{before_node, moved_body, moved_node, picked_by, picked_of}
use Rattle.decide_nodes.proofs.RisingNumbers.{among_where}
use Rattle.decide_graph.proofs.Rising.{index_map, rises_map, rises_upto}

-- A cone has the roots of its places.
root_at : (j : Job) → Fits j → (c : ℕ → Value) (root k : ℕ) (class : ClassByNumber) → root < places_of j
    → in_cone j c root k ≡ true → class_of j c k ≡ class
    → ((from : ℕ) (inverted : Bool) → class ≡ IsCarried from inverted → in_cone j c root from ≡ true
    → in_cone j c root (root_of j c from).place ≡ true) → in_cone j c root (root_of j c k).place ≡ true
root_at j fits c root k (Local bit) within inside is before =
    subst (λ (r : Root). in_cone j c root r.place ≡ true) (sym (root_own j c k (ap is_carried is))) inside
root_at j fits c root k Free within inside is before =
    subst (λ (r : Root). in_cone j c root r.place ≡ true) (sym (root_own j c k (ap is_carried is))) inside
root_at j fits c root k Line within inside is before =
    subst (λ (r : Root). in_cone j c root r.place ≡ true) (sym (root_own j c k (ap is_carried is))) inside
root_at j fits c root k (IsCarried from inverted) within inside is before =
    let low = cone_within j fits c root k within inside in
    let one : among (supports j c k) from ≡ true =
    subst (λ class. among (supports_by (essentials j c k) class) from ≡ true) (sym is) (among_itself from []) in
    subst (λ (r : Root). in_cone j c root r.place ≡ true)
    (sym (root_carried j fits c k from inverted (omega (arith, low, within)) is))
    (before from inverted refl (cone_closed j fits c root k from within inside one))

root_under : (j : Job) → Fits j → (c : ℕ → Value) (root n k : ℕ) → k < n → root < places_of j
    → in_cone j c root k ≡ true → in_cone j c root (root_of j c k).place ≡ true
root_under j fits c root zero k less within inside = absurd (omega arith)
root_under j fits c root (suc n) k less within inside =
    root_at j fits c root k (class_of j c k) within inside refl
    (λ from inverted is deeper. root_under j fits c root n from (let low = cone_within j fits c root k within inside in
    let under = carried_below j fits c k from inverted (omega (arith, low, within)) is in omega (arith, under, less))
    within deeper)

pub root_inside : (j : Job) → Fits j → (c : ℕ → Value) (root k : ℕ) → root < places_of j
    → in_cone j c root k ≡ true → in_cone j c root (root_of j c k).place ≡ true
root_inside j fits c root k within inside = root_under j fits c root (suc k) k (omega arith) within inside

only_among : (from k : ℕ) → among (from ∷ []) k ≡ true → from ≡ k
only_among from k at = ⊎_elim (λ (same : (from == k) ≡ true). eqb-true from k same)
    (λ (none : false ≡ true). let e : false ≡ true = none in cc) (or_cases (from == k) false at)

pub maps_at : {A B C : Type 0} (f : A → C) (g : B → C) (xs : List A) (ys : List B) (d : A) (e : B) (i : ℕ)
    → map f xs ≡ map g ys → i < length xs → f (slice_index_or xs i d) ≡ g (slice_index_or ys i e)
maps_at f g [] ys d e i same less = absurd (omega arith)
maps_at f g (x ∷ xs) [] d e i same less = cc
maps_at f g (x ∷ xs) (y ∷ ys) d e zero same less = cc
maps_at f g (x ∷ xs) (y ∷ ys) d e (suc i) same less =
    let rest : map f xs ≡ map g ys = cc in maps_at f g xs ys d e i rest (omega arith)

module _ (c : Contents) (nodes : List Node) (numbers : List ℕ) (wave : IsWave c) (graph : IsGraphOf c nodes numbers)
    (kept : AreOrdered nodes) (top : ℕ) (less : top < length nodes) where
  abbrev pub j : Job
  j = job c

  abbrev pub known : ℕ → Value
  known = certain c.written

  abbrev pub root : ℕ
  root = slice_index numbers top

  pub fits : Fits (job c)
  fits = wave.fits.fits_job

  pub count : length numbers ≡ length nodes
  count = sym (length-map numbers (place_at (job c))) ∙ sym (ap length graph.places) ∙ length-map nodes place_of_node

  pub within : slice_index numbers top < places_of (job c)
  within = (graph.reach top less).within

  own_root : (n : ℕ) → n < length nodes
      → root_of (job c) (certain c.written) (slice_index numbers n)
      ≡ record { place = slice_index numbers n; inverted = false }
  own_root n low = root_own (job c) (certain c.written) (slice_index numbers n) (graph.free n low)

  -- What a node reads has the root of what its place rests on.
  read_root : (place position argument : ℕ) (body : Body) → is_carried (class_of (job c) (certain c.written) place) ≡ false
      → IsBodyOver (job c) (certain c.written) numbers place (body_of body)
      → among (read_nodes body) argument ≡ true
      → (k : ℕ) × (among (essentials (job c) (certain c.written) place) k ≡ true)
      × ((root_of (job c) (certain c.written) k).place
      ≡ (root_of (job c) (certain c.written) (slice_index numbers argument)).place)
  read_root place position argument (Carried node inverted) free is at =
      let e : true ≡ false = sym (ap is_carried is.class) ∙ free in cc
  read_root place position argument (Rule arguments values) free is at =
      let found = contains_among arguments argument at in
      let i : ℕ = found.0 in
      let k : ℕ = slice_index (essentials (job c) (certain c.written) place) i in
      let low : i < length (essentials (job c) (certain c.written) place) = (let long = is.long in let inner = found.1 in omega (arith, long, inner)) in
      let here : slice_index arguments i ≡ argument = index_is arguments i argument found.1 found.2 in (
        k,
        among_contains (essentials (job c) (certain c.written) place) k
            (Contains-get_or (essentials (job c) (certain c.written) place) i 0 low),
        ap (λ (r : Root). r.place) (is.roots i found.1)
            ∙ ap (λ a. (root_of (job c) (certain c.written) (slice_index numbers a)).place) here,
      )
    where
      index_is : (xs : List ℕ) (i k : ℕ) → i < length xs → slice_index_or xs i k ≡ k → slice_index xs i ≡ k
      index_is xs i k low is = get_or_default xs i 0 k low ∙ is

  -- Each marked node is one of the cone.
  pub has : ℕ → Bool
  has n = nat_lt n (top + 1) && in_cone (job c) (certain c.written) (slice_index numbers top) (slice_index numbers n)

  pub closed : IsClosedSet nodes top has
  unfolding has
  closed = record {
    first = and_from _ _ (lt-ltb top (top + 1) (omega arith))
        (cone_self (job c) fits (certain c.written) (slice_index numbers top) within);
    each = λ node argument here at.
        (let parts = and_parts (nat_lt node (top + 1)) _ here in
        let up = ltb-true node (top + 1) parts.0 in
        let low : node < length nodes = omega (arith, up, less) in
        let before = reads_before nodes node argument kept low at in
        let found = read_root (slice_index numbers node) node argument (node_at nodes node).body (graph.free node low)
        (graph.bodies node low) at in
        let inside = cone_closed (job c) fits (certain c.written) (slice_index numbers top) (slice_index numbers node) found.0 within
        parts.1 (subst (λ xs. among xs found.0 ≡ true) (sym (free_supports
        (essentials (job c) (certain c.written) (slice_index numbers node))
        (class_of (job c) (certain c.written) (slice_index numbers node)) (graph.free node low))) found.1) in
        and_from _ _ (lt-ltb argument (top + 1) (omega (arith, before, up)))
        (subst (λ k. in_cone (job c) (certain c.written) (slice_index numbers top) k ≡ true)
        (found.2 ∙ ap (λ (r : Root). r.place) (own_root argument (omega (arith, before, low))))
        (root_inside (job c) fits (certain c.written) (slice_index numbers top) found.0 within inside)));
  }

  module _ (has_node : ℕ → Bool) (are : AreReached nodes top has_node) where
    pub mark_inside : (n : ℕ) → has_node n ≡ true
        → in_cone (job c) (certain c.written) (slice_index numbers top) (slice_index numbers n) ≡ true
    unfolding has
    mark_inside n on = (and_parts (nat_lt n (top + 1)) _ (are.least has closed n on)).1

    -- The root of each place of the cone is that of a marked node.
    HasMark : ℕ → Type 0
    HasMark k = (n : ℕ) × (has_node n ≡ true)
        × (slice_index numbers n ≡ (root_of (job c) (certain c.written) k).place)

    rule_mark : (n support : ℕ) (body : Body) → n < length nodes → has_node n ≡ true
        → ((argument : ℕ) → among (read_nodes body) argument ≡ true → reads_node nodes n argument ≡ true)
        → IsBodyOver (job c) (certain c.written) numbers (slice_index numbers n) (body_of body)
        → among (essentials (job c) (certain c.written) (slice_index numbers n)) support ≡ true → HasMark support
    unfolding HasMark
    rule_mark n support (Carried node inverted) low on reach is at =
        let e : true ≡ false = sym (ap is_carried is.class) ∙ graph.free n low in cc
    rule_mark n support (Rule arguments values) low on reach is at =
        let names : List ℕ = essentials (job c) (certain c.written) (slice_index numbers n) in
        let found = contains_among names support at in
        let i : ℕ = found.0 in
        let inner : i < length arguments = (let long = is.long in let near = found.1 in omega (arith, long, near)) in
        let argument : ℕ = slice_index arguments i in
        let reached = reach argument (among_contains arguments argument (Contains-get_or arguments i 0 inner)) in
        let before = reads_before nodes n argument kept low reached in
        let name : slice_index names i ≡ support = get_or_default names i 0 support found.1 ∙ found.2 in (
          argument,
          are.closed.each n argument on reached,
          sym (ap (λ k. (root_of (job c) (certain c.written) k).place) (sym name)
              ∙ ap (λ (r : Root). r.place) (is.roots i inner)
              ∙ ap (λ (r : Root). r.place) (own_root argument (omega (arith, before, low)))),
        )

    own_mark : (place support : ℕ) → is_carried (class_of (job c) (certain c.written) place) ≡ false → HasMark place
        → among (essentials (job c) (certain c.written) place) support ≡ true → HasMark support
    unfolding HasMark
    own_mark place support free has at =
        let here : slice_index numbers has.0 ≡ place =
        has.2 ∙ ap (λ (r : Root). r.place) (root_own (job c) (certain c.written) place free) in
        let low : has.0 < length nodes = (let up = mark_low nodes kept top less has_node are has.0 has.1 in omega (arith, up, less)) in
        rule_mark has.0 support (node_at nodes has.0).body low has.1 (λ argument at. at) (graph.bodies has.0 low)
        (subst (λ k. among (essentials (job c) (certain c.written) k) support ≡ true) (sym here) at)

    further_mark : (place support : ℕ) (class : ClassByNumber) → place < places_of (job c)
        → class_of (job c) (certain c.written) place ≡ class → HasMark place
        → among (supports_by (essentials (job c) (certain c.written) place) class) support ≡ true → HasMark support
    unfolding HasMark
    further_mark place support (IsCarried from inverted) low is has at = (
      has.0,
      has.1,
      has.2 ∙ ap (λ (r : Root). r.place) (root_carried (job c) fits (certain c.written) place from inverted low is)
          ∙ ap (λ k. (root_of (job c) (certain c.written) k).place) (only_among from support at),
    )
    further_mark place support (Local bit) low is has at = own_mark place support (ap is_carried is) has at
    further_mark place support Free low is has at = own_mark place support (ap is_carried is) has at
    further_mark place support Line low is has at = own_mark place support (ap is_carried is) has at

    reached_mark : (k : ℕ) → Reaches (job c) (certain c.written) (slice_index numbers top) k → HasMark k
    unfolding HasMark
    reached_mark _ itself = (top, are.closed.first, sym (ap (λ (r : Root). r.place) (own_root top less)))
    reached_mark _ (further place support reaches at) =
        let inside = reaches_cone (job c) fits (certain c.written) (slice_index numbers top) place within reaches in
        let low = cone_within (job c) fits (certain c.written) (slice_index numbers top) place within inside in
        further_mark place support (class_of (job c) (certain c.written) place)
        (let up = within in omega (arith, low, up)) refl (reached_mark place reaches) at

    -- So each variable is the place of a marked node.
    pub variable_mark : (k : ℕ) → is_variable (job c) (certain c.written) (slice_index numbers top) k ≡ true
        → (n : ℕ) × (has_node n ≡ true) × (slice_index numbers n ≡ k)
    unfolding HasMark
    variable_mark k is =
        let parts = and_parts (in_cone (job c) (certain c.written) (slice_index numbers top) k)
        (not (is_carried (class_of (job c) (certain c.written) k))) is in
        let has = reached_mark k (cone_reaches (job c) fits (certain c.written) (slice_index numbers top) k within parts.0) in
        (has.0, has.1, has.2 ∙ ap (λ (r : Root). r.place) (root_own (job c) (certain c.written) k (not-true _ parts.1)))

    -- The marked nodes, and the numbers of their places.
    abbrev pub marked_nodes : List ℕ
    marked_nodes = places_where has_node (top + 1)

    abbrev pub marked_places : List ℕ
    marked_places = map (slice_index numbers) marked_nodes

    places_rise : IsStrictlyIncreasing marked_places
    places_rise = rises_map numbers marked_nodes graph.rises (nodes_rise nodes kept top less has_node are)
        (λ p low. (let near = node_within nodes kept top less has_node are p low in let all = count in omega (arith, near, all)))

    place_low : (p : ℕ) → p < length marked_places → slice_index marked_places p < slice_index numbers top + 1
    place_low p low =
        let long = length-map marked_nodes (slice_index numbers) in
        let here = index_map (slice_index numbers) marked_nodes p (omega (arith, low, long)) in
        let at = (node_marked nodes kept top less has_node are p (omega (arith, low, long))).0 in
        let up = rises_upto numbers (slice_index marked_nodes p) top graph.rises (omega (arith, at))
        (let all = count in omega (arith, less, all)) in
        omega (arith, here, up)

    -- The places of the cone at which there is a node.
    abbrev pub keeps : ℕ → Bool
    keeps k = among marked_places k

    pub kept_are : places_where keeps (slice_index numbers top + 1) ≡ marked_places
    kept_are = among_where marked_places (slice_index numbers top + 1) places_rise place_low

    place_there : (n : ℕ) → has_node n ≡ true
        → slice_index marked_places (before_node has_node n) ≡ slice_index numbers n
    place_there n on = index_map (slice_index numbers) marked_nodes (before_node has_node n) (at_position nodes kept top less has_node are n on).0
        ∙ ap (slice_index numbers) (at_position nodes kept top less has_node are n on).1

    keeps_inside : (k : ℕ) → keeps k ≡ true → in_cone (job c) (certain c.written) (slice_index numbers top) k ≡ true
    keeps_inside k at =
        let found = contains_among marked_places k at in
        let p : ℕ = found.0 in
        let long = length-map marked_nodes (slice_index numbers) in
        let low : p < length marked_nodes = (let up = found.1 in omega (arith, up, long)) in
        let same : slice_index numbers (slice_index marked_nodes p) ≡ k =
        sym (index_map (slice_index numbers) marked_nodes p low) ∙ get_or_default marked_places p 0 k found.1 ∙ found.2 in
        subst (λ i. in_cone (job c) (certain c.written) (slice_index numbers top) i ≡ true) same
        (mark_inside (slice_index marked_nodes p) (node_marked nodes kept top less has_node are p low).1)

    keeps_variable : (k : ℕ) → is_variable (job c) (certain c.written) (slice_index numbers top) k ≡ true
        → keeps k ≡ true
    keeps_variable k is =
        let has = variable_mark k is in
        let at = at_position nodes kept top less has_node are has.0 has.1 in
        let long = length-map marked_nodes (slice_index numbers) in
        let near = at.0 in
        subst (λ i. among marked_places i ≡ true) (place_there has.0 has.1 ∙ has.2)
        (among_contains marked_places (slice_index marked_places (before_node has_node has.0))
        (Contains-get_or marked_places (before_node has_node has.0) 0 (omega (arith, near, long))))

    -- A node, by positions.
    body_moved : (p : ℕ) (body : Body) → p < length marked_nodes
        → ((argument : ℕ) → among (read_nodes body) argument ≡ true → has_node argument ≡ true)
        → IsBodyOver (job c) (certain c.written) numbers (slice_index numbers (slice_index marked_nodes p)) (body_of body)
        → IsBodyOver (job c) (certain c.written) marked_places (slice_index marked_places p)
        (body_of (moved_body (before_node has_node) body))
    body_moved p (Carried node inverted) low on is =
        let e : true ≡ false = sym (ap is_carried is.class) ∙ graph.free (slice_index marked_nodes p) (node_within nodes kept top less has_node are p low) in cc
    body_moved p (Rule arguments values) low on is =
        subst (λ k. IsRuledOver (job c) (certain c.written) marked_places k (map (before_node has_node) arguments) values)
        (sym (index_map (slice_index numbers) marked_nodes p low)) (record {
          free = is.free;
          within = mapped_all (λ k. k < length marked_places) (before_node has_node) arguments
              (among_all (λ a. before_node has_node a < length marked_places) arguments (λ a at.
              (let near = (at_position nodes kept top less has_node are a (on a at)).0 in
              let long = length-map marked_nodes (slice_index numbers) in omega (arith, near, long))));
          turns = is.turns;
          long = length-map arguments (before_node has_node) ∙ is.long;
          roots = λ k inner.
              (let near : k < length arguments = (let long = length-map arguments (before_node has_node) in omega (arith, inner, long)) in
              let argument : ℕ = slice_index arguments k in
              let reached = among_contains arguments argument (Contains-get_or arguments k 0 near) in
              is.roots k near ∙ ap (λ i. turned_root
              (is.turns (slice_index (essentials (job c) (certain c.written) (slice_index numbers (slice_index marked_nodes p))) k))
              (root_of (job c) (certain c.written) i))
              (sym (place_there argument (on argument reached))
              ∙ ap (slice_index marked_places) (sym (index_map (before_node has_node) arguments k near))));
          are_values = is.are_values;
        })

    -- So they are the cone.
    module _ (cone : List Node) (picked : cone ≡ picked_of nodes has_node (top + 1)) where
      cone_places : map place_of_node cone ≡ map (place_at (job c)) marked_places
      cone_places = ap (map place_of_node) picked
          ∙ named marked_nodes (among_all (λ n. n < length nodes) marked_nodes (λ n at.
          (let low = (in_picked has_node (top + 1) n at).0 in omega (arith, low, less))))
        where
          named : (ns : List ℕ) → AllByRecursion (λ n. n < length nodes) ns
              → map place_of_node (map (λ node. moved_node (before_node has_node) (node_at nodes node)) ns)
              ≡ map (place_at (job c)) (map (slice_index numbers) ns)
          named [] all = refl
          named (n ∷ ns) all = rw (
            maps_at place_of_node (place_at (job c)) nodes numbers no_node 0 n graph.places all.0,
            named ns all.1,
          ) refl

      pub cone_is : IsConeOf c (slice_index numbers top) cone
      cone_is = record {
        wave = wave;
        are_nodes = (cone_nodes nodes kept top less has_node are cone picked);
        reach = graph.reach top less;
        free = graph.free top less;
        kept = keeps;
        inside = keeps_inside;
        variables = keeps_variable;
        places = cone_places ∙ ap (map (place_at (job c))) (sym kept_are);
        bodies = λ p low. (let near : p < length marked_nodes = (let long = cone_long nodes kept top less has_node are cone picked in omega (arith, low, long)) in
            subst (λ xs. IsBodyOver (job c) (certain c.written) xs (slice_index xs p) (body_at cone p)) (sym kept_are)
            (subst (λ (n : Node). IsBodyOver (job c) (certain c.written) marked_places (slice_index marked_places p)
            (body_of n.body)) (sym (cone_at nodes kept top less has_node are cone picked p near))
            (body_moved p (node_at nodes (slice_index marked_nodes p)).body near
            (λ argument at. reads_marked nodes kept top less has_node are cone picked p argument near at)
            (graph.bodies (slice_index marked_nodes p) (node_within nodes kept top less has_node are p near)))));
      }

pub cone_of_node : (nodes : List Node) → AreOrdered nodes → (top : ℕ) → top < length nodes → (has_node : ℕ → Bool)
    → AreReached nodes top has_node → (cone : List Node) → cone ≡ picked_of nodes has_node (top + 1) → IsConeOfNode nodes top cone
cone_of_node nodes kept top less has_node are cone picked c numbers wave graph =
    cone_is c nodes numbers wave graph kept top less has_node are cone picked

-- The nodes that are taken, from the last one on, are those that are reached.
pub picked_taken : (nodes : List Node) (top : ℕ) (taken : List ℕ) → AreTakenFrom nodes top taken
    → picked_by nodes taken ≡ picked_of nodes (is_taken taken) (top + 1)
picked_taken nodes top taken are =
    ap (map (λ node. moved_node (before_node (is_taken taken)) (node_at nodes node)))
    (falling_is (top + 1) (is_taken taken) taken are.falls
    (among_all (λ k. k < top + 1) taken (λ k at. are.reached.low k at)) (λ k less. refl))
