-- The marked nodes of a graph, by their positions.
use Rattle.std.proofs.Common.{◌≡◌, ℕ, ◌+◌, ◌<◌, ◌^◌, Bool, true, List, [], ◌∷◌, length, map, sym, ap, ◌∙◌, subst, arith, slice_index}
use Rattle.std.specs.List.{AllByRecursion}
use Rattle.std.specs.List.Sorted.{IsStrictlyIncreasing}
use Rattle.std.proofs.lemmas.List.{get_or-map, length-map}
use Rattle.std.proofs.lemmas.List.Elements.{Contains-get_or}
use Rattle.law_model.specs.Places.{among, places_where}
use Rattle.law_model.proofs.PlacesWhere.{all_among, among_all, among_contains, among_itself, in_picked, picked_rises}
use Rattle.decide_nodes.specs.declared.node.Node.{Node}
use Rattle.decide_nodes.specs.declared.node.NodeBody.{NodeBody as Body}
use Rattle.decide_nodes.specs.declared.node.NodeBody.TheVariants.{Carried, Rule}
use Rattle.decide_nodes.specs.Nodes.{AreNodes, StandsAt, no_node, node_at}
use Rattle.decide_nodes.proofs.RisingNumbers.{place_position}
use Rattle.decide_graph.specs.Graph.{AreOrdered}
use Rattle.decide_graph.specs.Walk.{AreReached, read_nodes, reads_node}
use Rattle.decide_graph.specs.Picked.{before_node, moved_body, moved_node, picked_of}
use Rattle.decide_graph.proofs.PickedNodes.{few_where}
use Rattle.decide_graph.proofs.Rising.{stands_before}

pub mapped_all : (P : ℕ → Type 0) (f : ℕ → ℕ) (xs : List ℕ) → AllByRecursion (λ x. P (f x)) xs → AllByRecursion P (map f xs)
mapped_all P f [] all = tt
mapped_all P f (x ∷ xs) all = (all.0, mapped_all P f xs all.1)

module _ (nodes : List Node) (kept : AreOrdered nodes) (top : ℕ) (less : top < length nodes) (has_node : ℕ → Bool)
    (are : AreReached nodes top has_node) where
  pub mark_low : (n : ℕ) → has_node n ≡ true → n < top + 1
  mark_low n on = are.low n on

  abbrev pub marked_nodes : List ℕ
  marked_nodes = places_where has_node (top + 1)

  pub node_marked : (p : ℕ) → p < length marked_nodes
      → (slice_index marked_nodes p < top + 1) × (has_node (slice_index marked_nodes p) ≡ true)
  node_marked p low = in_picked has_node (top + 1) (slice_index marked_nodes p)
      (among_contains marked_nodes (slice_index marked_nodes p) (Contains-get_or marked_nodes p 0 low))

  pub node_within : (p : ℕ) → p < length marked_nodes → slice_index marked_nodes p < length nodes
  node_within p low = let up = (node_marked p low).0 in omega (arith, up, less)

  pub nodes_rise : IsStrictlyIncreasing marked_nodes
  nodes_rise = picked_rises has_node (top + 1)

  pub at_position : (n : ℕ) → has_node n ≡ true
      → (before_node has_node n < length marked_nodes) × (slice_index marked_nodes (before_node has_node n) ≡ n)
  at_position n on = place_position has_node (top + 1) n (mark_low n on) on

  pub before_position : (p a : ℕ) → p < length marked_nodes → has_node a ≡ true → a < slice_index marked_nodes p
      → before_node has_node a < p
  before_position p a low on under =
      let at = at_position a on in
      let same = at.1 in
      stands_before marked_nodes (before_node has_node a) p nodes_rise at.0 low (omega (arith, same, under))

  pub body_stands : (p : ℕ) (body : Body) → p < length marked_nodes
      → ((argument : ℕ) → among (read_nodes body) argument ≡ true → has_node argument ≡ true)
      → StandsAt (slice_index marked_nodes p) body → StandsAt p (moved_body (before_node has_node) body)
  body_stands p (Carried node inverted) low on is =
      before_position p node low (on node (among_itself node [])) is
  body_stands p (Rule arguments values) low on is = record {
    few = (let long = length-map arguments (before_node has_node) in let few = is.few in omega (arith, long, few));
    before = mapped_all (λ k. k < p) (before_node has_node) arguments
        (among_all (λ a. before_node has_node a < p) arguments (λ a at.
        before_position p a low (on a at) (all_among (λ a. a < slice_index marked_nodes p) arguments a is.before at)));
    long = is.long ∙ ap (λ n. 2 ^ n) (sym (length-map arguments (before_node has_node)));
  }

  module _ (cone : List Node) (picked : cone ≡ picked_of nodes has_node (top + 1)) where
    pub cone_long : length cone ≡ length marked_nodes
    cone_long = ap length picked
        ∙ length-map marked_nodes (λ node. moved_node (before_node has_node) (node_at nodes node))

    pub cone_at : (p : ℕ) → p < length marked_nodes
        → node_at cone p ≡ moved_node (before_node has_node) (node_at nodes (slice_index marked_nodes p))
    cone_at p low = ap (λ ns. node_at ns p) picked
        ∙ get_or-map (λ node. moved_node (before_node has_node) (node_at nodes node)) marked_nodes p 0 no_node low

    pub reads_marked : (p argument : ℕ) → p < length marked_nodes
        → reads_node nodes (slice_index marked_nodes p) argument ≡ true → has_node argument ≡ true
    reads_marked p argument low at = are.closed.each (slice_index marked_nodes p) argument (node_marked p low).1 at

    pub cone_nodes : AreNodes cone
    cone_nodes = record {
      some = (let there = (at_position top are.closed.first).0 in let long = cone_long in omega (arith, there, long));
      few = (let long = cone_long in let few = few_where has_node (top + 1) in let all = kept.few in
          omega (arith, long, few, all, less));
      each = λ p low. (let near : p < length marked_nodes = (let long = cone_long in omega (arith, low, long)) in
          subst (λ (n : Node). StandsAt p n.body) (sym (cone_at p near))
          (body_stands p (node_at nodes (slice_index marked_nodes p)).body near
          (λ argument at. reads_marked p argument near at)
          (kept.each (slice_index marked_nodes p) (node_within p near))));
    }
