-- Lanes with tables that their nodes share.
use Rattle.std.proofs.Common.{◌≡◌, ℕ, ◌-◌, List, [], ◌∷◌, Option, None, Some, IfSome, refl, ◌∙◌, arith}
use Rattle.wave_proved.specs.Contents.{Contents}
use Rattle.decide_nodes.specs.declared.node.Node.{Node}
use Rattle.decide_graph.proofs.GrownGraphs.{begin_law}
use Rattle.decide_lane_nodes.specs.Literal.{LiteralView}
use Rattle.decide_lane_nodes.specs.Nodes.{NodeView, numbers_of, zero_node}
use Rattle.decide_lane_nodes.proofs.ArgumentRoots.{number_at, numbers_long}
use Rattle.decide_lanes.specs.Graphs.{IsGraphIn}
use Rattle.decide_lanes.specs.Lanes.{IsLookedAt, IsRightOf, LanesView}
use Rattle.decide_lanes.specs.Shared.{IsNextIn, IsSharedIn, IsSharedOfAny, SharedView}
use Rattle.decide_lanes.proofs.GraphNodes.{graph_long, next_node}

-- The next place has its node in the graph.
pub next_in : (c : Contents) (lanes : LanesView) (node : ℕ) → IsRightOf c lanes → IsLookedAt c lanes
    → lanes.next ≡ Some node → IfSome lanes.graph (IsNextIn c (node - 1))
next_in c lanes node right looked is = by lanes.graph right.graph
  where
    by : (graph : Option (List Node)) → IfSome graph (IsGraphIn c lanes.nodes) → IfSome graph (IsNextIn c (node - 1))
    by None holds = tt
    by (Some graph) holds =
        let next = next_node c lanes node right is in
        record {
          ordered = holds.ordered;
          numbers = numbers_of lanes.nodes;
          is_graph = holds.is_graph;
          within = (let all = graph_long c lanes.nodes graph holds in let long = numbers_long lanes.nodes in
              let some = next.holds.some in let low = next.holds.within in omega (arith, all, long, some, low));
          is = number_at lanes.nodes node next.holds.some next.holds.within ∙ next.holds.own ∙ looked.all;
        }

-- The lanes with other tables that are right.
pub shared_right : (c : Contents) (lanes : LanesView) (shared : SharedView) → IsRightOf c lanes
    → IsSharedIn c lanes.graph shared → IsRightOf c (record lanes { shared = shared })
shared_right c lanes shared right is = record {
  some = right.some;
  zero = right.zero;
  written = right.written;
  each = right.each;
  far = right.far;
  next = right.next;
  graph = right.graph;
  shared = is;
  below = right.below;
  sized = right.sized;
}

-- Lanes that cover no place.
no_graph : (c : Contents) → IsGraphIn c (zero_node ∷ []) []
no_graph c = record {
  ordered = record { few = omega arith; each = λ node less. absurd (omega (arith, less)) };
  is_graph = begin_law c;
}

pub right_of_none : (c : Contents) (nodes : List NodeView) (literals : List LiteralView) (graph : List Node)
    (shared : SharedView) (width : ℕ) → nodes ≡ zero_node ∷ [] → literals ≡ [] → graph ≡ [] → IsSharedOfAny shared
    → IsRightOf c (record {
      nodes = nodes;
      first = 0;
      literals = literals;
      next = None;
      graph = Some graph;
      shared = shared;
      width = width;
    })
right_of_none c nodes literals graph shared width one none empty right = rw (one, none, empty) (record {
  some = omega arith;
  zero = refl;
  written = omega arith;
  each = λ place first below. absurd (omega (arith, below));
  far = λ k near. omega arith;
  next = tt;
  graph = no_graph c;
  shared = right c (Some []);
  below = tt;
  sized = λ some. absurd (omega (arith, some));
})
