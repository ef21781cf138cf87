-- The node comes in, and into the graph.
use Rattle.std.proofs.Common.{◌≡◌, ℕ, List, IfSome, Option, Some, length, ap, refl, subst, sym, ◌∙◌}
use Rattle.design_cell.specs.declared.value.Value.{Value}
use Rattle.decide_nodes.specs.declared.node.Node.{Node}
use Rattle.design_circuit.specs.Fits.{place_at}
use Rattle.design_circuit.specs.Job.{Job}
use Rattle.design_circuit.specs.declared.place.Place.{Place}
use Rattle.decide_graph.specs.NodeRoots.{AreNodeRoots}
use Rattle.decide_graph.specs.declared.node_root.NodeRoot.{NodeRoot}
use Rattle.wave_proved.specs.Contents.{job}
use Rattle.decide_lane_nodes.specs.Made.{with_made}
use Rattle.decide_lane_nodes.specs.Nodes.{NodeView}
use Rattle.decide_lanes.specs.Graphs.{GrowsBy}
use Rattle.decide_lanes.specs.Lanes.{IsRightOf, LanesView, count_of}
use Rattle.decide_lanes.proofs.CoveredLanes.{covered_before, nodes_before}
use Rattle.decide_lanes.proofs.GraphNodes.{roots_in_graph}
use Rattle.decide_lanes.proofs.GrownLanes.{right_made}
use Rattle.decide_lanes.proofs.lanes.Lanes.new_node.Goals as goal

pub make_node-requires-clause-covered : goal.make_node-requires-clause-covered
make_node-requires-clause-covered c =
    covered_before c.args.wave.now (record {
      nodes = c.self.inside.nodes;
      first = c.self.inside.first;
      literals =
          c.self.inside.literals.literals;
      next = c.self.inside.next;
      graph = c.self.inside.graph;
      shared = c.self.inside.shared;
      width = c.self.inside.literals.width;
    }) _ c.args.place
    (subst (IsRightOf c.args.wave.now) (sym c.self.view_is) c.requires.right)
    (c.requires.place ∙ ap (λ (l : LanesView). count_of l) (sym c.self.view_is))
    (record { nodes = refl; first = refl; literals = refl })

pub make_node-requires-clause-before : goal.make_node-requires-clause-before
make_node-requires-clause-before c =
    nodes_before c.args.wave.now (record {
      nodes = c.self.inside.nodes;
      first = c.self.inside.first;
      literals =
          c.self.inside.literals.literals;
      next = c.self.inside.next;
      graph = c.self.inside.graph;
      shared = c.self.inside.shared;
      width = c.self.inside.literals.width;
    }) c.args.place
    (subst (IsRightOf c.args.wave.now) (sym c.self.view_is) c.requires.right)
    (c.requires.place ∙ ap (λ (l : LanesView). count_of l) (sym c.self.view_is))
    (ap (λ (l : LanesView). l.next) c.self.view_is ∙ c.requires.none)

pub grown-requires-clause-roots : goal.grown-requires-clause-roots
grown-requires-clause-roots c =
    let made = c.in_ok-made.made in
    let right = subst (IsRightOf c.args.wave.now) (sym c.self.view_is) c.requires.right in
    subst (λ (g : Option (List Node)). IfSome g (λ nodes. AreNodeRoots (length nodes) c.as_slice-roots.result.now))
    (sym c.take-graph.ensures.value)
    (subst (λ (rs : List NodeRoot). IfSome c.self.inside.graph (λ nodes. AreNodeRoots (length nodes) rs))
    (sym c.as_slice-roots.ensures.value)
    (roots_in_graph c.args.wave.now c.self.inside.nodes c.args.place made.roots.items made.values c.self.inside.graph right.graph
    c.in_ok-made.ensures.roots.few c.in_ok-made.ensures.roots.rooted))

pub returns-clause-right : goal.returns-clause-right
returns-clause-right c =
    let made = c.in_ok-made.made in
    let lanes : LanesView = record {
      nodes = c.self.inside.nodes;
      first = c.self.inside.first;
      literals =
          c.self.inside.literals.literals;
      next = c.self.inside.next;
      graph = c.self.inside.graph;
      shared = c.self.inside.shared;
      width = c.self.inside.literals.width;
    } in
    let place_is : c.place_of.result ≡ place_at (job c.args.wave.now) c.args.place =
    c.place_of.ensures ∙ ap (λ (j : Job). place_at j c.args.place) c.circuit-circuit.ensures.job in
    let grows : GrowsBy c.self.inside.graph (place_at (job c.args.wave.now) c.args.place) made.roots.items made.values
    c.in_ok-self-inside.field-0 =
    subst (λ (vs : List Value). GrowsBy c.self.inside.graph (place_at (job c.args.wave.now) c.args.place) made.roots.items vs
    c.in_ok-self-inside.field-0) c.as_slice-values.ensures
    (subst (λ (rs : List NodeRoot). GrowsBy c.self.inside.graph (place_at (job c.args.wave.now) c.args.place) rs
    c.as_slice-values.result.now c.in_ok-self-inside.field-0) c.as_slice-roots.ensures.value
    (subst (λ (p : Place). GrowsBy c.self.inside.graph p c.as_slice-roots.result.now c.as_slice-values.result.now
    c.in_ok-self-inside.field-0) place_is
    (subst (λ (g : Option (List Node)). GrowsBy g c.place_of.result c.as_slice-roots.result.now c.as_slice-values.result.now
    c.in_ok-self-inside.field-0) c.take-graph.ensures.value c.in_ok-self-inside.ensures))) in
    subst (λ (ns : List NodeView). IsRightOf c.args.wave.now (record {
      nodes = ns;
      first = c.self.inside.first;
      literals =
          c.self.inside.literals.literals;
      next = Some c.in_ok-node.node;
      graph = c.in_ok-self-inside.field-0;
      shared = c.self.inside.shared;
      width = c.self.inside.literals.width;
    })) (sym c.in_ok-node.ensures.puts)
    (subst (λ (n : ℕ). IsRightOf c.args.wave.now (record {
      nodes = with_made c.self.inside.nodes made;
      first = c.self.inside.first;
      literals =
          c.self.inside.literals.literals;
      next = Some n;
      graph = c.in_ok-self-inside.field-0;
      shared = c.self.inside.shared;
      width = c.self.inside.literals.width;
    })) (sym c.in_ok-node.ensures.node)
    (right_made c.args.wave.now lanes _ c.args.place made c.in_ok-self-inside.field-0 c.circuit-circuit.ensures.wave
    (subst (IsRightOf c.args.wave.now) (sym c.self.view_is) c.requires.right)
    (ap (λ (l : LanesView). l.next) c.self.view_is ∙ c.requires.none)
    (c.requires.place ∙ ap (λ (l : LanesView). count_of l) (sym c.self.view_is)) refl c.in_ok-made.ensures grows))
