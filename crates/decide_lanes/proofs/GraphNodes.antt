-- The graph of the nodes, as one comes in and as the wave grows, and the cone of the next place.
use Rattle.std.proofs.Common.{◌≡◌, ℕ, ◌+◌, ◌-◌, ◌<◌, ◌≤◌, List, [], ◌∷◌, ◌++◌, Option, None, Some, IfSome, length, sym, ap, ◌∙◌, subst, arith}
use Rattle.std.specs.List.{AllByRecursion}
use Rattle.std.specs.Prelude.{Result, IfOk}
use Rattle.std.proofs.lemmas.List.{length-map, map-append}
use Rattle.std.proofs.lemmas.Result.{IfOk-weaker}
use Rattle.design_cell.specs.declared.value.Value.{Value}
use Rattle.design_circuit.specs.declared.waveform.Written.{Written}
use Rattle.design_circuit.specs.Fits.{place_at}
use Rattle.wave_proved.specs.Contents.{Contents, IsWave, job}
use Rattle.decide_nodes.specs.declared.node.Node.{Node}
use Rattle.decide_nodes.specs.Nodes.{ConeView, place_of_node as graph_place}
use Rattle.decide_nodes.specs.Traced.{IsConeOf, IsNextCone}
use Rattle.decide_graph.specs.Graph.{IsGraphOf}
use Rattle.decide_graph.specs.NodeRoots.{AreNodeRoots, IsRooted, node_in}
use Rattle.decide_graph.specs.declared.node_root.NodeRoot.{NodeRoot}
use Rattle.decide_graph.proofs.GrownGraphs.{grow_law, stay_law}
use Rattle.decide_graph.proofs.TurnedTables.{kept_more}
use Rattle.decide_lane_nodes.specs.Nodes.{NodeView, numbers_of, place_of_node}
use Rattle.decide_lane_nodes.proofs.ArgumentRoots.{number_at}
use Rattle.decide_lanes.specs.Graphs.{GivesCone, GrowsBy, IsGraphIn}
use Rattle.decide_lanes.specs.Lanes.{IsLookedAt, IsNextNode, IsRightOf, LanesView, count_of}

-- The numbers of the nodes after the first, as one comes in.
pub numbers_more : (nodes : List NodeView) (n : NodeView) → 0 < length nodes
    → numbers_of (nodes ++ n ∷ []) ≡ numbers_of nodes ++ n.place ∷ []
numbers_more [] n some = absurd (omega (arith, some))
numbers_more (m ∷ ns) n some = map-append place_of_node ns (n ∷ [])

pub below_more : (n m : ℕ) (xs : List ℕ) → n ≤ m → AllByRecursion (λ k. k < n) xs → AllByRecursion (λ k. k < m) xs
below_more n m [] up all = tt
below_more n m (x ∷ xs) up all = ((let less = all.0 in omega (arith, less, up)), below_more n m xs up all.1)

pub below_last : (n x : ℕ) (xs : List ℕ) → x ≡ n → AllByRecursion (λ k. k < n) xs
    → AllByRecursion (λ k. k < n + 1) (xs ++ x ∷ [])
below_last n x [] same all = (omega (arith, same), tt)
below_last n x (y ∷ ys) same all = ((let less = all.0 in omega (arith, less)), below_last n x ys same all.1)

-- The node of a place comes in.
pub graph_long : (c : Contents) (nodes : List NodeView) (graph : List Node) → IsGraphIn c nodes graph
    → length (numbers_of nodes) ≡ length graph
graph_long c nodes graph is = sym (length-map (numbers_of nodes) (place_at (job c))) ∙ sym (ap length is.is_graph.places)
    ∙ length-map graph graph_place

roots_before : (c : Contents) (nodes : List NodeView) (place : ℕ) (roots : List NodeRoot) (values : List Value) (graph : List Node)
    → IsGraphIn c nodes graph → length roots ≤ 13 → IsRooted c (numbers_of nodes) place roots values
    → AreNodeRoots (length graph) roots
roots_before c nodes place roots values graph is few rooted = record {
  few = few;
  before = subst (λ n. AllByRecursion (λ root. node_in root < n) roots) (graph_long c nodes graph is) rooted.before;
}

pub roots_in_graph : (c : Contents) (nodes : List NodeView) (place : ℕ) (roots : List NodeRoot) (values : List Value)
    (graph : Option (List Node)) → IfSome graph (IsGraphIn c nodes) → length roots ≤ 13
    → IsRooted c (numbers_of nodes) place roots values → IfSome graph (λ old. AreNodeRoots (length old) roots)
roots_in_graph c nodes place roots values None is few rooted = tt
roots_in_graph c nodes place roots values (Some graph) is few rooted = roots_before c nodes place roots values graph is few rooted

pub graph_grows : (c : Contents) (nodes : List NodeView) (n : NodeView) (place : ℕ) (roots : List NodeRoot) (values : List Value)
    (old new : Option (List Node)) → IsWave c → 0 < length nodes → n.place ≡ place → length roots ≤ 13
    → IsRooted c (numbers_of nodes) place roots values → IfSome old (IsGraphIn c nodes)
    → GrowsBy old (place_at (job c) place) roots values new → IfSome new (IsGraphIn c (nodes ++ n ∷ []))
graph_grows c nodes n place roots values old None wave some same few rooted is grows = tt
graph_grows c nodes n place roots values None (Some new) wave some same few rooted is grows = absurd grows
graph_grows c nodes n place roots values (Some old) (Some new) wave some same few rooted is grows = record {
  ordered = kept_more old new (place_at (job c) place) roots values grows.adds.turned is.ordered grows.few
      (roots_before c nodes place roots values old is few rooted) rooted.values_long grows.adds.is_turned grows.adds.nodes;
  is_graph = subst (IsGraphOf c new) (sym (numbers_more nodes n some ∙ ap (λ k. numbers_of nodes ++ k ∷ []) same))
      (grow_law c old new (numbers_of nodes) place roots values wave is.is_graph rooted grows.adds);
}

-- It stays one, whatever is written next.
pub graph_stays : (c d : Contents) (nodes : List NodeView) (v : Written) (graph : Option (List Node)) → IsWave c
    → job d ≡ job c → d.written ≡ c.written ++ v ∷ [] → IfSome graph (IsGraphIn c nodes) → IfSome graph (IsGraphIn d nodes)
graph_stays c d nodes v None wave same grown is = tt
graph_stays c d nodes v (Some graph) wave same grown is = record {
  ordered = is.ordered;
  is_graph = stay_law c d graph (numbers_of nodes) v wave same grown is.ordered is.is_graph;
}

-- The next place has its node in the graph, and that node's cone.
pub next_node : (c : Contents) (lanes : LanesView) (node : ℕ) → IsRightOf c lanes → lanes.next ≡ Some node
    → IsNextNode c lanes.nodes (count_of lanes) node
next_node c lanes node right is = subst (λ o. IfSome o (IsNextNode c lanes.nodes (count_of lanes))) is right.next

cone_next : (c : Contents) (lanes : LanesView) (node : ℕ) (cone : List Node) → IsWave c → IsRightOf c lanes
    → IsLookedAt c lanes → lanes.next ≡ Some node → GivesCone lanes.graph (node - 1) cone → IsNextCone c cone
cone_next c lanes node cone wave right looked is gives = by lanes.graph right.graph gives
  where
    by : (graph : Option (List Node)) → IfSome graph (IsGraphIn c lanes.nodes) → GivesCone graph (node - 1) cone → IsNextCone c cone
    by None holds gives = absurd gives
    by (Some graph) holds gives =
        (let next = next_node c lanes node right is in
        subst (λ k. IsConeOf c k cone)
        (number_at lanes.nodes node next.holds.some next.holds.within ∙ next.holds.own ∙ looked.all)
        (gives c (numbers_of lanes.nodes) wave holds.is_graph))

if_cone : (c : Contents) (lanes : LanesView) (node : ℕ) (found : Option ConeView) → IsWave c → IsRightOf c lanes
    → IsLookedAt c lanes → lanes.next ≡ Some node → IfSome found (λ cone. GivesCone lanes.graph (node - 1) cone.nodes)
    → IfSome found (λ cone. IsNextCone c cone.nodes)
if_cone c lanes node None wave right looked is gives = tt
if_cone c lanes node (Some cone) wave right looked is gives = cone_next c lanes node cone.nodes wave right looked is gives

pub found_cone : {E : Type 0} (c : Contents) (lanes inside : LanesView) (node : ℕ) (result : Result (Option ConeView) E)
    → IsWave c → IsRightOf c lanes → IsLookedAt c lanes → inside ≡ lanes → inside.next ≡ Some node
    → IfOk result (λ found. IfSome found (λ cone. GivesCone inside.graph (node - 1) cone.nodes))
    → IfOk result (λ found. IfSome found (λ cone. IsNextCone c cone.nodes))
found_cone c lanes inside node result wave right looked same is gives =
    let inside_right : IsRightOf c inside = subst (IsRightOf c) (sym same) right in
    let inside_looked : IsLookedAt c inside = subst (IsLookedAt c) (sym same) looked in
    IfOk-weaker result _ _ (λ found gives. if_cone c inside node found wave inside_right inside_looked is gives) gives
