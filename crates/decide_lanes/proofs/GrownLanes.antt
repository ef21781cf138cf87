-- Lanes that are right of a wave stay so as nodes come in, and as the wave grows.
use Rattle.std.proofs.Common.{◌≡◌, ℕ, ◌+◌, ◌-◌, ◌<◌, ◌≤◌, Bool, false, List, [], ◌∷◌, ◌++◌, Option, None, Some, IfSome, length, length-append, refl, sym, ap, ◌∙◌, subst, arith, ⊎_elim, Vec}
use Rattle.std.specs.List.{AllByRecursion}
use Rattle.std.specs.declared.alloc.Global.{Global}
use Rattle.std.proofs.Math.ListN.{get_or-append}
use Rattle.std.proofs.Math.Seq.{get_or-append_seam}
use Rattle.std.proofs.lemmas.Bool.{cases_eq}
use Rattle.design_cell.specs.declared.value.Value.{Value}
use Rattle.design_cell.specs.Value.{is_unknown}
use Rattle.design_circuit.specs.declared.waveform.Written.{Written}
use Rattle.design_circuit.specs.Fits.{Fits, place_at}
use Rattle.design_circuit.specs.Job.{Job, places_of}
use Rattle.design_circuit.specs.Waveform.{certain}
use Rattle.design_circuit.proofs.Rules.{AgreeBelow}
use Rattle.design_circuit.proofs.Worlds.{world_bit_local}
use Rattle.law_model.specs.Class.{flipped}
use Rattle.law_model.specs.Cone.{sources}
use Rattle.law_model.specs.Root.{Root}
use Rattle.law_model.proofs.ConesBefore.{sources_local}
use Rattle.law_model.proofs.FactsBefore.{certain_grown}
use Rattle.law_model.proofs.Roots.{root_local}
use Rattle.wave_proved.specs.Contents.{Contents, IsWave, job}
use Rattle.decide_nodes.specs.declared.node.Node.{Node}
use Rattle.decide_nodes.specs.Lanes.{in_lane}
use Rattle.decide_graph.specs.NodeRoots.{IsRooted}
use Rattle.decide_lane_nodes.specs.Given.{lane_given}
use Rattle.decide_lane_nodes.specs.InWave.{IsNodeIn, IsLiteralIn}
use Rattle.decide_lane_nodes.specs.Made.{HasSourcesIn, IsMadeNode, sources_by, with_made}
use Rattle.decide_lane_nodes.specs.Nodes.{Extends, NodeView, node_at, numbers_of, with_node, zero_node}
use Rattle.decide_lane_nodes.specs.Literal.{AreSources, HasBits, IsLiteralOf, IsNodeOf, LiteralView, ReachesBack, literal_bit, literal_in, no_literal, plain}
use Rattle.decide_lane_nodes.specs.declared.literal.Covered.{Covered}
use Rattle.decide_lane_nodes.specs.declared.node.Made.{Made}
use Rattle.decide_lanes.specs.Graphs.{GrowsBy}
use Rattle.decide_lanes.specs.Lanes.{IsNextNode, IsRightOf, LanesView, count_of, looked, looked_count}
use Rattle.decide_lanes.proofs.GraphNodes.{below_last, below_more, graph_grows, graph_stays, numbers_more}
use Rattle.decide_lanes.proofs.SharedTables.{shared_grows, shared_moves}

-- One node more.
pub node_more : (nodes : List NodeView) (place : ℕ) (lane_bits : List ℕ) (found : Option (List ℕ))
    → Extends nodes (with_node nodes place lane_bits found)
node_more nodes place lane_bits found = record {
  more = (let long = length-append nodes (record { place = place; lane_bits = lane_bits; sources = found } ∷ []) in omega (arith, long));
  same = λ node less. get_or-append nodes (record { place = place; lane_bits = lane_bits; sources = found } ∷ []) zero_node node less;
}

pub nodes_stay : (nodes : List NodeView) → Extends nodes nodes
nodes_stay nodes = record { more = omega arith; same = λ node less. refl }

literal_stays : (old new : List NodeView) (literal : LiteralView) (lane : ℕ) → Extends old new → literal.node < length old
    → literal_bit new literal lane ≡ literal_bit old literal lane
literal_stays old new literal lane more within =
    ap (λ (n : NodeView). flipped literal.inverted (in_lane n.lane_bits lane)) (more.same literal.node within)

root_at : {a b : ℕ} → a ≡ b → (inverted : Bool)
    → ◌≡◌ {A = Root} (record { place = a; inverted = inverted }) (record { place = b; inverted = inverted })
root_at same inverted = ap (λ k. record { place = k; inverted = inverted }) same

pub literal_extended : (j : Job) (c : ℕ → Value) (old new : List NodeView) (literal : LiteralView) (place : ℕ)
    → Extends old new → IsLiteralOf j c old literal place → IsLiteralOf j c new literal place
literal_extended j c old new literal place more holds = record {
  within = (let low = holds.within in let up = more.more in omega (arith, low, up));
  bits = λ lane small. literal_stays old new literal lane more holds.within ∙ holds.bits lane small;
  some = holds.some;
  root = λ uncertain. holds.root uncertain ∙ root_at (ap (λ (n : NodeView). n.place) (sym (more.same literal.node holds.within)))
      literal.inverted;
  sources = λ uncertain. subst (AreSources j c place) (sym (ap (λ (n : NodeView). n.sources) (more.same literal.node holds.within)))
      (holds.sources uncertain);
}

-- The node that is made comes in.
sources_made : (c : Contents) (nodes : List NodeView) (place : ℕ) (sharing : Option ℕ)
    (found : Option (Vec ℕ Global)) → IfSome sharing (HasSourcesIn c nodes place)
    → IfSome found (λ list. list.items ≡ sources (job c) (certain c.written) place)
    → AreSources (job c) (certain c.written) place (sources_by nodes sharing found)
sources_made c nodes place None None shared are = tt
sources_made c nodes place None (Some list) shared are = are
sources_made c nodes place (Some node) found shared are =
    subst (AreSources (job c) (certain c.written) place) (sym shared.1) refl

pub made_node : (c : Contents) (covered : Covered) (nodes : List NodeView) (place : ℕ) (made : Made) → covered.nodes.now ≡ nodes
    → 0 < length nodes → IsMadeNode c covered place made → IsNodeIn c (with_made nodes made) (length nodes) place
made_node c covered nodes place made same some is = record {
  some = some;
  own = ap (λ (n : NodeView). n.place) last ∙ is.own;
  within = (let long = length-append nodes (new ∷ []) in omega (arith, long));
  bits = λ lane small. ap (λ (n : NodeView). in_lane n.lane_bits lane) last ∙ is.bits lane small;
  root = is.root ∙ root_at (ap (λ (n : NodeView). n.place) (sym last)) false;
  sources = subst (AreSources (job c) (certain c.written) place) (sym (ap (λ (n : NodeView). n.sources) last))
      (sources_made c nodes place made.sharing made.sources
      (subst (λ ns. IfSome made.sharing (HasSourcesIn c ns place)) same is.sharing) is.sources);
}
  where
    new : NodeView
    new = record { place = made.place; lane_bits = made.lane_bits; sources = sources_by nodes made.sharing made.sources }

    last : node_at (nodes ++ new ∷ []) (length nodes) ≡ new
    last = get_or-append_seam nodes new [] zero_node

-- So the lanes stay right, and have looked at that place.
abbrev pub with_next : LanesView → List NodeView → Option (List Node) → LanesView
with_next lanes nodes graph = record lanes { nodes = nodes; next = Some (length lanes.nodes); graph = graph }

pub right_made : (c : Contents) (lanes : LanesView) (covered : Covered) (place : ℕ) (made : Made) (graph : Option (List Node))
    → IsWave c → IsRightOf c lanes → lanes.next ≡ None → place ≡ count_of lanes → covered.nodes.now ≡ lanes.nodes
    → IsMadeNode c covered place made → GrowsBy lanes.graph (place_at (job c) place) made.roots.items made.values graph
    → IsRightOf c (with_next lanes (with_made lanes.nodes made) graph)
right_made c lanes covered place made graph wave right none at same is grows = record {
  some = (let low = right.some in let up = more.more in omega (arith, low, up));
  zero = more.same 0 right.some ∙ right.zero;
  written = right.written;
  each = λ place first below. literal_extended (job c) (certain c.written) lanes.nodes (with_made lanes.nodes made)
      (literal_in lanes.first lanes.literals place) place more (right.each place first below);
  far = right.far;
  next = record {
    within = subst (λ k. k < places_of (job c)) at is.roots.rooted.reach.within;
    holds = subst (IsNodeIn c (with_made lanes.nodes made) (length lanes.nodes)) at
        (made_node c covered lanes.nodes place made same right.some is);
  };
  graph = graph_grows c lanes.nodes _ place made.roots.items made.values lanes.graph graph wave right.some is.own is.roots.few
      (subst (λ ns. IsRooted c (numbers_of ns) place made.roots.items made.values) same is.roots.rooted) right.graph grows;
  shared = shared_grows c (place_at (job c) place) made.roots.items made.values lanes.graph graph lanes.shared grows right.shared;
  below = subst (λ xs. AllByRecursion (λ k. k < count_of lanes + 1) xs) (sym (numbers_more lanes.nodes _ right.some))
      (below_last (count_of lanes) made.place (numbers_of lanes.nodes) (is.own ∙ at) before);
  sized = right.sized;
}
  where
    more : Extends lanes.nodes (with_made lanes.nodes made)
    more = node_more lanes.nodes made.place made.lane_bits _

    before : AllByRecursion (λ k. k < count_of lanes) (numbers_of lanes.nodes)
    before = below_more (count_of lanes + looked lanes.next) (count_of lanes) (numbers_of lanes.nodes)
        (let zero = ap looked none in omega (arith, zero)) right.below

-- One literal more.
looked_most : (next : Option ℕ) → looked next ≤ 1
looked_most None = omega arith
looked_most (Some node) = omega arith

pub covered_more : (c : Contents) (lanes : LanesView) (literal : LiteralView) → IsRightOf c lanes
    → lanes.width ≡ (job c).width → count_of lanes < length c.written → IsLiteralIn c lanes.nodes literal (count_of lanes)
    → IsRightOf c (record {
      nodes = lanes.nodes;
      first = lanes.first;
      literals = lanes.literals ++ literal ∷ [];
      next = None;
      graph = lanes.graph;
      shared = lanes.shared;
      width = lanes.width;
    })
covered_more c lanes literal right sized less holds = record {
  some = right.some;
  zero = right.zero;
  written = omega (arith, less, long);
  each = λ place first below. ⊎_elim
      (λ (same : place ≡ count_of lanes). at_last place same)
      (λ (other : place ≡ count_of lanes → ⊥). earlier place first (omega (arith, below, long, other)))
      (cases_eq place (count_of lanes));
  far = λ k near. right.far k (omega (arith, near, long));
  next = tt;
  graph = right.graph;
  shared = right.shared;
  below = below_more (looked_count lanes) (lanes.first + length more + looked None) (numbers_of lanes.nodes)
      (let most = looked_most lanes.next in omega (arith, most, long)) right.below;
  sized = λ some. sized;
}
  where
    more : List LiteralView
    more = lanes.literals ++ literal ∷ []

    long : length (lanes.literals ++ literal ∷ []) ≡ length lanes.literals + 1
    long = length-append lanes.literals (literal ∷ [])

    at_last : (place : ℕ) → place ≡ count_of lanes
        → IsLiteralIn c lanes.nodes (literal_in lanes.first (lanes.literals ++ literal ∷ []) place) place
    at_last place same =
        let index : place - lanes.first ≡ length lanes.literals = omega (arith, same) in
        let seam = get_or-append_seam lanes.literals literal [] no_literal in
        rw (index, seam, same) holds

    earlier : (place : ℕ) → lanes.first ≤ place → place < count_of lanes
        → IsLiteralIn c lanes.nodes (literal_in lanes.first (lanes.literals ++ literal ∷ []) place) place
    earlier place first below =
        subst (λ l. IsLiteralIn c lanes.nodes l place) (sym (get_or-append lanes.literals (literal ∷ []) no_literal
        (place - lanes.first) (omega (arith, first, below)))) (right.each place first below)

-- The wave grows by a place.
are_moved : (j : Job) (c d : ℕ → Value) (place : ℕ) (found : Option (List ℕ)) → sources j c place ≡ sources j d place
    → AreSources j c place found → AreSources j d place found
are_moved j c d place None same are = tt
are_moved j c d place (Some list) same are = are ∙ same

bits_moved : (j : Job) → Fits j → (c d : ℕ → Value) (nodes : List NodeView) (literal : LiteralView) (place : ℕ)
    → place < places_of j → AgreeBelow c d place → HasBits j c nodes literal place → HasBits j d nodes literal place
bits_moved j fits c d nodes literal place within agree bits lane small =
    bits lane small ∙ world_bit_local j fits c d (lane_given j lane) (lane_given j lane) place within agree (λ k less. refl)

pub literal_moved : (j : Job) → Fits j → (c d : ℕ → Value) (nodes : List NodeView) (literal : LiteralView) (place : ℕ)
    → place < places_of j → AgreeBelow c d (place + 1) → IsLiteralOf j c nodes literal place → IsLiteralOf j d nodes literal place
literal_moved j fits c d nodes literal place within agree holds = record {
  within = holds.within;
  bits = bits_moved j fits c d nodes literal place within (λ k less. agree k (omega (arith, less))) holds.bits;
  some = λ uncertain. holds.some (ap is_unknown (agree place (omega arith)) ∙ uncertain);
  root = λ uncertain. sym (root_local j fits c d place within (λ k less. agree k (omega (arith, less))))
      ∙ holds.root (ap is_unknown (agree place (omega arith)) ∙ uncertain);
  sources = λ uncertain. are_moved j c d place (node_at nodes literal.node).sources
      (sources_local j fits c d place within (λ k less. agree k (omega (arith, less))))
      (holds.sources (ap is_unknown (agree place (omega arith)) ∙ uncertain));
}

pub node_moved : (j : Job) → Fits j → (c d : ℕ → Value) (nodes : List NodeView) (node place : ℕ) → place < places_of j
    → AgreeBelow c d place → IsNodeOf j c nodes node place → IsNodeOf j d nodes node place
node_moved j fits c d nodes node place within agree holds = record {
  some = holds.some;
  own = holds.own;
  within = holds.within;
  bits = bits_moved j fits c d nodes (plain node) place within agree holds.bits;
  root = sym (root_local j fits c d place within agree) ∙ holds.root;
  sources = are_moved j c d place (node_at nodes node).sources (sources_local j fits c d place within agree) holds.sources;
}

-- Lanes stay right, whatever is written next.
pub right_grows : (c d : Contents) (lanes : LanesView) (v : Written) → IsWave c → job d ≡ job c
    → d.written ≡ c.written ++ v ∷ [] → IsRightOf c lanes → IsRightOf d lanes
right_grows c d lanes v wave same grown right = record {
  some = right.some;
  zero = right.zero;
  written = omega (arith, written, long);
  each = λ place first below. here (λ j ws. IsLiteralOf j (certain ws) lanes.nodes (literal_in lanes.first lanes.literals place) place)
      (literal_moved (job c) fits (certain c.written) (certain (c.written ++ v ∷ [])) lanes.nodes _ place
      (omega (arith, below, written, all))
      (λ k less. certain_grown c.written v k (omega (arith, less, below, written))) (right.each place first below));
  far = subst (λ (j : Job). ReachesBack j lanes.first (count_of lanes)) (sym same) right.far;
  next = next_moved lanes.next right.next;
  graph = graph_stays c d lanes.nodes v lanes.graph wave same grown right.graph;
  shared = shared_moves c d lanes.graph lanes.shared same right.shared;
  below = right.below;
  sized = λ some. right.sized some ∙ ap (λ (j : Job). j.width) (sym same);
}
  where
    fits : Fits (job c)
    fits = wave.fits.fits_job

    all : length c.written ≤ places_of (job c)
    all = wave.holds.sound.within

    written : count_of lanes ≤ length c.written
    written = right.written

    long : length d.written ≡ length c.written + 1
    long = ap length grown ∙ length-append c.written (v ∷ [])

    here : (P : Job → List Written → Type 0) → P (job c) (c.written ++ v ∷ []) → P (job d) d.written
    here P h = subst (λ (j : Job). P j d.written) (sym same) (subst (λ ws. P (job c) ws) (sym grown) h)

    next_moved : (next : Option ℕ) → IfSome next (IsNextNode c lanes.nodes (count_of lanes))
        → IfSome next (IsNextNode d lanes.nodes (count_of lanes))
    next_moved None holds = tt
    next_moved (Some node) holds = record {
      within = subst (λ (j : Job). count_of lanes < places_of j) (sym same) holds.within;
      holds = here (λ j ws. IsNodeOf j (certain ws) lanes.nodes node (count_of lanes))
          (node_moved (job c) fits (certain c.written) (certain (c.written ++ v ∷ [])) lanes.nodes node (count_of lanes)
          holds.within (λ k less. certain_grown c.written v k (omega (arith, less, written))) holds.holds);
    }
