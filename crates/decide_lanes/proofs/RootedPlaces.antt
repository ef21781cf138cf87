-- The roots of places by their literals, and the cones of the places of nodes.
use Rattle.std.proofs.Common.{◌≡◌, ℕ, ◌-◌, ◌<◌, ◌≤◌, true, List, Option, None, Some, IfSome, length, sym, ap, ◌∙◌, subst, arith}
use Rattle.std.specs.Prelude.{Result, IfOk}
use Rattle.std.proofs.lemmas.Result.{IfOk-weaker}
use Rattle.design_cell.specs.Value.{is_unknown}
use Rattle.decide_nodes.specs.Nodes.{ConeView}
use Rattle.decide_nodes.specs.Traced.{IsConeOf}
use Rattle.decide_nodes.specs.declared.node.Node.{Node}
use Rattle.design_circuit.specs.Filling.{IsPlace}
use Rattle.design_circuit.specs.Fits.{place_at}
use Rattle.design_circuit.specs.Job.{number_of, places_of}
use Rattle.design_circuit.specs.Waveform.{certain}
use Rattle.design_circuit.specs.declared.place.Place.{Place}
use Rattle.design_circuit.proofs.Numbers.{is_place_at, number_of_place_at}
use Rattle.law_model.specs.Root.{Root}
use Rattle.law_model.proofs.Roots.{root_within}
use Rattle.wave_proved.specs.Contents.{Contents, IsWave, IsWritten, job}
use Rattle.wave_proved.specs.Pairs.{IsRootOf, root_in}
use Rattle.decide_lane_nodes.specs.Covered.{IsCovered}
use Rattle.decide_lane_nodes.specs.InWave.{IsLiteralIn}
use Rattle.decide_lane_nodes.specs.Literal.{LiteralView, literal_in}
use Rattle.decide_lane_nodes.specs.Nodes.{numbers_of}
use Rattle.decide_lane_nodes.specs.declared.literal.Covered.{Covered}
use Rattle.decide_lane_nodes.proofs.ArgumentRoots.{number_at}
use Rattle.decide_lanes.specs.Graphs.{GivesCone, IsGraphIn}
use Rattle.decide_lanes.specs.Lanes.{IsRightOf, LanesView, count_of}
use Rattle.decide_lanes.specs.Roots.{HasNode, IsRootAt, place_of}
use Rattle.decide_lanes.proofs.CoveredLanes.{IsOf}

-- ---- cones

cone_here : (c : Contents) (lanes : LanesView) (node : ℕ) (cone : List Node) → IsWave c → IsRightOf c lanes
    → HasNode lanes node → GivesCone lanes.graph (node - 1) cone → IsConeOf c (place_of lanes node) cone
cone_here c lanes node cone wave right has gives = by lanes.graph right.graph gives
  where
    by : (graph : Option (List Node)) → IfSome graph (IsGraphIn c lanes.nodes) → GivesCone graph (node - 1) cone
        → IsConeOf c (place_of lanes node) cone
    by None holds gives = absurd gives
    by (Some graph) holds gives = subst (λ k. IsConeOf c k cone) (number_at lanes.nodes node has.some has.within)
        (gives c (numbers_of lanes.nodes) wave holds.is_graph)

if_here : (c : Contents) (lanes : LanesView) (node : ℕ) (found : Option ConeView) → IsWave c → IsRightOf c lanes
    → HasNode lanes node → IfSome found (λ cone. GivesCone lanes.graph (node - 1) cone.nodes)
    → IfSome found (λ cone. IsConeOf c (place_of lanes node) cone.nodes)
if_here c lanes node None wave right has gives = tt
if_here c lanes node (Some cone) wave right has gives = cone_here c lanes node cone.nodes wave right has gives

-- What the graph gives at a node is the cone of its place.
pub cone_of_node : {E : Type 0} (c : Contents) (lanes inside : LanesView) (node : ℕ)
    (result : Result (Option ConeView) E) → IsWave c → IsRightOf c lanes → HasNode lanes node → inside ≡ lanes
    → IfOk result (λ found. IfSome found (λ cone. GivesCone inside.graph (node - 1) cone.nodes))
    → IfOk result (λ found. IfSome found (λ cone. IsConeOf c (place_of lanes node) cone.nodes))
cone_of_node c lanes inside node result wave right has same gives =
    IfOk-weaker result _ _ (λ found gives. if_here c lanes node found wave right has gives)
    (subst (λ (l : LanesView). IfOk result (λ found. IfSome found (λ cone. GivesCone l.graph (node - 1) cone.nodes))) same gives)

-- ---- roots

-- A place between the first that has a literal and the count has one.
literal_there : (c : Contents) (lanes : LanesView) (number : ℕ) → IsRightOf c lanes → lanes.first ≤ number
    → number < count_of lanes → IsLiteralIn c lanes.nodes (literal_in lanes.first lanes.literals number) number
literal_there c lanes number right first below = right.each number first below

pub covered_there : (c : Contents) (lanes : LanesView) (covered : Covered) (number : ℕ) → IsRightOf c lanes
    → IsOf covered lanes → covered.first ≤ number → number < count_of lanes → IsCovered covered number
covered_there c lanes covered number right of first below = record {
  first = first;
  below = rw (of.first, of.literals) below;
  node = rw (of.nodes, of.first, of.literals)
      (literal_there c lanes number right (subst (λ k. k ≤ number) of.first first) below).within;
}

module _ (c : Contents) (lanes : LanesView) (place : Place) (number : ℕ) (literal : LiteralView) (wave : IsWave c)
    (right : IsRightOf c lanes) (written : IsWritten c place) (is : number ≡ number_of (job c) place)
    (uncertain : is_unknown (certain c.written (number_of (job c) place)) ≡ true) (first : lanes.first ≤ number)
    (below : number < count_of lanes) (literal_is : literal ≡ literal_in lanes.first lanes.literals number)
  where
    holds : IsLiteralIn c lanes.nodes literal number
    holds = subst (λ l. IsLiteralIn c lanes.nodes l number) (sym literal_is) (literal_there c lanes number right first below)

    unknown : is_unknown (certain c.written number) ≡ true
    unknown = subst (λ k. is_unknown (certain c.written k) ≡ true) (sym is) uncertain

    low : number < length c.written
    low = let less = written.written in omega (arith, is, less)

    within : number < places_of (job c)
    within = let all = wave.holds.sound.within in let less = low in omega (arith, all, less)

    own : place_of lanes literal.node ≡ (root_in c number).place
    own = sym (ap (λ (r : Root). r.place) (holds.root unknown))

    turns : literal.inverted ≡ (root_in c number).inverted
    turns = sym (ap (λ (r : Root). r.inverted) (holds.root unknown))

    not_behind : place_of lanes literal.node ≤ number
    not_behind = let up = root_within (job c) wave.fits.fits_job (certain c.written) number within in
        let same = own in omega (arith, up, same)

    -- The node of its literal is there, and the place of that is a place of the job.
    pub node_there : HasNode lanes literal.node
    node_there = record { some = holds.some unknown; within = holds.within }

    pub place_there : place_of lanes literal.node < places_of (job c)
    place_there = let up = not_behind in let less = within in omega (arith, up, less)

    same_number : (found : Place) → found ≡ place_at (job c) (place_of lanes literal.node)
        → number_of (job c) found ≡ place_of lanes literal.node
    same_number found found_is = ap (number_of (job c)) found_is
        ∙ number_of_place_at (job c) (place_of lanes literal.node) wave.fits.fits_job.ordering wave.fits.fits_job.all place_there

    is_root : (found : Place) → found ≡ place_at (job c) (place_of lanes literal.node)
        → IsRootOf c place (found, literal.inverted)
    is_root found found_is = record {
      written = record {
        within = subst (IsPlace (job c)) (sym found_is) (is_place_at (job c) (place_of lanes literal.node)
            wave.fits.fits_job.ordering wave.fits.fits_job.all place_there);
        written = (let up = not_behind in let less = low in let same = same_number found found_is in
            omega (arith, up, less, same));
      };
      place = same_number found found_is ∙ own ∙ ap (λ n. (root_in c n).place) is;
      inverted = turns ∙ ap (λ n. (root_in c n).inverted) is;
    }

    pub root_there : (found : Place) → found ≡ place_at (job c) (place_of lanes literal.node)
        → IsRootAt c lanes place (literal.node, (found, literal.inverted))
    root_there found found_is = record {
      node = node_there;
      root = is_root found found_is;
      own = sym (same_number found found_is);
    }
