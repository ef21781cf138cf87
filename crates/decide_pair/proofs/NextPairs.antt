-- Fillings that give the next place 0 and 1.
use Rattle.std.proofs.Common.{◌≡◌, ℕ, not, true, false, List, [], sym, ap, ◌∙◌}
use Rattle.design_circuit.proofs.Exact.{empty_filling}
use Rattle.design_circuit.specs.declared.place.Place.{Place}
use Rattle.design_circuit.specs.Filling.{IsFilling}
use Rattle.law_model.specs.declared.line.Body.TheVariants.{Pair}
use Rattle.decide_nodes.specs.OfWave.{Contents, job, next_number, HoldsNext}
use Rattle.decide_nodes.proofs.ConeLaws.{base_law, chosen_law}
use Rattle.decide_nodes.specs.declared.node.Node.{Node}
use Rattle.decide_nodes.specs.Lanes.{lane_of, root_in_lane}
use Rattle.decide_nodes.specs.Nodes.{chosen, nothing, root_bit, sources_of}
use Rattle.decide_pair.specs.Pairs.{next_bit}
use Rattle.decide_nodes.specs.Traced.{IsNextCone}

-- Two fillings that give 0 and 1 are a pair,
pub pair_holds : (c : Contents) (zero one : List Place) → IsFilling (job c) zero → IsFilling (job c) one
    → next_bit c zero ≡ false → next_bit c one ≡ true → HoldsNext c (Pair zero one)
pair_holds c zero one zero_is one_is gives_zero gives_one = record {
  zero_filling = zero_is;
  one_filling = one_is;
  gives_zero = gives_zero;
  gives_one = gives_one;
}

module _ (c : Contents) (nodes : List Node) (is : IsNextCone c nodes) (given : List (List ℕ)) (lane : ℕ)
    (differs : root_in_lane nodes given lane ≡ not (root_bit nothing nodes)) where
  other : List Place
  other = chosen (sources_of nodes) (lane_of given lane)

  empty_gives : next_bit c [] ≡ root_bit nothing nodes
  empty_gives = sym (base_law c (next_number c) nodes is)

  other_gives : next_bit c (chosen (sources_of nodes) (lane_of given lane)) ≡ not (root_bit nothing nodes)
  other_gives = (chosen_law c (next_number c) nodes (lane_of given lane) is).world ∙ differs

  -- so are the empty one and one whose lane differs from it.
  pub pair_up : root_bit nothing nodes ≡ false
      → HoldsNext c (Pair [] (chosen (sources_of nodes) (lane_of given lane)))
  pair_up base = pair_holds c [] (chosen (sources_of nodes) (lane_of given lane)) (empty_filling (job c))
      (chosen_law c (next_number c) nodes (lane_of given lane) is).filling (empty_gives ∙ base)
      (other_gives ∙ ap not base)

  pub pair_down : root_bit nothing nodes ≡ true
      → HoldsNext c (Pair (chosen (sources_of nodes) (lane_of given lane)) [])
  pair_down base = pair_holds c (chosen (sources_of nodes) (lane_of given lane)) []
      (chosen_law c (next_number c) nodes (lane_of given lane) is).filling (empty_filling (job c))
      (other_gives ∙ ap not base) (empty_gives ∙ base)
