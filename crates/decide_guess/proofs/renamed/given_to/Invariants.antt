-- The lanes so far are those of the sources among the first nodes.
use Rattle.std.proofs.Common.{◌≡◌, ℕ, ◌<◌, false, map}
use Rattle.std.specs.List.{slice_index_or}
use Rattle.law_model.specs.Places.{places_where}
use Rattle.decide_nodes.specs.Lanes.{in_lane}
use Rattle.decide_guess.specs.Renamed.{is_source_at}
use Rattle.decide_guess.proofs.renamed.given_to.Given as goal

abbrev pub invariant-nodes : goal.invariant-nodes
invariant-nodes l = (lane : ℕ) → lane < 256
    → map (λ lane_bits. in_lane lane_bits lane) l.given.items
    ≡ map (λ k. slice_index_or l.marks k false) (places_where (is_source_at l.cone.nodes) l.position)
