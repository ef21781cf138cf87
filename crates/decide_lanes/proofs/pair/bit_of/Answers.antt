-- The sources are kept, and the lane lists of them what the filling does.
use Rattle.std.proofs.Common.{ℕ, ◌<◌, List, ap, sym, subst, ◌∙◌}
use Rattle.std.specs.List.{AllByRecursion}
use Rattle.design_circuit.specs.Job.{Job, places_of}
use Rattle.decide_nodes.specs.Lanes.{in_lane}
use Rattle.decide_lanes.specs.Pairs.{ListsJust}
use Rattle.decide_lanes.proofs.LanePairs.{bit_in_world, listed_are, sources_low}
use Rattle.decide_lanes.proofs.pair.bit_of.Goals as goal

pub lane_that_lists-requires : goal.lane_that_lists-requires
lane_that_lists-requires c = record {
  within =
      subst (λ (j : Job). AllByRecursion (λ k. k < places_of j) c.in-Some.list.now) (sym c.circuit.ensures.job)
      (sources_low c.args.wave.now _ c.in-Some.list.now c.requires.within
      (listed_are c.args.wave.now c.args.nodes.now c.args.node c.in-Some.list.now c.requires c.in-Some.ensures));
}

pub returns-in-Some-2 : goal.returns-in-Some-2
returns-in-Some-2 c =
    c.in_lane.ensures ∙ ap (λ (bits : List ℕ). in_lane bits c.in-Some-2.lane) c.lane_bits.ensures
    ∙ bit_in_world c.args.wave.now c.circuit.ensures.wave c.requires.within c.in-Some.list.now _ c.args.filling.now c.in-Some-2.lane
    (listed_are c.args.wave.now c.args.nodes.now c.args.node c.in-Some.list.now c.requires c.in-Some.ensures) c.requires.holds.bits
    (subst (λ (j : Job). ListsJust j c.in-Some.list.now c.args.filling.now c.in-Some-2.lane) c.circuit.ensures.job
    (rw c.in-Some-2.is at c.in_ok-lane_that_lists-in-Some.ensures))
