-- The pair stands in the order that the lane of the empty filling says.
use Rattle.std.proofs.Common.{◌<◌, sym, subst, ◌∙◌}
use Rattle.std.specs.List.{AllByRecursion}
use Rattle.design_circuit.specs.Job.{Job, places_of}
use Rattle.decide_lanes.proofs.LanePairs.{pair_down, pair_up, sources_low}
use Rattle.decide_lanes.proofs.pair.pair_over.Goals as goal

pub sparse_lane-requires : goal.sparse_lane-requires
sparse_lane-requires c = record {
  within =
      subst (λ (j : Job). AllByRecursion (λ k. k < places_of j) c.args.list.now) (sym c.circuit-circuit.ensures.job)
      (sources_low c.args.wave.now _ c.args.list.now c.requires.within c.requires.sources);
}

pub ones-requires-clause-within : goal.ones-requires-clause-within
ones-requires-clause-within c =
    subst (λ (j : Job). AllByRecursion (λ k. k < places_of j) c.args.list.now) (sym c.circuit-circuit.ensures.job)
    (sources_low c.args.wave.now _ c.args.list.now c.requires.within c.requires.sources)

pub from_law-requires-clause-law : goal.from_law-requires-clause-law
from_law-requires-clause-law c =
    rw (
      c.from_vec-other.ensures,
      c.from_vec-empty.ensures,
      c.new.ensures.items,
      c.in_ok-ones-in-Some.ensures,
      c.circuit-circuit.ensures.job,
    )
    (pair_down c.args.wave.now c.circuit-circuit.ensures.wave c.requires.within c.args.list.now c.args.lane_bits c.in-Some.lane
    c.requires.sources c.requires.bits c.in-Some.ensures (sym c.in_lane.ensures ∙ c.if-in_lane.true))

pub from_law-requires-else-in_lane-clause-law : goal.from_law-requires-else-in_lane-clause-law
from_law-requires-else-in_lane-clause-law c =
    rw (
      c.from_vec-other.ensures,
      c.from_vec-empty.ensures,
      c.new.ensures.items,
      c.in_ok-ones-in-Some.ensures,
      c.circuit-circuit.ensures.job,
    )
    (pair_up c.args.wave.now c.circuit-circuit.ensures.wave c.requires.within c.args.list.now c.args.lane_bits c.in-Some.lane
    c.requires.sources c.requires.bits c.in-Some.ensures (sym c.in_lane.ensures ∙ c.if-in_lane.false))
