-- What is kept are the sources, and the lane lists of them what its filling does.
use Rattle.std.proofs.Common.{◌<◌, ap, map, filter, subst, sym, ◌∙◌}
use Rattle.std.specs.List.{AllByRecursion}
use Rattle.design_circuit.specs.Fits.{place_at}
use Rattle.design_circuit.specs.Job.{Job, places_of}
use Rattle.decide_lane_nodes.specs.Given.{lane_given}
use Rattle.decide_lanes.proofs.LanePairs.{filling_is, listed_are, sources_low}
use Rattle.decide_lanes.proofs.pair.filling_of.Goals as goal

pub ones-requires-clause-within : goal.ones-requires-clause-within
ones-requires-clause-within c =
    subst (λ (j : Job). AllByRecursion (λ k. k < places_of j) c.in-Some.list.now) (sym c.circuit.ensures.job)
    (sources_low c.args.wave.now _ c.in-Some.list.now c.requires.node.within
    (listed_are c.args.wave.now c.args.nodes.now c.args.node c.in-Some.list.now c.requires.node c.in-Some.ensures))

pub returns-in_ok-places-in-Some : goal.returns-in_ok-places-in-Some
returns-in_ok-places-in-Some c =
    c.from_vec.ensures ∙ c.in_ok-places-in-Some.ensures
    ∙ ap (λ (j : Job). map (place_at j) (filter (lane_given j c.args.lane) c.in-Some.list.now)) c.circuit.ensures.job
    ∙ filling_is c.args.wave.now c.in-Some.list.now c.args.lane
    (listed_are c.args.wave.now c.args.nodes.now c.args.node c.in-Some.list.now c.requires.node c.in-Some.ensures)
