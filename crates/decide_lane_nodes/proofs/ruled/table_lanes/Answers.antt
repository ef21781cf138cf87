-- The lanes of the arguments choose.
use Rattle.std.proofs.Common.{◌≤◌, length, ap, ◌∙◌, arith}
use Rattle.decide_nodes.specs.Lanes.{in_lane}
use Rattle.decide_nodes.proofs.ChosenLanes.{number_is}
use Rattle.decide_lane_nodes.specs.Covered.{covered_bit, table_bit}
use Rattle.decide_lane_nodes.proofs.ruled.table_lanes.Goals as goal

pub returns : goal.returns
returns c = λ lane less.
    let arguments = c.args.arguments.now in
    let few = c.requires.few in
    let long = c.arguments.invariant.long in
    let all = c.arguments-test.false in
    c.table_lanes.ensures lane less
    ∙ ap (λ n. table_bit c.args.values.now n (in_lane c.args.own lane))
    (number_is arguments c.arguments.given (covered_bit c.args.covered lane) lane (omega (arith, few, long))
    (λ k low. c.arguments.invariant.are k (omega (arith, low, all)) lane less))
