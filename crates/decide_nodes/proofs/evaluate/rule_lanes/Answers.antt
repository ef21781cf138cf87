-- The lanes so far cover the values so far.
use Rattle.std.proofs.Common.{get_or}
use Rattle.std.proofs.lemmas.List.{get_or_default}
use Rattle.design_cell.specs.declared.value.Value.TheVariants.{X, Zero}
use Rattle.decide_nodes.proofs.LaneTables.{covers_none, covers_more, covers_all}
use Rattle.decide_nodes.proofs.evaluate.rule_lanes.Goals as goal

pub values-init : goal.values-init
values-init c =
    covers_none c.args.arguments.now c.args.values.now c.args.lane_table.now c.args.own c.zeros-lane_bits.result
    c.zeros-lane_bits.ensures

pub values-preserved : goal.values-preserved
values-preserved c =
    covers_more c.args.arguments.now c.args.values.now c.args.lane_table.now c.args.own c.values.lane_bits c.part_lanes.result
    c.or-lane_bits.result c.values.number (get_or c.args.values.now c.values.number Zero)
    (get_or_default c.args.values.now c.values.number Zero X c.values-test.true) c.values.invariant
    c.part_lanes.ensures c.or-lane_bits.ensures

pub returns : goal.returns
returns c = covers_all c.args.arguments.now c.args.values.now c.args.lane_table.now c.args.own c.values.lane_bits c.values.number
    c.requires.long c.values-test.false c.values.invariant
