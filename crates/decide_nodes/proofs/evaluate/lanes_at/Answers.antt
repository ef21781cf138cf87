-- The lanes that are left are those whose low bits are the number's.
use Rattle.std.proofs.Common.{◌∙◌, []}
use Rattle.std.proofs.lemmas.List.{get_or_default}
use Rattle.decide_nodes.proofs.LaneTables.{agrees_none, agrees_more, all_at}
use Rattle.decide_nodes.proofs.evaluate.lanes_at.Goals as goal

pub arguments-init : goal.arguments-init
arguments-init c =
    agrees_none c.args.arguments.now c.args.lane_table.now c.args.number c.ones-lanes.result c.requires.small
    c.ones-lanes.ensures

pub arguments-preserved : goal.arguments-preserved
arguments-preserved c =
    agrees_more _ _ _ _ _ _ _ _ _ c.arguments-test.true c.arguments.invariant
    (c.index-lane_table-argument.is ∙ get_or_default c.args.lane_table.now _ c.index-lane_table-argument.result []
    (all_at _ _ _ c.requires.before c.arguments-test.true))
    c.turned.ensures c.and-lanes.ensures
