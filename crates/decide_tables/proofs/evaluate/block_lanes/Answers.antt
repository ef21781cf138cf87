-- The node's own table chooses, from the blocks that were found.
use Rattle.std.proofs.Common.{arith}
use Rattle.decide_tables.proofs.RightTables.{block_right}
use Rattle.decide_tables.proofs.evaluate.block_lanes.Goals as goal

pub returns : goal.returns
returns c =
    let kept = c.node-kept.result in
    let arguments = kept.arguments.now in
    let full = c.read_blocks.new.given in
    let stands = c.node-kept.ensures.stands in
    let few = stands.few in
    let long = c.read_blocks.ensures.long in
    block_right c.args.graph.now c.args.list.now c.args.tables.now c.args.node c.args.block kept.place arguments
    kept.values.now full c.own_lanes-own.result c.table_lanes.result c.requires.right c.node-kept.ensures.node
    stands.before (omega (arith, few, long)) (c.read_blocks.ensures.all c.if-not-read_blocks.false) stands.long
    c.own_lanes-own.ensures c.table_lanes.ensures
