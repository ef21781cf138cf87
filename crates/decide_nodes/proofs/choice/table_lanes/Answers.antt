-- There are at most 2 to the 13 values.
use Rattle.std.proofs.Common.{length}
use Rattle.decide_nodes.proofs.ChosenLanes.{few_values}
use Rattle.decide_nodes.proofs.choice.table_lanes.Goals as goal

pub part_lanes-requires-clause-small : goal.part_lanes-requires-clause-small
part_lanes-requires-clause-small c =
    few_values c.args.arguments.now (length c.args.values.now) c.requires.few c.requires.long
