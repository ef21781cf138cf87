-- What was right stays right where room is made.
use Rattle.decide_tables.proofs.tables.SourceTables.compare.Goals as goal

pub make_missing-requires-clause-right : goal.make_missing-requires-clause-right
make_missing-requires-clause-right c = c.make_room.ensures.right c.args.graph.now c.requires.right
