-- A table with all of its places is whole.
use Rattle.std.proofs.Common.{rules}
use Rattle.decide_graph.proofs.EssentialBits.{whole_cut}
use Rattle.decide_graph.proofs.table.whole_table.Goals as goal

pub returns : goal.returns
returns c =
    whole_cut c.args.places.now c.args.values.now c.in_ok-whole.whole.items c.requires.rising c.requires.long
    (search rules)
