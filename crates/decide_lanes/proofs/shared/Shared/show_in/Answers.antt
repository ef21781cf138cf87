-- What the tables show is so of the next place.
use Rattle.std.proofs.Common.{subst, sym}
use Rattle.decide_lanes.specs.Shared.{ListsAll, IsListIn, SharedView}
use Rattle.decide_lanes.proofs.SharedTables.{gives_next, other_next}
use Rattle.decide_lanes.proofs.shared.Shared.show_in.Goals as goal

pub pair_by-requires-clause-other : goal.pair_by-requires-clause-other
pair_by-requires-clause-other c =
    let shared : SharedView = record { numbers = c.self.inside.numbers.items; tables = c.self.inside.tables } in
    other_next c.args.wave.now c.args.graph.now shared c.args.node c.in-Other.other c.recall.ensures
    (subst (IsListIn c.args.wave.now) (sym c.self.view_is) c.requires.right.list) c.requires.node
    (rw c.in-Other.is at c.in_ok-other.ensures.shown)

pub settled_if_few-requires-clause-every : goal.settled_if_few-requires-clause-every
settled_if_few-requires-clause-every c =
    let shared : SharedView = record { numbers = c.self.inside.numbers.items; tables = c.self.inside.tables } in
    gives_next c.args.wave.now c.args.graph.now shared c.args.node c.in-Same.bit c.args.sources.now
    c.recall.ensures c.requires.next
    (subst (IsListIn c.args.wave.now) (sym c.self.view_is) c.requires.right.list) c.requires.node c.requires.sources
    (subst (ListsAll c.args.sources.now) (sym c.self.view_is) c.requires.listed)
    (rw c.in-Same.is at c.in_ok-other.ensures.shown)
