-- The next place has its node, and the tables stay right.
use Rattle.std.proofs.Common.{subst, sym}
use Rattle.std.proofs.lemmas.Result.{on_ok_weaker}
use Rattle.decide_lanes.specs.Lanes.{IsLookedAt, IsRightOf, LanesView}
use Rattle.decide_lanes.proofs.SharedLanes.{next_in, shared_right}
use Rattle.decide_lanes.proofs.lanes.Lanes.find_shared.Goals as goal

pub show-requires-clause-node : goal.show-requires-clause-node
show-requires-clause-node c =
    next_in c.args.wave.now (record {
      nodes = c.self.inside.nodes;
      first = c.self.inside.first;
      literals = c.self.inside.literals.literals;
      next = c.self.inside.next;
      graph = c.self.inside.graph;
      shared = c.self.inside.shared;
      width = c.self.inside.literals.width;
    }) c.in-Some.node (subst (IsRightOf c.args.wave.now) (sym c.self.view_is) c.requires.right)
    (subst (IsLookedAt c.args.wave.now) (sym c.self.view_is) c.requires.looked) c.in-Some.is

pub returns-in-Some-sources-clause-right : goal.returns-in-Some-sources-clause-right
returns-in-Some-sources-clause-right c =
    let lanes : LanesView = record {
      nodes = c.self.inside.nodes;
      first = c.self.inside.first;
      literals = c.self.inside.literals.literals;
      next = c.self.inside.next;
      graph = c.self.inside.graph;
      shared = c.self.inside.shared;
      width = c.self.inside.literals.width;
    } in
    on_ok_weaker c.show.result (λ is. shared_right c.args.wave.now lanes c.show.new.self
    (subst (IsRightOf c.args.wave.now) (sym c.self.view_is) c.requires.right) is) c.show.ensures.right
