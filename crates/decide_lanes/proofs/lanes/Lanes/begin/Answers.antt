-- No place is covered.
use Rattle.std.proofs.Common.{ap, sym, subst, ◌∙◌}
use Rattle.decide_lane_nodes.specs.Rows.{RowsView}
use Rattle.decide_lanes.specs.Lanes.{IsRightOf, LanesView, count_of}
use Rattle.decide_lanes.proofs.CoveredLanes.{begun_right}
use Rattle.decide_lanes.proofs.lanes.Lanes.begin.Goals as goal

pub returns-in_ok-self-inside-clause-right : goal.returns-in_ok-self-inside-clause-right
returns-in_ok-self-inside-clause-right c =
    let lanes : LanesView = record {
      nodes = c.self.inside.nodes;
      first = c.self.inside.first;
      literals = c.self.inside.literals.literals;
      next = c.self.inside.next;
      graph = c.self.inside.graph;
      shared = c.self.inside.shared;
      width = c.self.inside.literals.width;
    } in
    begun_right c.args.wave.now lanes c.in_ok-self-inside.field-0
    (subst (IsRightOf c.args.wave.now) (sym c.self.view_is) c.requires.right)
    (ap count_of c.self.view_is ∙ sym c.count.ensures ∙ c.if-count-eq0.true)
    (ap (λ (v : RowsView). v.literals) c.in_ok-self-inside.ensures)
