-- The literal of the place comes in.
use Rattle.std.proofs.Common.{◌∷◌, [], ap, refl, ◌∙◌}
use Rattle.decide_lanes.specs.Lanes.{LanesView}
use Rattle.decide_lanes.proofs.CoveredLanes.{covered_next, onward_right}
use Rattle.decide_lanes.proofs.lanes.Lanes.cover_one.Goals as goal

pub returns-clause-right : goal.returns-clause-right
returns-clause-right c =
    let lanes : LanesView = record {
      nodes = c.self.inside.nodes;
      first = c.self.inside.first;
      literals = c.self.inside.literals.literals;
      next = c.self.inside.next;
      graph = c.self.inside.graph;
      shared = c.self.inside.shared;
      width = c.self.inside.literals.width;
    } in
    onward_right c.args.wave.now lanes c.self.inside.literals c.push.new.self (c.in_ok-literal.literal ∷ [])
    c.in_ok-gone.gone c.in_ok-gone.ensures.ok refl refl
    (ap (λ (l : LanesView). l.width) c.self.view_is ∙ c.in_ok-literal.ensures.keeps.width ∙ c.requires.width)
    (covered_next c.args.wave.now c.args.self.now c.literal_of.new.self lanes c.in_ok-literal.literal
    c.count-place.result c.self.view_is c.in_ok-literal.ensures.keeps c.in_ok-literal.ensures.right c.requires.width
    c.count-place.ensures c.requires.more c.in_ok-literal.ensures.literal)
