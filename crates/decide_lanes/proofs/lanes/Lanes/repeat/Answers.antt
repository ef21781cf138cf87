-- The places come in with the literals of the last row.
use Rattle.std.proofs.Common.{◌≡◌, ◌+◌, true, refl, ap, sym, subst, ◌∙◌, arith}
use Rattle.wave_proved.specs.Contents.{job}
use Rattle.wave_proved.specs.Kept.{AllKeepFrom, keeps_there}
use Rattle.decide_lane_nodes.specs.Rows.{last_row}
use Rattle.decide_lanes.specs.Lanes.{IsRightOf, LanesView, count_of}
use Rattle.decide_lanes.proofs.CoveredLanes.{kept_run, kept_wide, last_long, onward_count, onward_right}
use Rattle.decide_lanes.proofs.lanes.Lanes.repeat.Goals as goal

pub repeat-gone-requires-clause-before : goal.repeat-gone-requires-clause-before
repeat-gone-requires-clause-before c =
    let lanes : LanesView = record {
      nodes = c.self.inside.nodes;
      first = c.self.inside.first;
      literals = c.self.inside.literals.literals;
      next = c.self.inside.next;
      graph = c.self.inside.graph;
      shared = c.self.inside.shared;
      width = c.self.inside.literals.width;
    } in
    let count : count_of lanes ≡ count_of c.args.self.now = ap count_of c.self.view_is in
    let written = c.requires.written in
    let some = c.requires.some in
    kept_wide c.args.wave.now lanes c.recall.ensures
    (subst (IsRightOf c.args.wave.now) (sym c.self.view_is) c.requires.right)
    (ap (λ (l : LanesView). l.width) c.self.view_is ∙ c.requires.width) (omega (arith, count, written, some))
    (subst (λ n. keeps_there (job c.args.wave.now) c.args.wave.now.written n ≡ true) (sym count)
    (c.requires.keep (count_of c.args.self.now) (omega (arith, some)) (omega arith)))

pub returns-clause-right : goal.returns-clause-right
returns-clause-right c =
    let lanes : LanesView = record {
      nodes = c.self.inside.nodes;
      first = c.self.inside.first;
      literals = c.self.inside.literals.literals;
      next = c.self.inside.next;
      graph = c.self.inside.graph;
      shared = c.self.inside.shared;
      width = c.self.inside.literals.width;
    } in
    let count : count_of lanes ≡ count_of c.args.self.now = ap count_of c.self.view_is in
    let written = c.requires.written in
    let sized = ap (λ (l : LanesView). l.width) c.self.view_is ∙ c.requires.width in
    let width = c.requires.width in
    let room = c.requires.room in
    onward_right c.args.wave.now lanes c.self.inside.literals c.repeat-gone.new.self
    (last_row c.self.inside.literals c.args.many) c.repeat-gone.result c.repeat-gone.ensures refl refl sized
    (kept_run c.args.wave.now lanes c.args.many c.recall.ensures
    (subst (IsRightOf c.args.wave.now) (sym c.self.view_is) c.requires.right) sized c.requires.some
    (omega (arith, room, width)) (omega (arith, count, written))
    (subst (λ n. AllKeepFrom (job c.args.wave.now) c.args.wave.now.written n (n + c.args.many)) (sym count)
    c.requires.keep))

pub returns-clause-count : goal.returns-clause-count
returns-clause-count c =
    let lanes : LanesView = record {
      nodes = c.self.inside.nodes;
      first = c.self.inside.first;
      literals = c.self.inside.literals.literals;
      next = c.self.inside.next;
      graph = c.self.inside.graph;
      shared = c.self.inside.shared;
      width = c.self.inside.literals.width;
    } in
    let count : count_of lanes ≡ count_of c.args.self.now = ap count_of c.self.view_is in
    let written = c.requires.written in
    let some = c.requires.some in
    let sized = ap (λ (l : LanesView). l.width) c.self.view_is ∙ c.requires.width in
    let wide = kept_wide c.args.wave.now lanes c.recall.ensures
    (subst (IsRightOf c.args.wave.now) (sym c.self.view_is) c.requires.right) sized (omega (arith, count, written, some))
    (subst (λ n. keeps_there (job c.args.wave.now) c.args.wave.now.written n ≡ true) (sym count)
    (c.requires.keep (count_of c.args.self.now) (omega (arith, some)) (omega arith))) in
    let on = onward_count c.self.inside.literals c.repeat-gone.new.self (last_row c.self.inside.literals c.args.many)
    c.repeat-gone.result c.repeat-gone.ensures in
    let room = c.requires.room in
    let width = c.requires.width in
    let long = last_long c.self.inside.literals c.args.many wide (omega (arith, room, width, sized)) in
    omega (arith, count, on, long)
