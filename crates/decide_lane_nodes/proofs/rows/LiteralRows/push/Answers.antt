-- A literal is put, and the row is turned where it is whole.
use Rattle.std.proofs.Common.{◌+◌, ◌∷◌, [], take, refl, sym, ap, subst, ◌∙◌, arith, List}
use Rattle.decide_lane_nodes.specs.Literal.{LiteralView}
use Rattle.decide_lane_nodes.specs.Rows.{AreKept}
use Rattle.decide_lane_nodes.specs.declared.rows.Kept.{Kept}
use Rattle.decide_lane_nodes.proofs.GoingRows.{kept_put, onward_full, onward_more, onward_row, put_below, take_put}
use Rattle.decide_lane_nodes.proofs.rows.LiteralRows.push.Goals as goal

pub invariant_of-self-then-self : goal.invariant_of-self-then-self
invariant_of-self-then-self c =
    let is = c.self.invariant in
    let old = c.self.inside.kept in
    let p = c.self.inside.position in
    record {
      some = is.some;
      small = is.small;
      few = is.few;
      inside = c.if-self.true;
      kept = kept_put c.self.inside.width p c.args.literal old (record old { row = c.put.new.row; moved = c.put.new.moved })
          is.kept is.inside refl refl refl refl refl refl c.in_ok-put.ensures.row c.in_ok-put.ensures.moved;
      below = put_below old.row.items p c.args.literal old.moved.items c.put.new.moved.items c.in_ok-put.ensures.moved
          is.below;
    }

pub returns-then-self-clause-ok : goal.returns-then-self-clause-ok
returns-then-self-clause-ok c =
    let is = c.self.invariant in
    let old = c.self.inside.kept in
    let p = c.self.inside.position in
    let inside = is.inside in
    let long = is.kept.long in
    onward_row c.self.inside.width c.self.inside.whole p 1 old
    (record old { row = c.put.new.row; moved = c.put.new.moved }) c.args.self.now (c.args.literal ∷ []) c.self.view_is
    is.kept is.few (omega (arith, inside)) refl
    (ap (λ (ls : List LiteralView). take (p + 1) ls) c.in_ok-put.ensures.row
    ∙ take_put old.row.items p c.args.literal (omega (arith, inside, long)))

pub turn-requires : goal.turn-requires
turn-requires c =
    let is = c.self.invariant in
    let old = c.self.inside.kept in
    let mid : Kept = record old { row = c.put.new.row; moved = c.put.new.moved } in
    let kept = kept_put c.self.inside.width c.self.inside.position c.args.literal old mid is.kept is.inside refl refl refl
    refl refl refl c.in_ok-put.ensures.row c.in_ok-put.ensures.moved in
    subst (λ n. AreKept n mid) (sym kept.long) kept

pub returns-then-self-lt3-clause-ok : goal.returns-then-self-lt3-clause-ok
returns-then-self-lt3-clause-ok c =
    let is = c.self.invariant in
    let old = c.self.inside.kept in
    let p = c.self.inside.position in
    let mid : Kept = record old { row = c.put.new.row; moved = c.put.new.moved } in
    let inside = is.inside in
    let long = is.kept.long in
    let whole = c.if-self.false in
    onward_more c.self.inside.width c.self.inside.whole p 1 old mid c.turn.new.kept c.args.self.now (c.args.literal ∷ [])
    c.self.view_is is.kept
    (kept_put c.self.inside.width p c.args.literal old mid is.kept is.inside refl refl refl
    refl refl refl c.in_ok-put.ensures.row c.in_ok-put.ensures.moved)
    c.if-self-lt3.true (omega (arith, inside, whole)) refl
    (ap (λ (ls : List LiteralView). take (p + 1) ls) c.in_ok-put.ensures.row
    ∙ take_put old.row.items p c.args.literal (omega (arith, inside, long)))
    c.turn.ensures

pub returns-clause-ok : goal.returns-clause-ok
returns-clause-ok c =
    let is = c.self.invariant in
    let old = c.self.inside.kept in
    let p = c.self.inside.position in
    let mid : Kept = record old { row = c.put.new.row; moved = c.put.new.moved } in
    let inside = is.inside in
    let long = is.kept.long in
    let whole = c.if-self.false in
    let few = is.few in
    let full = c.if-self-lt3.false in
    onward_full c.self.inside.width c.self.inside.whole p 1 old mid c.turn.new.kept c.args.self.now (c.args.literal ∷ [])
    c.self.view_is is.kept
    (kept_put c.self.inside.width p c.args.literal old mid is.kept is.inside refl refl refl
    refl refl refl c.in_ok-put.ensures.row c.in_ok-put.ensures.moved)
    (omega (arith, few, full)) (omega (arith, inside, whole)) refl
    (ap (λ (ls : List LiteralView). take (p + 1) ls) c.in_ok-put.ensures.row
    ∙ take_put old.row.items p c.args.literal (omega (arith, inside, long)))
    c.turn.ensures
