-- The row under way goes on as the one before.
use Rattle.std.proofs.Common.{◌-◌, ◌%◌, ◌≤◌, ◌++◌, length, take, refl, sym, ap, subst, ◌∙◌, arith}
use Rattle.decide_lane_nodes.specs.Rows.{RowsView, last_row, rows_of}
use Rattle.decide_lane_nodes.proofs.GoingRows.{onward_full, onward_more, onward_row, rows_long, rows_position, some_whole}
use Rattle.decide_lane_nodes.proofs.GoingRows.{take_on}
use Rattle.decide_lane_nodes.proofs.rows.LiteralRows.repeat.Goals as goal

pub returns-then-self : goal.returns-then-self
returns-then-self c =
    let is = c.self.invariant in
    let k = c.self.inside.kept in
    let p = c.self.inside.position in
    let w = c.self.inside.width in
    let n = c.self.inside.whole in
    let inside = is.inside in
    let test = c.if-self.true in
    let before : w ≤ length (rows_of w n p k).literals =
    subst (λ (v : RowsView). v.width ≤ length v.literals) (sym c.self.view_is) c.requires.before in
    let long = rows_long w n p k is.kept is.few (omega (arith, inside)) in
    onward_row w n p c.args.many k k c.args.self.now (last_row c.args.self.now c.args.many) c.self.view_is is.kept is.few
    (omega (arith, inside)) refl
    (take_on w n p c.args.many k is.kept is.few (some_whole w n p (omega (arith, before, long)) inside)
    (omega (arith, test)) is.below
    ∙ ap (λ (v : RowsView). take p k.row.items ++ last_row v c.args.many) c.self.view_is)

pub returns-then-self-lt3 : goal.returns-then-self-lt3
returns-then-self-lt3 c =
    let is = c.self.invariant in
    let k = c.self.inside.kept in
    let p = c.self.inside.position in
    let w = c.self.inside.width in
    let n = c.self.inside.whole in
    let inside = is.inside in
    let test = c.if-self.false in
    let room : c.args.many ≤ w - p =
    subst (λ m. c.args.many ≤ w - m) (rows_position w n p k is.kept is.few inside)
    (subst (λ (v : RowsView). c.args.many ≤ v.width - length v.literals % v.width) (sym c.self.view_is) c.requires.room) in
    let before : w ≤ length (rows_of w n p k).literals =
    subst (λ (v : RowsView). v.width ≤ length v.literals) (sym c.self.view_is) c.requires.before in
    let long = rows_long w n p k is.kept is.few (omega (arith, inside)) in
    onward_more w n p c.args.many k k c.turn.new.kept c.args.self.now (last_row c.args.self.now c.args.many)
    c.self.view_is is.kept is.kept c.if-self-lt3.true (omega (arith, inside, test, room)) refl
    (take_on w n p c.args.many k is.kept is.few (some_whole w n p (omega (arith, before, long)) inside)
    (omega (arith, inside, room)) is.below
    ∙ ap (λ (v : RowsView). take p k.row.items ++ last_row v c.args.many) c.self.view_is)
    c.turn.ensures

pub returns : goal.returns
returns c =
    let is = c.self.invariant in
    let k = c.self.inside.kept in
    let p = c.self.inside.position in
    let w = c.self.inside.width in
    let n = c.self.inside.whole in
    let inside = is.inside in
    let few = is.few in
    let test = c.if-self.false in
    let full = c.if-self-lt3.false in
    let room : c.args.many ≤ w - p =
    subst (λ m. c.args.many ≤ w - m) (rows_position w n p k is.kept is.few inside)
    (subst (λ (v : RowsView). c.args.many ≤ v.width - length v.literals % v.width) (sym c.self.view_is) c.requires.room) in
    let before : w ≤ length (rows_of w n p k).literals =
    subst (λ (v : RowsView). v.width ≤ length v.literals) (sym c.self.view_is) c.requires.before in
    let long = rows_long w n p k is.kept is.few (omega (arith, inside)) in
    onward_full w n p c.args.many k k c.turn.new.kept c.args.self.now (last_row c.args.self.now c.args.many)
    c.self.view_is is.kept is.kept (omega (arith, few, full)) (omega (arith, inside, test, room)) refl
    (take_on w n p c.args.many k is.kept is.few (some_whole w n p (omega (arith, before, long)) inside)
    (omega (arith, inside, room)) is.below
    ∙ ap (λ (v : RowsView). take p k.row.items ++ last_row v c.args.many) c.self.view_is)
    c.turn.ensures
