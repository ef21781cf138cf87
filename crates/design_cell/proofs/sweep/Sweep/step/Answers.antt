-- The row is the one behind it, or its cases are marked.
use Rattle.std.proofs.Common.{◌∙◌, ℕ, suc, length, sym, arith, add-one, subst, Option}
use Rattle.std.proofs.lemmas.List.{get_or_default}
use Rattle.design_cell.specs.declared.row.RawRow.{RawRow}
use Rattle.design_cell.specs.Row.{nowhere}
use Rattle.design_cell.specs.Sweep.{FirstIn}
use Rattle.design_cell.specs.Seen.{Looks, IsSeen}
use Rattle.design_cell.proofs.Lookups.{Clashing, seen_repeats, first_repeats, seen_more, first_more}
use Rattle.design_cell.proofs.sweep.Sweep.step.Goals as goal

pub returns-then-is_repeated : goal.returns-then-is_repeated
returns-then-is_repeated c =
    let n = c.args.inputs in
    let w = c.args.self in
    let rows = c.args.rows.now in
    let same = c.is_repeated.ensures c.if-is_repeated.true in
    record {
      room = omega (arith, c.requires.behind.room);
      seen_ = seen_repeats n w rows c.args.i c.args.seen.now same c.requires.behind.seen_;
      first_ = subst (λ (first : Option ℕ). FirstIn (Clashing n w rows) c.args.i (length rows) first) (sym c.replaced.ensures) (first_repeats n w rows c.args.i c.args.first c.eq.result same c.eq.ensures c.requires.behind.first_);
    }

pub returns-else-is_repeated : goal.returns-else-is_repeated
returns-else-is_repeated c =
    let n = c.args.inputs in
    let w = c.args.self in
    let rows = c.args.rows.now in
    let i = c.args.i in
    let within = c.requires.row in
    let row_is = c.index-rows-i.is ∙ get_or_default rows i c.index-rows-i.result nowhere within in
    let looks = subst (λ (row : RawRow). Looks n w row c.args.seen.now c.look-hit.new.seen c.look-hit.result) row_is c.look-hit.ensures in
    let seen : IsSeen c.args.inputs c.args.self c.args.rows.now (suc c.args.i) c.args.seen.now = rw (← add-one) c.requires.behind.seen_ in
    let first : FirstIn (Clashing c.args.inputs c.args.self c.args.rows.now) (suc c.args.i) (length c.args.rows.now) c.args.first = rw (← add-one) c.requires.behind.first_ in
    record {
      room = omega (arith, looks.long, c.requires.behind.room);
      seen_ = seen_more n w rows i c.args.seen.now c.look-hit.new.seen c.look-hit.result within seen looks;
      first_ = subst (λ (found : Option ℕ). FirstIn (Clashing n w rows) i (length rows) found) (sym c.replaced-else-is_repeated.ensures) (first_more n w rows i c.args.seen.now c.look-hit.new.seen c.look-hit.result c.args.first within seen looks first);
    }
