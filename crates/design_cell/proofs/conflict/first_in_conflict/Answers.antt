-- A sweep more.
use Rattle.std.proofs.Common.{◌≡◌, ◌+◌, ℕ, length, sym, arith, subst, Option}
use Rattle.design_cell.specs.declared.sweep.Sweep.{Sweep}
use Rattle.design_cell.specs.Row.{row_at}
use Rattle.design_cell.specs.Sweep.{Differ, FirstIn, Clash, sweep_count}
use Rattle.design_cell.proofs.Clashes.{sweep_more}
use Rattle.design_cell.proofs.conflict.first_in_conflict.Goals as goal

pub loop-number-init : goal.loop-number-init
loop-number-init c = record { room = omega arith; first_ = λ i j from after below d. absurd (omega (arith, d.1)) }

pub loop-number-preserved : goal.loop-number-preserved
loop-number-preserved c =
    let n = c.args.inputs in
    let rows = c.args.rows.now in
    let number = c.loop-number.number in
    let found = subst (λ (w : Sweep). FirstIn (λ i j. Clash n w (row_at rows i) (row_at rows j)) 0 (length rows) c.first.result) c.of_number.ensures c.first.ensures.first in
    record {
      room = omega (arith, c.first.ensures.room);
      first_ = subst (λ (first : Option ℕ). FirstIn (Differ n rows (number + 1)) 0 (length rows) first) (sym c.earlier_of-first.ensures) (sweep_more n rows number c.loop-number.first c.first.result c.loop-number.invariant.first_ found);
    }

pub returns : goal.returns
returns c =
    let end : c.loop-number.number ≡ sweep_count c.args.sequential c.args.inputs = omega arith in
    subst (λ t. FirstIn (Differ c.args.inputs c.args.rows.now t) 0 (length c.args.rows.now) c.loop-number.first) end c.loop-number.invariant.first_
