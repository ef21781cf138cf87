-- The row before the rows that were swept.
use Rattle.std.proofs.Common.{◌≡◌, ◌-◌, ◌+◌, ◌*◌, ◌<◌, ℕ, length, sym, arith, subst, slice_index}
use Rattle.design_cell.specs.Digits.{word_count}
use Rattle.design_cell.specs.Seen.{IsSeen, IsSwept}
use Rattle.design_cell.proofs.Lookups.{seen_none}
use Rattle.design_cell.proofs.sweep.Sweep.first.Goals as goal

pub loop-back-init : goal.loop-back-init
loop-back-init c =
    let rows = c.args.rows.now in
    let all : length c.args.rows.now ≡ length c.args.rows.now - 0 = omega arith in
    let clear : (p : ℕ) → p < 3 * word_count c.args.inputs → slice_index c.clear.new.seen p ≡ 0 = λ p h. c.clear.ensures.clear p (subst (λ n. p < 3 * n) (sym c.word_count.ensures.count) h) in
    record {
      room = omega arith;
      seen_ = subst (λ k. IsSeen c.args.inputs c.args.self rows k c.clear.new.seen) all (seen_none c.args.inputs c.args.self rows c.clear.new.seen clear);
      first_ = λ i j from after below k. absurd (omega arith);
    }

pub step-first-requires-clause-behind : goal.step-first-requires-clause-behind
step-first-requires-clause-behind c =
    let was : length c.args.rows.now - c.loop-back.back ≡ length c.args.rows.now - 1 - c.loop-back.back + 1 = omega arith in
    subst (λ k. IsSwept c.args.inputs c.args.self c.args.rows.now k c.loop-back.seen c.loop-back.first) was c.loop-back.invariant

pub loop-back-preserved : goal.loop-back-preserved
loop-back-preserved c =
    let is : length c.args.rows.now - 1 - c.loop-back.back ≡ length c.args.rows.now - (c.loop-back.back + 1) = omega arith in
    subst (λ k. IsSwept c.args.inputs c.args.self c.args.rows.now k c.step-first.new.seen c.step-first.result) is c.step-first.ensures

pub returns : goal.returns
returns c =
    let start : length c.args.rows.now - c.loop-back.back ≡ 0 = omega arith in
    let swept = subst (λ k. IsSwept c.args.inputs c.args.self c.args.rows.now k c.loop-back.seen c.loop-back.first) start c.loop-back.invariant in
    record { room = swept.room; first = swept.first_ }
