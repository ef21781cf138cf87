-- 64 rows more are compared.
use Rattle.std.proofs.Common.{◌≡◌, ◌∙◌, ◌*◌, ◌+◌, length, arith, subst}
use Rattle.std.proofs.lemmas.List.{get_or_default}
use Rattle.design_cell.specs.declared.row.RawRow.{RawRow}
use Rattle.design_cell.specs.Row.{nowhere, row_at}
use Rattle.design_cell.specs.Index.{IsFirstBelow}
use Rattle.design_cell.specs.Meeting.{is_conflict}
use Rattle.design_cell.specs.Probe.{IsProbe}
use Rattle.design_cell.proofs.Firsts.{below_less}
use Rattle.design_cell.proofs.Pairs.{conflict_nowhere}
use Rattle.design_cell.proofs.conflict.conflicting.Goals as goal

pub loop-k-init : goal.loop-k-init
loop-k-init c = λ i below. absurd (omega arith)

pub loop-k-preserved : goal.loop-k-preserved
loop-k-preserved c =
    let n = c.args.inputs in
    let rows = c.args.rows.now in
    let row = row_at c.args.rows.now c.args.row in
    let k = c.loop-k.k in
    let next : 64 * c.loop-k.k + 64 ≡ 64 * (c.loop-k.k + 1) = omega arith in
    let row_is = c.index-rows-row.is ∙ get_or_default rows c.args.row c.index-rows-row.result nowhere c.requires.row in
    let probe = subst (λ (r : RawRow). IsProbe n r c.of-probe.result) row_is c.of-probe.ensures in
    subst (λ end. IsFirstBelow (is_conflict n row) rows end c.first_of-found.result) next (c.first_of-found.ensures.first rows (is_conflict n row) (conflict_nowhere n row) c.loop-k.invariant (c.conflicts.ensures n row rows (64 * k) probe c.block_of.ensures))

pub returns : goal.returns
returns c = below_less (is_conflict c.args.inputs (row_at c.args.rows.now c.args.row)) c.args.rows.now (64 * c.loop-k.k) (length c.args.rows.now) c.loop-k.found (omega arith) c.loop-k.invariant
