-- The line that is found is the one of its number.
use Rattle.std.proofs.Common.{◌<◌, Some, List, length, sym, ap, ◌∙◌, arith, subst, slice_index_or}
use Rattle.law_model.specs.declared.line.Line.{Line as ALine}
use Rattle.decide_repair.proofs.WaveLines.{body_found}
use Rattle.decide_repair.proofs.lines.body_of.Goals as goal

pub returns-then-number_at-number : goal.returns-then-number_at-number
returns-then-number_at-number c =
    let found = c.number_at.ensures in
    let same = c.if-number_at-number.true in
    body_found c.args.wave.now c.lines_before-first.result c.index-lines-first.result c.args.number
    c.recall.ensures
    (subst (λ (ls : List ALine). c.lines_before-first.result < length ls) c.lines-lines.ensures.lines
    c.if-first-lines.true) (omega (arith, found, same))
    ∙ ap (λ (ls : List ALine). Some (slice_index_or ls c.lines_before-first.result c.index-lines-first.result).body)
    (sym c.lines-lines.ensures.lines)
