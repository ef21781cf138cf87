-- The line is one of the wave, and its files come in.
use Rattle.std.proofs.Common.{rules, ◌≡◌, ◌∙◌, ◌<◌, List, length, map, get_or, sym, ap, subst}
use Rattle.law_model.specs.declared.line.Line.{Line as ALine}
use Rattle.base_run.specs.Outputs.{file_of}
use Rattle.cert_export.specs.Adding.{IsLineIn}
use Rattle.cert_export.proofs.Added.{next_added}
use Rattle.cert_export.proofs.LinePlaces.{line_in}
use Rattle.cert_export.proofs.lines.put_lines.Goals as goal

pub put_line-requires-clause-line : goal.put_line-requires-clause-line
put_line-requires-clause-line c =
    let wave = c.args.wave.now in
    let line = c.index-lines-place.result in
    let i = c.lines.place in
    let same : c.lines-lines.result.now ≡ wave.lines = c.lines-lines.ensures.lines in
    let here : i < length c.lines-lines.result.now = search rules in
    let within = subst (λ (ls : List ALine). i < length ls) same here in
    subst (λ (l : ALine). IsLineIn wave l.place) (sym (c.index-lines-place.is ∙ ap (λ (ls : List ALine). get_or ls i line) same))
    (line_in wave c.recall.ensures i line within)

pub lines-preserved : goal.lines-preserved
lines-preserved c =
    let here : c.lines.place < length c.lines-lines.result.now = search rules in (
      next_added c.args.wave.now c.args.prefix.now c.lines-lines.result.now c.lines.place c.index-lines-place.result (map file_of c.args.outputs.now.items)
          (map file_of c.lines.outputs.items) (map file_of c.put_line.new.outputs.items) here c.index-lines-place.is c.lines.invariant.0 c.in_ok-put_line.ensures.files,
      c.in_ok-put_line.ensures.right,
    )
