-- The first line that doesn't stand before the number is that of its place, if there is one.
use Rattle.std.proofs.Common.{[], ◌∷◌, ◌∙◌, sym, ap, subst}
use Rattle.design_circuit.specs.Circuit.{job_in}
use Rattle.design_circuit.specs.Filling.{IsPlace}
use Rattle.law_model.specs.Stated.{body_at}
use Rattle.law_model.specs.declared.line.Line.{Line as ALine}
use Rattle.wave_proved.proofs.FoundLines.{body_behind, body_first, place_here}
use Rattle.wave_proved.proofs.stated.body_of.Goals as goal

pub body_if-requires : goal.body_if-requires
body_if-requires c = record {
  place =
      let j = job_in c.args.circuit.now in
      let line = c.index-lines-first.result in
      subst (λ (l : ALine). IsPlace j l.place) (sym c.index-lines-first.is)
      (place_here j c.args.lines.now c.lines_before-first.result line c.if-first-lines.true c.requires.order.places);
}

pub returns-then-first-lines : goal.returns-then-first-lines
returns-then-first-lines c =
    let j = job_in c.args.circuit.now in
    let line = c.index-lines-first.result in
    let found = c.lines_before-first.ensures in
    c.body_if.ensures ∙ ap (λ (l : ALine). body_at j (l ∷ []) c.args.number) c.index-lines-first.is
    ∙ sym (body_first j c.args.lines.now c.lines_before-first.result line c.args.number c.requires.order
    c.if-first-lines.true found.before found.behind)

pub returns-else-first-lines : goal.returns-else-first-lines
returns-else-first-lines c = sym (body_behind (job_in c.args.circuit.now) c.args.lines.now c.lines_before-first.result
    c.args.number c.if-first-lines.false c.lines_before-first.ensures.before)
