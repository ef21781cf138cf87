-- The byte stands in the row of the step under way.
use Rattle.std.proofs.Common.{◌≡◌, ◌∙◌, ap, arith, sym}
use Rattle.design_circuit.specs.History.{WriterView}
use Rattle.design_circuit.proofs.HistoryLemmas.{put_is, same_is, writer_put}
use Rattle.design_circuit.proofs.RowLemmas.{row_long, rows_put}
use Rattle.design_circuit.proofs.writer.HistoryWriter.set.Goals as goal

pub returns-then-now-byte-clause-ok : goal.returns-then-now-byte-clause-ok
returns-then-now-byte-clause-ok c =
    sym c.self.view_is ∙ writer_put c.self.inside.rows c.self.inside.rows c.self.inside.steps c.args.self.now c.args.place record { shown = c.args.shown; kept = c.args.kept } c.self.view_is c.requires.place c.requires.step
    (same_is c.self.inside.rows c.args.place.net c.byte_of-byte.result c.args.shown c.args.kept (sym c.now.ensures ∙ c.if-now-byte.true) c.byte_of-byte.ensures)

pub returns-clause-ok : goal.returns-clause-ok
returns-clause-ok c =
    let nets : c.self.inside.rows.width ≡ c.args.self.now.history.nets = ap (λ (v : WriterView). v.history.nets) c.self.view_is in
    let net = c.requires.place.net in
    let long = row_long c.self.inside.nets c.self.inside.rows c.self.invariant ∙ sym c.self.invariant.wide in
    writer_put c.self.inside.rows c.put.new.self c.self.inside.steps c.args.self.now c.args.place record { shown = c.args.shown; kept = c.args.kept } c.self.view_is c.requires.place c.requires.step
    (rw c.in_ok-put.ensures.ok (put_is c.self.inside.rows c.args.place.net c.byte_of-byte.result c.args.shown c.args.kept long (omega (arith, nets, net)) c.byte_of-byte.ensures))

pub invariant_of-self-2 : goal.invariant_of-self-2
invariant_of-self-2 c =
    let nets : c.self.inside.rows.width ≡ c.args.self.now.history.nets = ap (λ (v : WriterView). v.history.nets) c.self.view_is in
    let net = c.requires.place.net in
    let wide = c.self.invariant.wide in
    rows_put c.self.inside.nets c.self.inside.rows c.put.new.self c.args.place.net c.byte_of-byte.result c.in_ok-put.ensures.ok (omega (arith, nets, net, wide)) (omega arith) c.self.invariant
