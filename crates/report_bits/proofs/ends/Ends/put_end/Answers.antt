-- The rows have what stands and what is shown at the position.
use Rattle.std.proofs.Common.{◌≡◌, ◌+◌, ◌*◌, ◌∙◌, length, sym, ap, set}
use Rattle.std.specs.Prelude.{slice_index}
use Rattle.design_cell.specs.declared.value.Value.{Value}
use Rattle.design_circuit.specs.History.{held_in, net_place}
use Rattle.design_circuit.specs.Job.{Job}
use Rattle.design_circuit.specs.Waveform.{written_at}
use Rattle.design_circuit.specs.declared.place.Place.{Place}
use Rattle.design_circuit.specs.declared.waveform.Mark.{Mark}
use Rattle.design_circuit.specs.declared.waveform.Written.{Written}
use Rattle.report_bits.specs.Ends.{end_of}
use Rattle.report_bits.specs.declared.ends.End.{End}
use Rattle.report_bits.proofs.Steps.{place_in_step, row_has, row_shown}
use Rattle.wave_proved.specs.Contents.{job}
use Rattle.report_bits.proofs.ends.Ends.put_end.Goals as goal

pub returns : goal.returns
returns c =
    let wave = c.args.wave.now in
    let step = c.args.step in
    let position = c.args.position in
    let net : c.net-net.result ≡ slice_index wave.order position =
    c.net-net.ensures ∙ ap (λ (j : Job). slice_index j.order position) c.circuit.ensures.job in
    let mark = ap (λ (w : Written). w.mark)
    (row_has wave c.args.rows.now.wave step c.requires.rows.are.wave c.requires.rows.written position c.written.result
    c.written.ensures) in
    let shown = row_shown wave c.args.rows.now.replayed step c.requires.rows.are.history c.requires.rows.replayed
    c.net-net.result c.shown.result c.shown.ensures
    ∙ ap (λ (p : Place). (held_in wave.history p).shown)
    (ap (net_place step) net ∙ sym (place_in_step (job wave) step position c.requires.position)) in
    c.put.ensures
    ∙ ap (λ (e : End). set c.args.self.now.ends.items position e)
    (c.end_of-end.ensures ∙ ap (λ (m : Mark). end_of m c.shown.result) mark
    ∙ ap (λ (v : Value). end_of (written_at wave.written (step * length wave.design.nets + position)).mark v) shown)
