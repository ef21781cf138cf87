-- The rows have what the wave and its history have at the step.
use Rattle.std.proofs.Common.{◌≡◌, ◌+◌, ◌*◌, ◌∙◌, length, ap, arith, refl}
use Rattle.design_circuit.specs.Job.{Job}
use Rattle.design_circuit.specs.Order.{position_of}
use Rattle.design_circuit.specs.Waveform.{written_at}
use Rattle.report_bits.proofs.Steps.{row_has, row_place, row_shown, row_written}
use Rattle.report_bits.proofs.rows.told_in.Goals as goal

pub position-position-requires : goal.position-position-requires
position-position-requires c =
    let net = c.requires.net in
    let all = c.circuit.result.fits.fits_job.all in
    let wide = ap (λ (j : Job). j.width) c.circuit.ensures.job in
    omega (arith, net, all, wide)

pub shown-requires : goal.shown-requires
shown-requires c =
    row_place c.args.wave.now c.args.rows.now.replayed c.args.step c.requires.rows.are.history c.requires.rows.replayed
    c.args.net (c.requires.there.history c.args.net c.requires.net)

pub written-requires : goal.written-requires
written-requires c =
    let low = c.position-position.ensures.within in
    let all = c.circuit.result.fits.fits_job.all in
    let wide = ap (λ (j : Job). j.width) c.circuit.ensures.job in
    row_written c.args.wave.now c.args.rows.now.wave c.args.step c.requires.rows.are.wave c.requires.rows.written
    c.position-position.result c.requires.there.whole (omega (arith, low, all, wide))

pub returns : goal.returns
returns c =
    let wave = c.args.wave.now in
    let shown = row_shown wave c.args.rows.now.replayed c.args.step c.requires.rows.are.history
    c.requires.rows.replayed c.args.net c.shown.result c.shown.ensures in
    let position : c.position-position.result ≡ position_of wave.order c.args.net =
    c.position-position.ensures.place ∙ ap (λ (j : Job). position_of j.order c.args.net) c.circuit.ensures.job in
    let has = row_has wave c.args.rows.now.wave c.args.step c.requires.rows.are.wave c.requires.rows.written
    c.position-position.result c.written.result c.written.ensures
    ∙ ap (λ n. written_at wave.written (c.args.step * length wave.design.nets + n)) position in
    rw (shown, has) refl
