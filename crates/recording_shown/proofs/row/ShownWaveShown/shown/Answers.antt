-- A net shows what is written at its position.
use Rattle.std.proofs.Common.{◌≡◌, ◌∙◌, ◌+◌, ◌*◌, ℕ, ap, subst, sym}
use Rattle.design_circuit.specs.History.{HasPlace, held_in, net_place}
use Rattle.design_circuit.specs.Job.{Job}
use Rattle.design_circuit.specs.Order.{position_of}
use Rattle.design_circuit.specs.Row.{RowView}
use Rattle.design_circuit.specs.Waveform.{written_at}
use Rattle.design_circuit.specs.declared.waveform.Written.{Written}
use Rattle.wave_proved.specs.Contents.{job}
use Rattle.wave_proved.specs.Row.{IsWrittenAt}
use Rattle.recording_shown.proofs.Standing.{value_there, written_there}
use Rattle.recording_shown.proofs.row.ShownWaveShown.shown.Goals as goal

pub written-requires : goal.written-requires
written-requires c =
    let inside = c.self.inside in
    let wave = inside.wave.now in
    let net = c.args.net in
    let has = subst (λ (v : RowView). HasPlace v.history (net_place v.step net)) (sym c.self.view_is) c.requires in
    let position : c.position-position.result ≡ position_of (job wave).order net =
    c.position-position.ensures.place ∙ ap (λ (j : Job). position_of j.order net) c.circuit.ensures.job in
    let fits = c.circuit.ensures.wave.fits.fits_job in
    subst (λ (p : ℕ). IsWrittenAt (job inside.row.wave) inside.row.wave.written inside.row.step p) (sym position)
    (written_there wave inside.step inside.row c.self.invariant fits net has)

pub returns : goal.returns
returns c =
    let inside = c.self.inside in
    let wave = inside.wave.now in
    let net = c.args.net in
    let has = subst (λ (v : RowView). HasPlace v.history (net_place v.step net)) (sym c.self.view_is) c.requires in
    let position : c.position-position.result ≡ position_of (job wave).order net =
    c.position-position.ensures.place ∙ ap (λ (j : Job). position_of j.order net) c.circuit.ensures.job in
    let fits = c.circuit.ensures.wave.fits.fits_job in
    let start = inside.row.step * (job inside.row.wave).width in
    ap (λ (v : Written). v.value) c.written.ensures
    ∙ ap (λ (p : ℕ). (written_at inside.row.wave.written (start + p)).value) position
    ∙ value_there wave inside.step inside.row c.self.invariant fits net has
    ∙ ap (λ (v : RowView). (held_in v.history (net_place v.step net)).shown) c.self.view_is
