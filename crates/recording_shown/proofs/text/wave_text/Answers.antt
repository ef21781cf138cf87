-- The history has a place for each net at each step.
use Rattle.std.proofs.Common.{◌≡◌, ◌∙◌, ap}
use Rattle.design_circuit.specs.Row.{RowView}
use Rattle.recording_writer.specs.Rows.{MomentView}
use Rattle.recording_shown.specs.History.{shown_history}
use Rattle.recording_shown.proofs.Showing.{has_steps}
use Rattle.recording_shown.proofs.text.wave_text.Goals as goal

pub text_of_rows-requires-clause-steps : goal.text_of_rows-requires-clause-steps
text_of_rows-requires-clause-steps c =
    let history : c.first-rows.result.history ≡ shown_history c.args.wave.now =
    ap (λ (v : MomentView). v.history) c.first-rows.ensures ∙ ap (λ (v : RowView). v.history) c.in_ok-row.ensures in
    rw (c.design.ensures, c.stim-2.ensures, history)
    (has_steps c.args.wave.now c.recall.ensures.fits.fits_job)
