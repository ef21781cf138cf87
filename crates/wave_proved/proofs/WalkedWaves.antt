-- Waves beside which a walk knows what is due ahead.
use Rattle.std.proofs.Common.{◌≡◌, List, [], sym, subst}
use Rattle.design_circuit.specs.Parts.{PartsFit}
use Rattle.design_circuit.specs.Handed.{IsHandedIn}
use Rattle.design_circuit.specs.Job.{job_of}
use Rattle.design_circuit.specs.declared.waveform.Written.{Written}
use Rattle.law_model.specs.Growth.{Holds}
use Rattle.law_model.proofs.WaveInvariant.{nothing_holds}
use Rattle.design_circuit.specs.History.{HistoryView}
use Rattle.law_model.specs.declared.line.Line.{Line as ALine}
use Rattle.law_model.specs.declared.limits.Limits.{Limits}
use Rattle.wave_proved.specs.Contents.{Contents, AreLimits, IsWave, IsWaveAt, contents_of, job, shown_in}
use Rattle.wave_due.specs.OfWaveBytes.{WaveformView}
use Rattle.wave_due.specs.Walk.{IsWalkOf}
use Rattle.wave_due.specs.declared.walk.Walk.{Walk}

-- What was written makes a wave again.
pub wave_pushed : (written new : WaveformView) (old after : Walk) (limits now : Limits) (lines kept : List ALine)
    → new ≡ written → after.replayed.history ≡ old.replayed.history → now ≡ limits → kept ≡ lines
    → IsWave (contents_of written old.replayed.history limits lines) → IsWalkOf new after
    → IsWaveAt (contents_of new after.replayed.history now kept) after
wave_pushed written new old after limits now lines kept new_is history_is limits_are lines_is wave walk = record {
  wave = subst (λ (w : WaveformView). IsWave (contents_of w after.replayed.history now kept)) (sym new_is)
      (subst (λ (h : HistoryView). IsWave (contents_of written h now kept)) (sym history_is)
      (subst (λ (n : Limits). IsWave (contents_of written old.replayed.history n kept)) (sym limits_are)
      (subst (λ (ls : List ALine). IsWave (contents_of written old.replayed.history limits ls)) (sym lines_is) wave)));
  walk = walk;
}

-- A wave of which nothing is written.
nothing_wave : (start : Contents) → PartsFit start.design start.order start.stim
    → IsHandedIn (job start) start.history → AreLimits start.limits → start.written ≡ [] → start.lines ≡ [] → IsWave start
nothing_wave start fits handed limited nothing none = record {
  fits = fits;
  few = fits.fits_job.few_places;
  handed = handed;
  limited = limited;
  holds = subst (λ (ws : List Written). Holds (job start) start.limits (shown_in start) ws start.lines) (sym nothing)
      (subst (λ (ls : List ALine). Holds (job start) start.limits (shown_in start) [] ls) (sym none)
      (nothing_holds (job start) start.limits (shown_in start)));
}

pub wave_started : (waveform fresh : WaveformView) (walk : Walk) (history : HistoryView) (limits : Limits)
    (lines : List ALine) → waveform ≡ fresh → fresh.written ≡ [] → walk.replayed.history ≡ history → lines ≡ []
    → PartsFit fresh.design fresh.order fresh.stim
    → IsHandedIn (job_of fresh.design fresh.order fresh.stim) history → AreLimits limits → IsWalkOf fresh walk
    → IsWaveAt (contents_of waveform walk.replayed.history limits lines) walk
wave_started waveform fresh walk history limits lines waveform_is nothing history_is none fits handed limited known =
    subst (λ (w : WaveformView). IsWaveAt (contents_of w walk.replayed.history limits lines) walk) (sym waveform_is)
    (record {
      wave = subst (λ (h : HistoryView). IsWave (contents_of fresh h limits lines)) (sym history_is)
          (nothing_wave (contents_of fresh history limits lines) fits handed limited nothing none);
      walk = known;
    })
