-- A certificate that is checked is accepted, and so is that of a finished wave that went along lines.
use Rattle.std.proofs.Common.{◌≡◌, ℕ, ◌<◌, Some, List, [], length, refl, sym, subst}
use Rattle.std.specs.Prelude.{IfOk, Result, Ok, Err}
use Rattle.design_circuit.specs.Fits.{Fits}
use Rattle.law_model.proofs.YieldedSound.{sound_honest}
use Rattle.law_model.specs.Stated.{body_at}
use Rattle.law_model.specs.Yields.{Yields}
use Rattle.law_model.specs.declared.line.Body.{Body}
use Rattle.law_model.specs.declared.line.Line.{Line as ALine}
use Rattle.wave_proved.specs.Contents.{Contents, job, shown_in}
use Rattle.law_along.proofs.Fitted.{along_job, logs_along_fit}
use Rattle.law_along.specs.Along.{BodyFitsAt, LogsFit}
use Rattle.cert_turns.specs.View.{ConditionView}
use Rattle.cert_writer.specs.declared.cert.Cert.{Cert as ACert}
use Rattle.cert_check.specs.Checked.{HasNumbers, IsAccepted, IsChecked}
use Rattle.cert_check.specs.Entries.{lines_in}
use Rattle.cert_check.specs.Laws.{OwnAccepted}
use Rattle.cert_check.specs.Step.{cert_in}
use Rattle.cert_check.specs.declared.check.Checked.{Checked}
use Rattle.cert_check.specs.declared.refusal.CheckErr.{CheckErr}
use Rattle.cert_check.proofs.Faultless.{begun_same}
use Rattle.cert_check.proofs.OwnEntries.{own_lines, own_turned}

-- A certificate that is checked is accepted.
pub checked_accepted : (start : Contents) (cert : ACert) (c : Contents) (conditions : List ConditionView)
    → start.written ≡ []
    → start.lines ≡ [] → IsChecked start cert c conditions → IsAccepted start cert c.written
checked_accepted start cert c conditions written lines checked =
    let j = job c in
    let same = begun_same checked.goes in
    let fits : Fits (job start) = subst Fits (along_job checked.goes) checked.wave.fits.fits_job in
    let fitted : LogsFit c = logs_along_fit start c checked.goes fits written lines in
    let there : IsAccepted (record c { written = start.written; lines = start.lines }) cert c.written = record {
      numbers = subst (λ (d : Contents). HasNumbers d cert.head) (sym same) checked.numbers;
      long = checked.finished;
      yields = subst (λ (ls : List ALine). Yields j c.limits (shown_in c) c.written ls) checked.lines
          checked.wave.holds.yields;
      honest = sound_honest j c.limits (shown_in c) c.written c.lines checked.wave.holds.sound;
      logs = subst (λ (ls : List ALine). (place : ℕ) (body : Body) → place < length c.written
          → body_at j ls place ≡ Some body
          → BodyFitsAt c c.written place body) checked.lines fitted;
      turned = checked.turned;
    } in
    subst (λ (d : Contents). IsAccepted d cert c.written) same there

pub accepted_all : (start : Contents) (cert : ACert) (result : Result Checked CheckErr) → start.written ≡ []
    → start.lines ≡ []
    → IfOk result (λ checked. IsChecked start cert checked.wave checked.conditions)
    → IfOk result (λ checked. IsAccepted start cert checked.wave.written)
accepted_all start cert (Ok found) written lines checked =
    checked_accepted start cert found.wave found.conditions written lines checked
accepted_all start cert (Err e) written lines checked = tt

-- So is that of a finished wave that went along lines.
pub own_accepted : OwnAccepted
own_accepted form start c conditions written lines goes wave finished are =
    let same = begun_same goes in
    let fits : Fits (job start) = subst Fits (along_job goes) wave.fits.fits_job in
    let own : c.lines ≡ lines_in (cert_in form c conditions).entries = sym (own_lines c.lines conditions) in
    let there : IsAccepted (record c { written = start.written; lines = start.lines })
    (cert_in form c conditions) c.written = record {
      numbers = record { rounds = refl; log_length = refl; moments = refl; nets = refl };
      long = finished;
      yields = subst (λ (ls : List ALine). Yields (job c) c.limits (shown_in c) c.written ls) own wave.holds.yields;
      honest = sound_honest (job c) c.limits (shown_in c) c.written c.lines wave.holds.sound;
      logs = subst (λ (ls : List ALine). (place : ℕ) (body : Body) → place < length c.written
          → body_at (job c) ls place ≡ Some body
          → BodyFitsAt c c.written place body) own (logs_along_fit start c goes fits written lines);
      turned = own_turned form c conditions are;
    } in
    subst (λ (d : Contents). IsAccepted d (cert_in form c conditions) c.written) same there
