-- What the functions of src/laws.rt ensure: lines have one first fault, an accepted certificate has none, a text stands
-- for one certificate, and a wave's own is accepted.
use Rattle.std.specs.Prelude.{◌≡◌, ℕ, List, []}
use Rattle.design_circuit.specs.declared.place.Place.{Place}
use Rattle.design_circuit.specs.declared.waveform.Written.{Written}
use Rattle.design_circuit.specs.Filling.{IsPlace}
use Rattle.wave_proved.specs.Contents.{Contents, IsFinished, IsWave, job}
use Rattle.wave_proved.specs.declared.advance.Optimistic.{Optimistic}
use Rattle.cert_writer.specs.declared.cert.Cert.{Cert as ACert}
use Rattle.cert_writer.specs.Text.{cert_text}
use Rattle.cert_writer.specs.Wrong.{IsTextOf}
use Rattle.cert_check.specs.Checked.{IsAccepted, IsChecked, IsRefusalOf}
use Rattle.cert_turns.specs.View.{ConditionView}
use Rattle.cert_writer.specs.declared.cert.Entry.{Entry}
use Rattle.cert_writer.specs.declared.cert.Form.{Form}
use Rattle.cert_check.specs.Entries.{AreConditionsFor}
use Rattle.cert_check.specs.Step.{cert_in}
use Rattle.law_along.specs.Along.{GoesAlong}
use Rattle.cert_check.specs.Walk.{IsFirstCertFault}
use Rattle.cert_check.specs.declared.refusal.CertFault.TheVariants.{Missing}
use Rattle.cert_check.specs.declared.refusal.CheckErr.{CheckErr}
use Rattle.cert_check.specs.declared.refusal.CheckErr.TheVariants.{Refused, Optimistic as Objects, Memory}

-- Two objections report the same, wherever their lines lie in memory.
pub record IsSameObjection (a b : Optimistic) : Type 0 where
  pub place : a.place ≡ b.place
  pub replayed : a.replayed ≡ b.replayed
  pub found : a.found ≡ b.found
  pub lines : a.lines.items ≡ b.lines.items

abbrev pub IsSameFault : CheckErr → CheckErr → Type 0
IsSameFault (Refused e) (Refused f) = e ≡ f
IsSameFault (Refused e) (Objects b) = ⊥
IsSameFault (Refused e) Memory = ⊥
IsSameFault (Objects a) (Refused f) = ⊥
IsSameFault (Objects a) (Objects b) = IsSameObjection a b
IsSameFault (Objects a) Memory = ⊥
IsSameFault Memory f = ⊥

-- It isn't for want of memory.
abbrev pub IsReason : CheckErr → Type 0
IsReason e = e ≡ Memory → ⊥

-- Lines have one first fault beside want of memory,
abbrev pub OneFault : Type 0
OneFault = (form : Form) (start : Contents) (entries : List Entry) (e f : CheckErr) → start.lines ≡ []
    → IsFirstCertFault form start entries e → IsFirstCertFault form start entries f → IsReason e → IsReason f
    → IsSameFault e f

-- and none where they are those of a checked certificate.
abbrev pub CheckedHasNone : Type 0
CheckedHasNone = (start : Contents) (cert : ACert) (c : Contents) (conditions : List ConditionView) (e : CheckErr)
    → start.lines ≡ [] → IsChecked start cert c conditions → IsFirstCertFault cert.form start cert.entries e
    → IsReason e → ⊥

-- A certificate that is accepted isn't refused: not for its numbers, and for no fault of its lines.
abbrev pub AcceptedHasNone : Type 0
AcceptedHasNone = (start : Contents) (cert : ACert) (waveform : List Written) (e : CheckErr) → start.lines ≡ []
    → IsAccepted start cert waveform → IsRefusalOf start cert e → IsReason e → ⊥

-- A text stands for at most one certificate.
abbrev pub TextsStandForOne : Type 0
TextsStandForOne = (text : List ℕ) (one other : ACert) → IsTextOf text one → IsTextOf text other → one ≡ other

-- The certificate of a form of a finished wave that went along lines from nothing is accepted, and yields the wave.
abbrev pub OwnAccepted : Type 0
OwnAccepted = (form : Form) (start c : Contents) (conditions : List ConditionView) → start.written ≡ []
    → start.lines ≡ [] → GoesAlong start c → IsWave c → IsFinished c → AreConditionsFor form c conditions
    → IsAccepted start (cert_in form c conditions) c.written

-- The text of such a wave, finished or not, stands for its certificate: so it is read back.
abbrev pub OwnTextStands : Type 0
OwnTextStands = (form : Form) (start c : Contents) (conditions : List ConditionView) → start.lines ≡ []
    → GoesAlong start c → IsWave c → AreConditionsFor form c conditions
    → IsTextOf (cert_text (cert_in form c conditions)) (cert_in form c conditions)

-- The place that lacks its line is one of the job, and so is the one that the history knows otherwise.
abbrev pub MissingIsPlace : Type 0
MissingIsPlace = (start : Contents) (cert : ACert) (place : Place) → IsRefusalOf start cert (Refused (Missing place))
    → IsPlace (job start) place

abbrev pub ObjectionIsPlace : Type 0
ObjectionIsPlace = (start : Contents) (cert : ACert) (objection : Optimistic)
    → IsRefusalOf start cert (Objects objection) → IsPlace (job start) objection.place
