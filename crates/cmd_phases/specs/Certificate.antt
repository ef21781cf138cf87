-- What a certificate comes to for a job.
use Rattle.std.specs.Prelude.{◌≡◌, ℕ, ◌/◌, ◌%◌, List, Result, Ok, Err, slice_index}
use Rattle.cert_check.specs.View.{ConditionView}
use Rattle.design_circuit.specs.Filling.{IsPlace}
use Rattle.design_circuit.specs.Handed.{IsReplay}
use Rattle.design_circuit.specs.History.{HistoryView}
use Rattle.design_circuit.specs.Job.{Job}
use Rattle.design_circuit.specs.declared.place.Place.{Place}
use Rattle.cert_check.specs.Checked.{IsChecked, IsRefusalOf}
use Rattle.cert_check.specs.declared.refusal.CertFault.{CertFault}
use Rattle.cert_check.specs.Entries.{AreConditionsFor}
use Rattle.cert_check.specs.declared.refusal.CertFault.TheVariants.{Header, Missing, Syntax}
use Rattle.cert_check.specs.declared.refusal.CheckErr.{CheckErr}
use Rattle.cert_check.specs.declared.refusal.CheckErr.TheVariants.{Memory, Optimistic as Objects, Refused as IsRefused}
use Rattle.cert_writer.specs.Wrong.{IsFirstWrong, IsTextOf}
use Rattle.cert_writer.specs.declared.cert.Cert.{Cert}
use Rattle.cert_writer.specs.declared.cert.Form.{Form}
use Rattle.cert_writer.specs.declared.cert.Form.TheVariants.{Lines, Turns}
use Rattle.cmd_job.specs.Compared.{job_for}
use Rattle.cmd_job.specs.Names.{net_name}
use Rattle.report_listing.specs.Conditions.{conditions_text}
use Rattle.wave_proved.specs.Contents.{Contents}
use Rattle.cmd_words.specs.declared.words.Form.{Form as FormWord}
use Rattle.cmd_words.specs.declared.words.Form.TheVariants as named
use Rattle.cmd_phases.specs.Repair.{FitsParts, beginning, objection_of}
use Rattle.cmd_phases.specs.declared.cause.Lack.{Lack}
use Rattle.cmd_phases.specs.declared.cause.Refused.{Refused}
use Rattle.cmd_phases.specs.declared.cause.Refused.TheVariants.{Certificate, Optimistic}
use Rattle.cmd_phases.specs.declared.cause.Uncertified.{Uncertified}
use Rattle.cmd_phases.specs.declared.cause.Uncertified.TheVariants.{Lacks, Line}
use Rattle.cmd_phases.specs.declared.parts.Parts.{Parts}
use Rattle.law_model.specs.declared.limits.Limits.{Limits}

-- ---- its text

-- The first wrong line of a text.
pub record IsWrong (text : List ℕ) (cause : Uncertified) : Type 0 where
  pub at : ℕ
  pub first : IsFirstWrong text at
  pub is : cause ≡ Line (Syntax at)

-- A text stands for a certificate, or has a first wrong line.
abbrev pub CertificateComes : List ℕ → Result Cert Uncertified → Type 0
CertificateComes text (Ok cert) = IsTextOf text cert
CertificateComes text (Err cause) = IsWrong text cause

-- ---- its form

-- The form that the words name.
abbrev pub form_of : FormWord → Form
form_of named.Lines = Lines
form_of named.Turns = Turns

-- It is of form 1; or it is of form 2, and its first line is refused.
abbrev pub FormComes : Cert → Result (Unit {0}) Uncertified → Type 0
FormComes cert (Ok plain) = cert.form ≡ Lines
FormComes cert (Err cause) = (cert.form ≡ Turns) × (cause ≡ Line (Header 1))

-- ---- its check

-- A place by the time of its moment, its round and the written name of its net.
abbrev pub lack_of : Parts → Place → Lack
lack_of job place = record {
  time = slice_index job.recorded.stim.times (place.step / job.recorded.stim.rounds);
  round = place.step % job.recorded.stim.rounds;
  name = net_name job.netlist.design place.net;
}

abbrev pub uncertified_by : Parts → CertFault → Uncertified
uncertified_by job (Missing place) = Lacks (lack_of job place)
uncertified_by job fault = Line fault

-- A place that lacks its line is one of the job's.
abbrev pub IsMissingAt : Job → CertFault → Type 0
IsMissingAt j (Missing place) = IsPlace j place
IsMissingAt j fault = Unit {0}

-- The cause of a check that ends early.
abbrev pub IsCauseOf : Parts → CheckErr → Refused → Type 0
IsCauseOf job (IsRefused fault) cause = cause ≡ Certificate (uncertified_by job fault)
IsCauseOf job (Objects found) cause = cause ≡ Optimistic (objection_of job.netlist job.recorded.stim found)
IsCauseOf job Memory cause = ⊥

-- A certificate is checked over the job's replay, with this wave and these conditions.
pub record IsCertified (limits : Limits) (job : Parts) (cert : Cert) (wave : Contents)
    (conditions : List ConditionView) : Type 0 where
  pub fits : FitsParts job
  pub replay : IsReplay (job_for job.netlist job.recorded) wave.history
  pub checked : IsChecked (beginning limits job.netlist job.recorded wave.history) cert wave conditions

-- What a check shows: a wave, and the lines of its conditions.
pub record CheckShows : Type 0 where
  pub wave : Contents
  pub listing : List ℕ

abbrev pub check_shows : Contents → List ConditionView → CheckShows
check_shows wave conditions = record { wave = wave; listing = conditions_text wave conditions }

-- The check of a certificate shows that.
pub record IsCheckShown (limits : Limits) (job : Parts) (cert : Cert) (shows : CheckShows) : Type 0 where
  pub conditions : List ConditionView
  pub certified : IsCertified limits job cert shows.wave conditions
  pub listing_is : shows.listing ≡ conditions_text shows.wave conditions

-- It is refused over the job's replay, for this cause.
pub record IsUncertified (limits : Limits) (job : Parts) (cert : Cert) (cause : Refused) : Type 0 where
  pub fits : FitsParts job
  pub history : HistoryView
  pub replay : IsReplay (job_for job.netlist job.recorded) history
  pub refusal : CheckErr
  pub refused : IsRefusalOf (beginning limits job.netlist job.recorded history) cert refusal
  pub is : IsCauseOf job refusal cause

-- The check comes to what the certificate shows, or to a refusal.
abbrev pub CheckComes : Limits → Parts → Cert → Result CheckShows Refused → Type 0
CheckComes limits job cert (Ok shows) = IsCheckShown limits job cert shows
CheckComes limits job cert (Err cause) = IsUncertified limits job cert cause

-- ---- the conditions of a wave

-- Those that a certificate of a form goes with are found; it comes to nothing else.
abbrev pub ConditionsCome : Form → Contents → Result (List ConditionView) ⊥ → Type 0
ConditionsCome form wave (Ok conditions) = AreConditionsFor form wave conditions
ConditionsCome form wave (Err none) = ⊥
