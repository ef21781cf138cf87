-- A certificate that is checked, and its upgrade: what is promised of them.
use Rattle.std.proofs.Common.{◌≡◌, ◌∙◌, ℕ, List, ◌++◌, refl, sym, ap, subst}
use Rattle.law_along.specs.Along.{GoesAlong}
use Rattle.cmd_phases.proofs.LawsOfCert.{begun_same, checked_accepted, own_accepted, own_text_stands}
use Rattle.cmd_phases.specs.OfCert.{IsAccepted, AreConditionsFor, entries_of, lines_in, cert_in}
use Rattle.cert_writer.specs.Text.{cert_text}
use Rattle.cert_writer.specs.Wrong.{IsTextOf}
use Rattle.cert_writer.specs.declared.cert.Cert.{Cert}
use Rattle.cert_writer.specs.declared.cert.Form.TheVariants.{Lines, Turns}
use Rattle.cmd_phases.specs.OfCond.{ConditionView}
use Rattle.replay_forces.specs.ForcesOf.{forces_of}
use Rattle.replay_forces.proofs.Showing.{forces_exist}
use Rattle.cmd_job.specs.Compared.{job_for}
use Rattle.cmd_job.specs.declared.netlist.Netlist.{Netlist as ANetlist}
use Rattle.cmd_job.specs.declared.recorded.Recorded.{Recorded}
use Rattle.cmd_phases.specs.OfListing.{conditions_text}
use Rattle.law_model.specs.declared.line.Line.{Line as ALine}
use Rattle.law_model.specs.declared.limits.Limits.{Limits}
use Rattle.report_bits.specs.Report.{report_text}
use Rattle.report_bits.specs.declared.lines.ReportLines.{ReportLines}
use Rattle.wave_proved.specs.Contents.{Contents, IsFinished, IsWave}
use Rattle.cmd_program.specs.Check.{CheckValues, Checks}
use Rattle.cmd_program.specs.Upgrade.{UpgradeValues, Upgrades}
use Rattle.cmd_phases.specs.Certificate.{IsCertified}
use Rattle.cmd_phases.specs.Phases.{parts}
use Rattle.cmd_phases.specs.Repair.{beginning}
use Rattle.cmd_phases.specs.Texts.{IsAgreed, IsJob}
use Rattle.cmd_phases.proofs.Jobs.{fits_job}
use Rattle.cmd_program.specs.Conditions.{cert_by, needs_lines}
use Rattle.cmd_program.specs.Headline.{RepairedJob, value_in, wave_of}
use Rattle.cmd_words.specs.Words.{JobValues}
use Rattle.cmd_program.specs.Repair.{forces_in, whole_report}
use Rattle.cmd_program.proofs.Conditioned.{conditions_of, have_conditions, same_cert, same_entries, same_lines, same_printed}
use Rattle.cmd_program.proofs.Needing.{each_needs}

module _ (limits : Limits) (n : ANetlist) (r : Recorded) (cert : Cert) (wave : Contents) (conditions : List ConditionView)
    (certified : IsCertified limits (parts n r) cert wave conditions) where
  abbrev TheStart : Contents
  TheStart = beginning limits n r wave.history

  abbrev TheWave : Contents
  TheWave = wave_of n r wave.history limits wave.written (lines_in cert.entries)

  wave_same : wave ≡ TheWave
  wave_same =
      ap (λ (c : Contents). record c { written = wave.written; lines = wave.lines }) (begun_same certified.checked.goes)
      ∙ ap (λ (ls : List ALine). wave_of n r wave.history limits wave.written ls) certified.checked.lines

  sound : IsWave TheWave
  sound = subst IsWave wave_same certified.checked.wave

  whole : IsFinished TheWave
  whole = subst IsFinished wave_same certified.checked.finished

  goes : GoesAlong TheStart TheWave
  goes = subst (GoesAlong TheStart) wave_same certified.checked.goes

  conditions_there : AreConditionsFor cert.form TheWave conditions
  conditions_there = subst (λ (c : Contents). AreConditionsFor cert.form c conditions) wave_same certified.checked.conditions_are

-- The job is repaired by the lines of the certificate.
abbrev certified_job : (w : JobValues) (limits : Limits) (n : ANetlist) (r : Recorded) (cert : Cert) (wave : Contents) (conditions : List ConditionView)
    → IsCertified limits (parts n r) cert wave conditions → (netlist recording : List ℕ) → IsJob w netlist recording n r → IsAgreed (parts n r)
    → RepairedJob w limits netlist recording
certified_job w limits n r cert wave conditions certified netlist recording job faultless = record {
  n = n;
  r = r;
  is = job;
  replay = wave.history;
  agrees = record { replay = certified.replay; faultless = faultless };
  waveform = wave.written;
  lines = lines_in cert.entries;
  whole = whole limits n r cert wave conditions certified;
  holds = (sound limits n r cert wave conditions certified).holds;
}

-- The report with the lines of its conditions.
printed_there : (c : Contents) (r : Recorded) (report : ReportLines) (views : List ConditionView)
    → whole_report c r.binding report views ≡ report_text c r.binding report (forces_in c) ++ needs_lines c (conditions_of views)
printed_there c r report views = ap (λ (text : List ℕ). report_text c r.binding report (forces_in c) ++ text) (same_printed c views)

-- What a check promises.
pub checks : (w : CheckValues) (n : ANetlist) (r : Recorded) (cert : Cert) (wave : Contents) (conditions : List ConditionView)
    → IsCertified w.limits (parts n r) cert wave conditions → (netlist recording text : List ℕ) → IsJob w.job netlist recording n r
    → IsAgreed (parts n r) → IsTextOf text cert
    → Checks w netlist recording text (report_text wave r.binding w.lines (forces_in wave) ++ conditions_text wave conditions)
checks w n r cert wave conditions certified netlist recording text job faultless stands =
    let there = conditions_there w.limits n r cert wave conditions certified in
    record {
      job = certified_job w.job w.limits n r cert wave conditions certified netlist recording job faultless;
      fits = certified.fits;
      certificate = cert;
      stands = stands;
      lines_are = refl;
      accepted = checked_accepted (beginning w.limits n r wave.history) cert wave conditions refl refl certified.checked;
      conditions = conditions_of conditions;
      conditions_are = have_conditions cert.form (TheWave w.limits n r cert wave conditions certified) conditions there;
      stated = certified.checked.stated ∙ ap (λ (ls : List ALine). entries_of ls conditions) certified.checked.lines
          ∙ same_entries (lines_in cert.entries) conditions;
      events = forces_of (job_for n r) (value_in wave.written);
      are = forces_exist (job_for n r) (value_in wave.written) (fits_job n r certified.fits);
      report_is = ap (λ (c : Contents). report_text c r.binding w.lines (forces_in c) ++ conditions_text c conditions)
          (wave_same w.limits n r cert wave conditions certified)
          ∙ printed_there (TheWave w.limits n r cert wave conditions certified) r w.lines conditions;
      needs = each_needs cert.form (TheWave w.limits n r cert wave conditions certified) conditions there;
    }

-- And an upgrade, whichever turns were found.
upgrades_there : (w : UpgradeValues) (n : ANetlist) (r : Recorded) (cert : Cert) (wave : Contents) (conditions : List ConditionView)
    (certified : IsCertified w.limits (parts n r) cert wave conditions) (found : List ConditionView)
    → AreConditionsFor Turns (TheWave w.limits n r cert wave conditions certified) found → (netlist recording text : List ℕ)
    → IsJob w.job netlist recording n r → IsAgreed (parts n r) → IsTextOf text cert → cert.form ≡ Lines
    → Upgrades w netlist recording text (cert_text (cert_in Turns (TheWave w.limits n r cert wave conditions certified) found))
    (whole_report (TheWave w.limits n r cert wave conditions certified) r.binding w.lines found)
upgrades_there w n r cert wave conditions certified found are netlist recording text job faultless stands form =
    let start = beginning w.limits n r wave.history in
    let there = TheWave w.limits n r cert wave conditions certified in
    let along = goes w.limits n r cert wave conditions certified in
    let is_wave = sound w.limits n r cert wave conditions certified in
    let finished = whole w.limits n r cert wave conditions certified in
    let same = same_cert Turns there found in
    record {
      job = certified_job w.job w.limits n r cert wave conditions certified netlist recording job faultless;
      fits = certified.fits;
      certificate = cert;
      stands = stands;
      lines_are = refl;
      form_is = form;
      accepted = checked_accepted start cert wave conditions refl refl certified.checked;
      conditions = conditions_of found;
      conditions_are = have_conditions Turns there found are;
      upgraded = cert_by Turns there (conditions_of found);
      upgrade = record {
        is = refl;
        stands = subst (IsTextOf (cert_text (cert_in Turns there found))) same (own_text_stands Turns start there found refl along is_wave are);
        accepted = subst (λ (upgraded : Cert). IsAccepted start upgraded wave.written) same (own_accepted Turns start there found refl refl along is_wave finished are);
        lines_are = same_lines Turns there found;
      };
      events = forces_of (job_for n r) (value_in wave.written);
      are = forces_exist (job_for n r) (value_in wave.written) (fits_job n r certified.fits);
      report_is = printed_there there r w.lines found;
      needs = each_needs Turns there found are;
    }

pub upgrades : (w : UpgradeValues) (n : ANetlist) (r : Recorded) (cert : Cert) (wave : Contents) (conditions : List ConditionView)
    → IsCertified w.limits (parts n r) cert wave conditions → (found : List ConditionView) → AreConditionsFor Turns wave found
    → (netlist recording text : List ℕ) → IsJob w.job netlist recording n r → IsAgreed (parts n r) → IsTextOf text cert → cert.form ≡ Lines
    → Upgrades w netlist recording text (cert_text (cert_in Turns wave found)) (whole_report wave r.binding w.lines found)
upgrades w n r cert wave conditions certified found are netlist recording text job faultless stands form =
    let same = wave_same w.limits n r cert wave conditions certified in
    subst (λ (c : Contents). Upgrades w netlist recording text (cert_text (cert_in Turns c found)) (whole_report c r.binding w.lines found)) (sym same)
    (upgrades_there w n r cert wave conditions certified found (subst (λ (c : Contents). AreConditionsFor Turns c found) same are)
    netlist recording text job faultless stands form)
