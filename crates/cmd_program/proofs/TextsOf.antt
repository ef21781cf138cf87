-- The texts of a finished wave of a job.
use Rattle.std.proofs.Common.{◌≡◌, ◌∙◌, ℕ, List, [], ◌∷◌, ◌++◌, Result, Ok, Err, IfOk, ap, refl, subst, sym, arith}
use Rattle.replay_code.specs.Steps.{HasEvents}
use Rattle.replay_code.proofs.Writing.{can_be_written}
use Rattle.design_circuit.specs.Force.{AreEvents, forced_by}
use Rattle.design_circuit.specs.Job.{Job}
use Rattle.design_circuit.specs.declared.force.Event.{Event}
use Rattle.replay_forces.specs.ForcesOf.{AreForcesOf}
use Rattle.replay_forces.specs.Waves.{values_of}
use Rattle.cmd_job.specs.Compared.{job_for}
use Rattle.cmd_job.specs.declared.netlist.Netlist.{Netlist as ANetlist}
use Rattle.cmd_job.specs.declared.recorded.Recorded.{Recorded}
use Rattle.base_lists.specs.declared.memory.Memory.{Memory}
use Rattle.cmd_phases.specs.OfCert.{AreConditionsFor, cert_in}
use Rattle.cert_writer.specs.Text.{cert_text}
use Rattle.cert_writer.specs.declared.cert.Form.{Form}
use Rattle.cert_writer.specs.declared.cert.Form.TheVariants.{Turns}
use Rattle.cmd_phases.specs.OfCond.{ConditionView}
use Rattle.cmd_phases.specs.OfListing.{conditions_text}
use Rattle.replay_code.specs.Written.{code_text}
use Rattle.design_circuit.specs.History.{HistoryView}
use Rattle.recording_writer.specs.Text.{vcd_text, HasSteps}
use Rattle.report_bits.specs.Report.{head_text, report_text}
use Rattle.base_run.specs.Phases.{Answer}
use Rattle.base_run.specs.Prepared.{answer_of}
use Rattle.base_run.specs.declared.ready.Ready.{Ready}
use Rattle.wave_proved.specs.Contents.{Contents, job}
use Rattle.wave_proved.specs.Shown.{ShowsWave}
use Rattle.cmd_program.specs.Make.{MakeValues, made_netlist, make_answer, make_with}
use Rattle.cmd_program.specs.Repair.{RepairValues, HasTexts, answer_with, forces_in, whole_report}
use Rattle.cmd_program.specs.Upgrade.{UpgradeValues, upgrade_answer}
use Rattle.cmd_program.specs.Check.{CheckValues, check_answer}
use Rattle.cmd_phases.specs.Certificate.{check_shows, form_of}
use Rattle.cmd_phases.specs.Phases.{scope_of}
use Rattle.cmd_phases.specs.declared.parts.Parts.{Parts}
use Rattle.cmd_phases.specs.Repair.{FitsJob, IsWaveOf}
use Rattle.cmd_phases.proofs.Jobs.{fits_job}
use Rattle.replay_forces.proofs.Forced.{are_events}
use Rattle.design_circuit.specs.Handed.{HasPlaces}

-- A wave of a job has the job's circuit.
pub job_same : (n : ANetlist) (r : Recorded) (wave : Contents) → IsWaveOf n r wave → job wave ≡ job_for n r
job_same n r wave is = rw (is.design, is.order, is.stim) refl

pub wave_forces_written : (n : ANetlist) (r : Recorded) (wave : Contents) (forces : List Event) → FitsJob n r → IsWaveOf n r wave
    → AreForcesOf (job wave) (values_of wave) forces → HasEvents n.design r.stim forces
wave_forces_written n r wave forces fits is are =
    let there = subst (λ (j : Job). AreForcesOf j (values_of wave) forces) (job_same n r wave is) are in
    can_be_written n.design n.order r.stim forces (subst (AreEvents (job_for n r)) (sym there.least) (are_events (job_for n r) (fits_job n r fits) (forced_by (job_for n r) forces)))

-- A wave of a job has the job's design and stimulus, and so has its recording.
pub wave_vcd : (n : ANetlist) (r : Recorded) (wave : Contents) (shown : HistoryView) → IsWaveOf n r wave
    → vcd_text wave.design r.binding wave.stim shown ≡ vcd_text n.design r.binding r.stim shown
wave_vcd n r wave shown is = rw (is.design, is.stim) refl

-- The answer has the texts of the wave.
pub wave_texts : (w : RepairValues) (n : ANetlist) (r : Recorded) (wave : Contents) (shown : HistoryView) (forces : List Event) (scope : List (List ℕ)) (vcd code cert report : List ℕ)
    (form : Form) (conditions listed : List ConditionView) → ShowsWave wave shown → forces ≡ forces_in wave → scope ≡ scope_of w.job
    → vcd ≡ vcd_text n.design r.binding r.stim shown → code ≡ code_text n.design r.stim scope forces → form ≡ form_of w.form
    → AreConditionsFor form wave conditions → listed ≡ conditions → cert ≡ cert_text (cert_in form wave listed)
    → report ≡ report_text wave r.binding w.lines forces ++ conditions_text wave listed → (result : Result Ready Memory)
    → IfOk result (λ ready. answer_of ready ≡ answer_with w vcd code cert report) → IfOk result (λ ready. HasTexts w n r wave (answer_of ready))
wave_texts w n r wave shown forces scope vcd code cert report form conditions listed shows same named vcd_is code_is form_is are listed_is cert_is report_is (Err e) is = tt
wave_texts w n r wave shown forces scope vcd code cert report form conditions listed shows same named vcd_is code_is form_is are listed_is cert_is report_is (Ok ready) is = record {
  shown = shown;
  shows = shows;
  conditions = conditions;
  conditions_are = subst (λ (f : Form). AreConditionsFor f wave conditions) form_is are;
  is = is ∙ (λ t. answer_with w (vcd_is t) (code_there t) (cert_there t) (report_there t));
}
  where
    code_there : code ≡ code_text n.design r.stim (scope_of w.job) (forces_in wave)
    code_there = code_is ∙ (λ t. code_text n.design r.stim (named t) (same t))

    cert_there : cert ≡ cert_text (cert_in (form_of w.form) wave conditions)
    cert_there = cert_is ∙ (λ t. cert_text (cert_in (form_is t) wave (listed_is t)))

    report_there : report ≡ whole_report wave r.binding w.lines conditions
    report_there = report_is ∙ (λ t. report_text wave r.binding w.lines (same t) ++ conditions_text wave (listed_is t))

-- The answer of a check has the report of its wave, and the lines of its conditions.
pub report_answer : (w : CheckValues) (job : Parts) (wave : Contents) (conditions : List ConditionView) (forces : List Event) (report : List ℕ) (answer : Answer) → forces ≡ forces_in wave
    → report ≡ report_text wave job.recorded.binding w.lines forces ++ conditions_text wave conditions → answer ≡ record { files = []; printed = report }
    → answer ≡ check_answer w job (check_shows wave conditions)
report_answer w job wave conditions forces report answer same is answered =
    answered ∙ (λ t. record { files = []; printed = (is ∙ ap (λ (fs : List Event). report_text wave job.recorded.binding w.lines fs ++ conditions_text wave conditions) same) t })

-- The answer of an upgrade has the certificate of form 2, and that report.
pub upgrade_texts : (w : UpgradeValues) (job : Parts) (wave : Contents) (conditions : List ConditionView) (forces : List Event) (cert report : List ℕ) (answer : Answer)
    → forces ≡ forces_in wave → cert ≡ cert_text (cert_in Turns wave conditions) → report ≡ report_text wave job.recorded.binding w.lines forces ++ conditions_text wave conditions
    → answer ≡ record { files = record { name = w.to; bytes = cert } ∷ []; printed = report } → answer ≡ upgrade_answer w job wave conditions
upgrade_texts w job wave conditions forces cert report answer same cert_is is answered =
    answered
    ∙ (λ t. record {
      files = record { name = w.to; bytes = cert_is t } ∷ [];
      printed = (is ∙ ap (λ (fs : List Event). report_text wave job.recorded.binding w.lines fs ++ conditions_text wave conditions) same) t;
    })

-- The answer of a made job has its netlist, and the first lines of the report of its wave.
pub made_texts : (w : MakeValues) (netlist recording head : List ℕ) (wave : Contents) (forces : List Event) → netlist ≡ made_netlist w → forces ≡ forces_in wave
    → head ≡ head_text wave forces → (result : Result Ready Memory) → IfOk result (λ ready. answer_of ready ≡ make_with w netlist recording head)
    → IfOk result (λ ready. answer_of ready ≡ make_answer w recording wave)
made_texts w netlist recording head wave forces made same is (Err e) answered = tt
made_texts w netlist recording head wave forces made same is (Ok ready) answered =
    answered ∙ (λ t. make_with w (made t) recording ((is ∙ ap (head_text wave) same) t))

-- A history with the job's places has each step.
pub has_steps : (n : ANetlist) (r : Recorded) (history : HistoryView) → FitsJob n r → HasPlaces (job_for n r) history → HasSteps n.design r.stim history
has_steps n r history fits places =
    let all = places.all in
    let few = fits.recorded.stim.places in
    record {
      nets = places.nets;
      places = all;
      few = omega (arith, all, few);
      few_nets = fits.netlist.design.few;
    }
