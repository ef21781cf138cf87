-- The phases that commands share: a job, and the texts that are read beside it.
use Rattle.std.specs.Prelude.{ℕ, List, [], ◌∷◌}
use Rattle.cert_writer.specs.declared.cert.Cert.{Cert}
use Rattle.replay_code.specs.declared.fault.CodeFault.{CodeFault}
use Rattle.design_circuit.specs.declared.force.Event.{Event}
use Rattle.base_run.specs.Phases.{Phases, ◌>>=◌, reads, judges}
use Rattle.sat_prove.specs.declared.fault.ProofFault.{ProofFault}
use Rattle.report_fix.specs.declared.refusal.StartFault.{StartFault}
use Rattle.cmd_job.specs.Netlist.{NetlistComes}
use Rattle.cmd_job.specs.Recorded.{RecordingComes, job_netlist}
use Rattle.cmd_job.specs.declared.compare_refusal.CompareRefusal.{CompareRefusal}
use Rattle.cmd_job.specs.declared.netlist.Netlist.{Netlist as ANetlist}
use Rattle.cmd_job.specs.declared.netlist_refusal.NetlistRefusal.{NetlistRefusal}
use Rattle.cmd_job.specs.declared.recorded.Recorded.{Recorded}
use Rattle.cmd_job.specs.declared.recording_refusal.RecordingRefusal.{RecordingRefusal}
use Rattle.base_line.specs.Line.{pieces_of}
use Rattle.cmd_words.specs.Words.{JobValues}
use Rattle.cmd_phases.specs.Certificate.{CertificateComes}
use Rattle.cmd_phases.specs.Code.{CodeComes, code_in, text_limit}
use Rattle.cmd_phases.specs.Repair.{CompareComes, netlist_limit, recording_limit, rules_of, undriven_rule_of}
use Rattle.cmd_phases.specs.declared.cause.Objection.{Objection}
use Rattle.cmd_phases.specs.declared.cause.Refused.{Refused}
use Rattle.cmd_phases.specs.declared.cause.Refused.TheVariants.{LongNetlist, Netlist, LongRecording, Recording, Compare}
use Rattle.cmd_phases.specs.declared.cause.Refused.TheVariants.{Certificate, Code, LongCertificate, LongCode}
use Rattle.cmd_phases.specs.declared.cause.Refused.TheVariants.{Optimistic}
use Rattle.cmd_phases.specs.declared.cause.Refused.TheVariants.{Proof, Start}
use Rattle.cmd_phases.specs.declared.cause.Uncertified.{Uncertified}
use Rattle.cmd_phases.specs.declared.parts.Agreed.{Agreed}
use Rattle.cmd_phases.specs.declared.parts.Fitted.{Fitted}
use Rattle.cmd_phases.specs.declared.parts.Parts.{Parts}

-- The causes that the phases find.
abbrev pub netlist_cause : NetlistRefusal → Refused
netlist_cause e = Netlist e

abbrev pub recording_cause : RecordingRefusal → Refused
recording_cause e = Recording e

abbrev pub compare_cause : CompareRefusal → Refused
compare_cause e = Compare e

abbrev pub walk_cause : Objection → Refused
walk_cause objection = Optimistic objection

abbrev pub code_cause : CodeFault → Refused
code_cause fault = Code fault

abbrev pub uncertified_cause : Uncertified → Refused
uncertified_cause cause = Certificate cause

abbrev pub proof_cause : ProofFault → Refused
proof_cause fault = Proof fault

abbrev pub start_cause : StartFault → Refused
start_cause fault = Start fault

abbrev pub no_cause : ⊥ → Refused
no_cause none = absurd none

-- What is found, as it is; and that something was.
abbrev pub itself : {X : Type 0} → X → X
itself x = x

abbrev pub nothing_in : {X : Type 0} → X → Unit {0}
nothing_in _ = tt

-- ---- a job

abbrev pub parts : ANetlist → Recorded → Parts
parts n r = record { netlist = n; recorded = r }

-- The job of a netlist and of what is recorded of it, by the rules of the words.
abbrev pub job_parts : JobValues → ANetlist → Recorded → Parts
job_parts w n r = parts (job_netlist (undriven_rule_of w.undriven) n r.binding.bound) r

-- The names of the scope, from the outermost.
abbrev pub scope_of : JobValues → List (List ℕ)
scope_of w = pieces_of 46 w.scope

abbrev pub netlist_phases : JobValues → Phases ANetlist Refused
netlist_phases w = do
  text ← reads w.netlists netlist_limit LongNetlist
  judges (NetlistComes text w.top) netlist_cause

abbrev pub recording_phases : JobValues → ANetlist → Phases Recorded Refused
recording_phases w n = do
  text ← reads (w.recording ∷ []) recording_limit LongRecording
  judges (RecordingComes text n.design (scope_of w) w.rounds w.places (rules_of w)) recording_cause

abbrev pub job_phases : JobValues → Phases Parts Refused
job_phases w = do
  n ← netlist_phases w
  r ← recording_phases w n
  Phases.Finds (job_parts w n r)

abbrev pub fitted_job : Fitted → Parts
fitted_job job = job.parts

-- A job whose recording agrees with its replay.
abbrev pub agreed_phases : JobValues → Phases Parts Refused
agreed_phases w = do
  job ← job_phases w
  agreed ← judges (CompareComes job.netlist job.recorded) compare_cause
  Phases.Finds job

abbrev pub agreed_job : Agreed → Parts
agreed_job agreed = agreed.parts

-- And then what a command comes to.
abbrev pub agreed_then : {A : Type 0} → JobValues → (Parts → Phases A Refused) → Phases A Refused
agreed_then w after = agreed_phases w >>= after

-- The same after the job alone.
abbrev pub compared_then : {A : Type 0} → (Parts → Phases A Refused) → Parts → Phases A Refused
compared_then after job = do
  agreed ← judges (CompareComes job.netlist job.recorded) compare_cause
  after job

-- ---- a code, and a certificate

abbrev pub code_phases : List ℕ → JobValues → Parts → Phases (List Event) Refused
code_phases name w job = do
  text ← reads (name ∷ []) text_limit LongCode
  judges (CodeComes (code_in job text (scope_of w))) code_cause

abbrev pub certificate_phases : List ℕ → Phases Cert Refused
certificate_phases name = do
  text ← reads (name ∷ []) text_limit LongCertificate
  judges (CertificateComes text) uncertified_cause
