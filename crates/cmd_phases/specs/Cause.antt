-- Why texts are refused: its status and its words.
use Rattle.std.specs.Prelude.{ℕ, List, [], ◌∷◌, ◌++◌, codes, decimal}
use Rattle.design_cell.specs.Value.{letter_of}
use Rattle.cmd_job.specs.Lines.{compare_line, netlist_line, recording_line, compare_status, netlist_status}
use Rattle.cmd_job.specs.Lines.{recording_status}
use Rattle.cert_check.specs.Words.{fault_text}
use Rattle.replay_code.specs.Fault.{code_line}
use Rattle.report_fix.specs.Fault.{start_line}
use Rattle.sat_prove.specs.Proof.{proof_line, proof_status}
use Rattle.cmd_phases.specs.declared.cause.Lack.{Lack}
use Rattle.cmd_phases.specs.declared.cause.Objection.{Objection}
use Rattle.cmd_phases.specs.declared.cause.Refused.{Refused}
use Rattle.cmd_phases.specs.declared.cause.Refused.TheVariants.{LongNetlist, Netlist, LongRecording, Recording, Compare}
use Rattle.cmd_phases.specs.declared.cause.Refused.TheVariants.{Optimistic, LongCode, Code, LongCertificate}
use Rattle.cmd_phases.specs.declared.cause.Refused.TheVariants.{Certificate}
use Rattle.cmd_phases.specs.declared.cause.Refused.TheVariants.{LongCnf, LongLog, Proof, Start}
use Rattle.cmd_phases.specs.declared.cause.Uncertified.{Uncertified}
use Rattle.cmd_phases.specs.declared.cause.Uncertified.TheVariants.{Lacks, Line}

abbrev pub status_of : Refused → ℕ
status_of LongNetlist = 11
status_of (Netlist cause) = netlist_status cause
status_of LongRecording = 11
status_of (Recording cause) = recording_status cause
status_of (Compare cause) = compare_status cause
status_of (Optimistic objection) = 10
status_of LongCode = 11
status_of (Code fault) = 12
status_of LongCertificate = 11
status_of (Certificate cause) = 13
status_of LongCnf = 11
status_of LongLog = 11
status_of (Proof fault) = proof_status fault
status_of (Start fault) = 17

-- `refused: optimistic #T round J NAME replayed V found V undecided U`
abbrev pub objection_text : Objection → List ℕ
objection_text o =
    codes "refused: optimistic #" ++ (decimal o.time ++ (codes " round " ++ (decimal o.round ++ (codes " " ++ (o.name
    ++ (codes " replayed " ++ (letter_of o.replayed ∷ [] ++ (codes " found " ++ (letter_of o.found ∷ []
    ++ (codes " undecided " ++ decimal o.undecided))))))))))

-- `refused: certificate lacks #T round J NAME`
abbrev pub lack_line : Lack → List ℕ
lack_line lack =
    codes "refused: certificate lacks #" ++ (decimal lack.time ++ (codes " round " ++ (decimal lack.round
    ++ (codes " " ++ lack.name))))

-- That, or `refused: certificate line L: WORD`
abbrev pub certificate_line : Uncertified → List ℕ
certificate_line (Line fault) = codes "refused: " ++ fault_text fault
certificate_line (Lacks lack) = lack_line lack

abbrev pub text_of : Refused → List ℕ
text_of LongNetlist = codes "refused: too large netlist"
text_of (Netlist cause) = netlist_line cause
text_of LongRecording = codes "refused: too large recording"
text_of (Recording cause) = recording_line cause
text_of (Compare cause) = compare_line cause
text_of (Optimistic objection) = objection_text objection
text_of LongCode = codes "refused: too large code"
text_of (Code fault) = code_line fault
text_of LongCertificate = codes "refused: too large certificate"
text_of (Certificate cause) = certificate_line cause
text_of LongCnf = codes "refused: too large cnf"
text_of LongLog = codes "refused: too large log"
text_of (Proof fault) = proof_line fault
text_of (Start fault) = start_line fault
