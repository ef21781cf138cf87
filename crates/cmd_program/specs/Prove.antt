-- `prove`: its words, its phases, and what it promises.
use Rattle.std.specs.Prelude.{◌++◌, ◌<◌, ◌∷◌, ◌≡◌, ◌≤◌, List, Option, Some, [], codes, decimal, false, length, ℕ}
use Rattle.base_lists.specs.Text.{line}
use Rattle.cmd_program.specs.declared.commands.prove.Prove.{Prove}
use Rattle.base_line.specs.Line.{Text}
use Rattle.base_line.specs.Tables.{Reads, needs}
use Rattle.cmd_phases.specs.Code.{text_limit}
use Rattle.cmd_phases.specs.Phases.{proof_cause}
use Rattle.cmd_phases.specs.declared.cause.Refused.{Refused}
use Rattle.cmd_phases.specs.declared.cause.Refused.TheVariants.{LongCnf, LongLog, Proof}
use Rattle.sat_prove.specs.Proof.{IsProof, IsProofFault, ProofComes}
use Rattle.sat_prove.specs.declared.fault.ProofFault.{ProofFault}
use Rattle.base_run.specs.Phases.{◌>>=◌, Answer, Phases, judges, reads, text_held}
use Rattle.cmd_set.specs.Command.{Command}
use Rattle.base_shelf.specs.Shelf.{Files}

-- ---- words

pub record ProveValues : Type 0 where
  pub cnf : Text
  pub log : Text

-- These are those of `prove`, which writes no file.
pub record GivesProve (option : Text → Option Text) (v : ProveValues) : Type 0 where
  pub cnf : option (codes "cnf") ≡ Some v.cnf
  pub log : option (codes "log") ≡ Some v.log

abbrev pub prove_values : Prove → ProveValues
prove_values words = record { cnf = words.cnf.now; log = words.log.now }

-- ---- phases

-- `refuted K`
abbrev pub refuted_line : ℕ → List ℕ
refuted_line count = line (codes "refuted " ++ decimal count)

-- No file is written, and the number of the log's clauses is printed.
abbrev pub prove_answer : ℕ → Answer
prove_answer count = record { files = []; printed = refuted_line count }

abbrev pub proof_phases : List ℕ → List ℕ → Phases Answer Refused
proof_phases cnf log = do
  count ← judges (ProofComes cnf log) proof_cause
  Phases.Finds (prove_answer count)

abbrev pub log_phases : ProveValues → List ℕ → Phases Answer Refused
log_phases w cnf = do
  log ← reads (w.log ∷ []) text_limit LongLog
  proof_phases cnf log

abbrev pub prove_phases : ProveValues → Phases Answer Refused
prove_phases w = do
  cnf ← reads (w.cnf ∷ []) text_limit LongCnf
  log_phases w cnf

-- ---- promises

-- The texts stand for a formula and a log over its variables that refutes it; the number of its clauses is printed.
pub record Proves (cnf log printed : List ℕ) : Type 0 where
  pub count : ℕ
  pub proof : IsProof cnf log count
  pub printed_is : printed ≡ refuted_line count

-- The texts aren't too long.
pub record AreShort (cnf log : List ℕ) : Type 0 where
  pub cnf_fits : length cnf ≤ text_limit
  pub log_fits : length log ≤ text_limit

-- Neither is too long, and they are a proof.
pub record IsProvable (cnf log : List ℕ) : Type 0 where
  pub short : AreShort cnf log
  pub count : ℕ
  pub proof : IsProof cnf log count

-- The formula's text is too long; or it isn't, and the log's is; or neither is, and they have a fault.
pub data IsUnproved (cnf log : List ℕ) : Refused → Type 0 where
  long_cnf : text_limit < length cnf → IsUnproved cnf log LongCnf
  long_log : length cnf ≤ text_limit → text_limit < length log → IsUnproved cnf log LongLog
  unproved : {fault : ProofFault} → AreShort cnf log → IsProofFault cnf log fault → IsUnproved cnf log (Proof fault)

-- No file is written, and what is printed is of the formula and of the log that the files hold.
pub record SaysProve (files : Files) (w : ProveValues) (answer : Answer) : Type 0 where
  pub printed : List ℕ
  pub answer_is : answer ≡ record { files = []; printed = printed }
  pub proves : Proves (text_held files (w.cnf ∷ [])) (text_held files (w.log ∷ [])) printed

-- ---- the command

abbrev pub prove : Command Refused
prove = record {
  word = codes "prove";
  table = needs (codes "cnf") Reads ∷ needs (codes "log") Reads ∷ [];
  has_files = false;
  Values = ProveValues;
  files = λ v. [];
  Gives = GivesProve;
  inputs = λ v. v.cnf ∷ v.log ∷ [];
  most = text_limit;
  phases = prove_phases;
  InOrder = λ files v. IsProvable (text_held files (v.cnf ∷ [])) (text_held files (v.log ∷ []));
  Says = SaysProve;
  Fails = λ files v cause. IsUnproved (text_held files (v.cnf ∷ [])) (text_held files (v.log ∷ [])) cause;
}
