-- What the texts of a formula and of a log come to: the number of the log's clauses, or the first fault.
use Rattle.std.specs.Prelude.{◌≡◌, ℕ, ℤ, List, ◌++◌, Option, Some, None, Result, Ok, Err, codes, decimal, length}
use Rattle.sat_dimacs.specs.Faults.{IsCnfFault, IsLogFault, fault_line, fault_words}
use Rattle.sat_dimacs.specs.Grammar.{IsCnfText, IsLogText}
use Rattle.sat_dimacs.specs.declared.fault.DimacsFault.{DimacsFault}
use Rattle.sat_dimacs.specs.declared.refusal.DimacsErr.{DimacsErr}
use Rattle.sat_dimacs.specs.declared.refusal.DimacsErr.TheVariants.{Refused as TextRefused, Memory as TextMemory}
use Rattle.sat_proof.specs.Log.{IsBadLine, Refutes}
use Rattle.sat_prove.specs.declared.fault.ProofFault.{ProofFault}
use Rattle.sat_prove.specs.declared.fault.ProofFault.TheVariants.{Text, Log}
use Rattle.sat_prove.specs.declared.refusal.ProofErr.{ProofErr}
use Rattle.sat_prove.specs.declared.refusal.ProofErr.TheVariants.{Refused, Memory}

-- ---- clauses and a log

-- The log refutes the clauses, and has so many itself.
pub record IsChecked (clauses lines : List (List ℤ)) (count : ℕ) : Type 0 where
  pub refutes : Refutes clauses lines
  pub count_is : count ≡ length lines

-- It doesn't, first at this clause.
pub record IsUnchecked (clauses lines : List (List ℤ)) (fault : ProofFault) : Type 0 where
  pub clause : ℕ
  pub bad : IsBadLine clauses lines clause
  pub is : fault ≡ Log clause

-- ---- two texts

-- The texts stand for a formula, and for a log over its variables.
pub record AreTexts (cnf log : List ℕ) (vars : ℕ) (clauses lines : List (List ℤ)) : Type 0 where
  pub formula : IsCnfText cnf vars clauses
  pub log_is : IsLogText log vars lines

-- They do, and the log refutes the formula and has so many clauses.
pub record IsProof (cnf log : List ℕ) (count : ℕ) : Type 0 where
  pub vars : ℕ
  pub clauses : List (List ℤ)
  pub lines : List (List ℤ)
  pub texts : AreTexts cnf log vars clauses lines
  pub checked : IsChecked clauses lines count

-- The first fault: that of the formula's text; or it stands for a formula, and the fault is that of the log's text; or
-- both texts stand, and the log doesn't refute the formula.
pub data IsProofFault (cnf log : List ℕ) (fault : ProofFault) : Type 0 where
  of_formula : (found : DimacsFault) → IsCnfFault cnf found → fault ≡ Text found → IsProofFault cnf log fault
  of_log : (vars : ℕ) (clauses : List (List ℤ)) (found : DimacsFault) → IsCnfText cnf vars clauses
      → IsLogFault log vars found → fault ≡ Text found → IsProofFault cnf log fault
  of_clause : (vars : ℕ) (clauses lines : List (List ℤ)) → AreTexts cnf log vars clauses lines
      → IsUnchecked clauses lines fault → IsProofFault cnf log fault

-- What the texts come to.
abbrev pub ProofComes : List ℕ → List ℕ → Result ℕ ProofFault → Type 0
ProofComes cnf log (Ok count) = IsProof cnf log count
ProofComes cnf log (Err fault) = IsProofFault cnf log fault

-- ---- what is answered

-- Each refusal but out of memory is a fault of the texts.
abbrev pub fault_in : ProofErr → Option ProofFault
fault_in (Refused fault) = Some fault
fault_in Memory = None

abbrev pub err_of_text : DimacsErr → ProofErr
err_of_text (TextRefused fault) = Refused (Text fault)
err_of_text TextMemory = Memory

-- It is this; or there was no memory.
abbrev pub Answers : Result ℕ ProofErr → Result ℕ ProofFault → Type 0
Answers (Ok count) wanted = wanted ≡ Ok count
Answers (Err (Refused fault)) wanted = wanted ≡ Err fault
Answers (Err Memory) wanted = Unit {0}

-- Whatever the texts come to is answered.
abbrev pub IsProofAnswer : List ℕ → List ℕ → Result ℕ ProofErr → Type 0
IsProofAnswer cnf log result = (wanted : Result ℕ ProofFault) → ProofComes cnf log wanted → Answers result wanted

-- ---- its status and its line

abbrev pub proof_status : ProofFault → ℕ
proof_status (Text fault) = 16
proof_status (Log clause) = 13

-- the number of a line and what is wrong there
abbrev pub fault_text : ℕ → List ℕ → List ℕ
fault_text line words = decimal line ++ (codes ": " ++ words)

-- `refused: dimacs line L: WORD`
abbrev pub dimacs_line : DimacsFault → List ℕ
dimacs_line fault = codes "refused: dimacs line " ++ fault_text (fault_line fault) (fault_words fault)

-- `refused: log clause L`
abbrev pub clause_line : ℕ → List ℕ
clause_line clause = codes "refused: log clause " ++ decimal clause

-- the one or the other
abbrev pub proof_line : ProofFault → List ℕ
proof_line (Text fault) = dimacs_line fault
proof_line (Log clause) = clause_line clause
