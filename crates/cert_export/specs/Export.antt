-- The files that are written of a wave for other solvers, and what is printed.
use Rattle.std.specs.Prelude.{◌≡◌, ℕ, ℤ, ◌+◌, Bool, List, [], ◌∷◌, ◌++◌, Option, Some, None, codes, count_by, decimal}
use Rattle.std.specs.Prelude.{is_some, length}
use Rattle.cert_check.specs.Step.{cert_of}
use Rattle.cert_writer.specs.Text.{cert_text}
use Rattle.decide_cnf.specs.Query.{IsQueryOf}
use Rattle.design_circuit.specs.Job.{number_of}
use Rattle.sat_dimacs.specs.Text.{cnf_text, log_text}
use Rattle.law_model.specs.declared.line.Body.{Body}
use Rattle.law_model.specs.declared.line.Body.TheVariants.{Enumerated, Refuted, Pair, Undecided}
use Rattle.law_model.specs.declared.line.Line.{Line as ALine}
use Rattle.sat_proof.specs.declared.clause.Cnf.{Cnf}
use Rattle.base_lists.specs.Text.{line}
use Rattle.base_run.specs.Outputs.{File}
use Rattle.base_run.specs.Phases.{Answer}
use Rattle.wave_proved.specs.Contents.{Contents, job}

abbrev pub file : List ℕ → List ℕ → File
file name bytes = record { name = name; bytes = bytes }

-- `PREFIX.xc`
abbrev pub cert_name : List ℕ → List ℕ
cert_name prefix = prefix ++ codes ".xc"

-- `PREFIX-NUMBER` with an ending
abbrev pub line_name : List ℕ → ℕ → List ℕ → List ℕ
line_name prefix number ending = prefix ++ (codes "-" ++ (decimal number ++ ending))

-- The log of a line, if it has one.
abbrev pub log_of : Body → Option (List (List ℤ))
log_of (Enumerated bit) = None
log_of (Refuted bit log) = Some log
log_of (Pair first second) = None
log_of (Undecided log) = Some log

abbrev pub has_log : ALine → Bool
has_log line = is_some (log_of line.body)

-- The file of a log, if there is one: `PREFIX-NUMBER.log`.
abbrev pub log_files : List ℕ → ℕ → Option (List (List ℤ)) → List File
log_files prefix number None = []
log_files prefix number (Some log) = file (line_name prefix number (codes ".log")) (log_text log) ∷ []

-- The files of the line of this number: `PREFIX-NUMBER.cnf` with the query of its place in the wave, and the file of
-- its log, if it has one.
pub record AreFilesOf (c : Contents) (prefix : List ℕ) (number : ℕ) (l : ALine) (files : List File) : Type 0 where
  pub query : Cnf
  pub is_query : IsQueryOf c (number_of (job c) l.place) query
  pub are : files ≡ file (line_name prefix number (codes ".cnf")) (cnf_text query.vars query.clauses)
      ∷ log_files prefix number (log_of l.body)

-- The files of lines, of which the first has this number, one line after another.
abbrev pub AreFiles : Contents → List ℕ → ℕ → List ALine → List File → Type 0
AreFiles c prefix number [] files = files ≡ []
AreFiles c prefix number (l ∷ ls) files =
    (own : List File) × (rest : List File) × AreFilesOf c prefix number l own × AreFiles c prefix (number + 1) ls rest
    × (files ≡ own ++ rest)

-- `exported Q queries L logs`
abbrev pub exported_line : ℕ → ℕ → List ℕ
exported_line queries logs =
    line (codes "exported " ++ (decimal queries ++ (codes " queries " ++ (decimal logs ++ codes " logs"))))

-- The certificate is written first, then the files of the lines, numbered from 1. What is printed tells how many
-- queries and how many logs there are.
pub record Exports (prefix : List ℕ) (c : Contents) (answer : Answer) : Type 0 where
  pub files : List File
  pub are : AreFiles c prefix 1 c.lines files
  pub files_is : answer.files ≡ file (cert_name prefix) (cert_text (cert_of c)) ∷ files
  pub printed_is : answer.printed ≡ exported_line (length c.lines) (count_by has_log c.lines)
