-- What formulas and logs are written as: a clause a line, a space between two words.
use Rattle.std.specs.Prelude.{ℕ, ℤ, List, ◌++◌, codes, decimal, length}
use Rattle.std.specs.Fmt.{signed_decimal}
use Rattle.std.specs.List.{flat_map}

-- A clause is its literals, ended by 0.
abbrev pub literal_text : ℤ → List ℕ
literal_text l = signed_decimal l ++ codes " "

abbrev pub clause_text : List ℤ → List ℕ
clause_text clause = flat_map literal_text clause ++ codes "0"

abbrev pub clause_line : List ℤ → List ℕ
clause_line clause = clause_text clause ++ codes "\n"

abbrev pub log_text : List (List ℤ) → List ℕ
log_text log = flat_map clause_line log

-- A formula begins with the line `p cnf V C`, its numbers of variables and of clauses.
abbrev pub header_text : ℕ → ℕ → List ℕ
header_text vars count = codes "p cnf " ++ (decimal vars ++ (codes " " ++ decimal count))

abbrev pub cnf_text : ℕ → List (List ℤ) → List ℕ
cnf_text vars clauses = (header_text vars (length clauses) ++ codes "\n") ++ log_text clauses
