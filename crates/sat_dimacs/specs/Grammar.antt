-- Which texts stand for a formula, and which for a log (the format of the DIMACS satisfiability challenge).
use Rattle.std.specs.Prelude.{◌≡◌, ◌≢◌, ℕ, ℤ, pos, ◌+◌, ◌≤◌, nat_abs, List, [], ◌∷◌, ◌++◌, Bool, true, false, ◌||◌}
use Rattle.std.specs.Prelude.{codes, length}
use Rattle.std.specs.List.{AllByRecursion, AllZip, flat_map, list_all}
use Rattle.base_scan.specs.declared.gap.Gap.TheVariants.{Blank}
use Rattle.sat_dimacs.specs.declared.kind.Kind.TheVariants.{OfCnf, OfLog}
use Rattle.sat_dimacs.specs.Lines.{Word, is_passed, lines_in, words_from, words_in}
use Rattle.base_scan.specs.Bytes.{is_white}
use Rattle.sat_dimacs.specs.Numbers.{IsCount, IsNumber}

-- The numbers of words, one for each.
abbrev pub AreNumbers : List Word → List ℤ → Type 0
AreNumbers words numbers = AllZip (λ word number. IsNumber word.bytes number) words numbers

-- A clause is its literals, ended by 0.
abbrev pub numbers_of : List (List ℤ) → List ℤ
numbers_of clauses = flat_map (λ clause. clause ++ pos 0 ∷ []) clauses

-- A literal isn't 0, and its variable is one of 1 to vars.
pub record IsLiteral (vars : ℕ) (l : ℤ) : Type 0 where
  pub some : l ≢ pos 0
  pub within : nat_abs l ≤ vars

abbrev pub AreLiterals : ℕ → List ℤ → Type 0
AreLiterals vars literals = AllByRecursion (IsLiteral vars) literals

-- Words stand for clauses, and for the literals of one more that isn't ended.
pub record StandFor (vars : ℕ) (words : List Word) (clauses : List (List ℤ)) (unended : List ℤ) : Type 0 where
  pub numbers : AreNumbers words (numbers_of clauses ++ unended)
  pub fit : AllByRecursion (AreLiterals vars) clauses
  pub unended_fits : AreLiterals vars unended

-- A text stands for a log: its words are the clauses, each ended.
abbrev pub IsLogText : List ℕ → ℕ → List (List ℤ) → Type 0
IsLogText text vars log = StandFor vars (words_from OfLog 1 (lines_in text)) log []

-- Nothing but white space.
abbrev pub is_blank : List ℕ → Bool
is_blank line = list_all is_white line

-- Before the header, lines that are passed over or blank.
abbrev pub is_idle : List ℕ → Bool
is_idle line = is_passed OfCnf line || is_blank line

-- The header is `p cnf V C`: at most 2^31 - 1 variables and 2^63 - 1 clauses.
pub record IsHeader (line : List ℕ) (vars count : ℕ) : Type 0 where
  pub v : List ℕ
  pub c : List ℕ
  pub words : words_in Blank line ≡ codes "p" ∷ codes "cnf" ∷ v ∷ c ∷ []
  pub vars_are : IsCount 2147483647 v vars
  pub count_is : IsCount 9223372036854775807 c count

-- The first line that isn't idle, those before it and those after it.
pub record IsFirstLine (lines front : List (List ℕ)) (line : List ℕ) (rest : List (List ℕ)) : Type 0 where
  pub split : lines ≡ front ++ line ∷ rest
  pub idle : AllByRecursion (λ l. is_idle l ≡ true) front
  pub first : is_idle line ≡ false

-- The words after a header that has so many lines before it.
abbrev pub words_after : List (List ℕ) → List (List ℕ) → List Word
words_after front rest = words_from OfCnf (length front + 2) rest

-- A text stands for a formula: the header is the first line that isn't idle, and the words after it are as many
-- clauses as it says, each ended.
pub record IsCnfText (text : List ℕ) (vars : ℕ) (clauses : List (List ℤ)) : Type 0 where
  pub front : List (List ℕ)
  pub header : List ℕ
  pub rest : List (List ℕ)
  pub first : IsFirstLine (lines_in text) front header rest
  pub is : IsHeader header vars (length clauses)
  pub stand : StandFor vars (words_after front rest) clauses []
