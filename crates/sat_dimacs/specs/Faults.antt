-- The first fault of a text that stands for nothing.
use Rattle.std.specs.Prelude.{◌≡◌, ◌≢◌, ℕ, ℤ, ◌+◌, ◌<◌, ◌≤◌, ◌==◌, nat_abs, List, [], ◌∷◌, ◌++◌, Bool, true, false, not}
use Rattle.std.specs.Prelude.{if◌then◌else◌, Option, Some, None, codes, filter, length}
use Rattle.std.specs.List.{AllByRecursion}
use Rattle.sat_dimacs.specs.declared.fault.DimacsFault.{DimacsFault}
use Rattle.sat_dimacs.specs.declared.fault.DimacsFault.TheVariants.{Syntax, Range, Count}
use Rattle.sat_dimacs.specs.declared.kind.Kind.TheVariants.{OfLog}
use Rattle.sat_dimacs.specs.declared.refusal.DimacsErr.{DimacsErr}
use Rattle.sat_dimacs.specs.declared.refusal.DimacsErr.TheVariants.{Refused, Memory}
use Rattle.sat_dimacs.specs.Grammar.{IsFirstLine, IsHeader, StandFor, is_idle, words_after}
use Rattle.sat_dimacs.specs.Lines.{Word, lines_in, words_from}
use Rattle.sat_dimacs.specs.Numbers.{IsNumber}

-- the words of a fault
abbrev pub fault_words : DimacsFault → List ℕ
fault_words (Syntax line) = codes "syntax"
fault_words (Range line) = codes "range"
fault_words (Count line) = codes "count"

-- the line that is refused
abbrev pub fault_line : DimacsFault → ℕ
fault_line (Syntax line) = line
fault_line (Range line) = line
fault_line (Count line) = line

-- Each refusal but out of memory is a fault of the text.
abbrev pub fault_in : DimacsErr → Option DimacsFault
fault_in (Refused fault) = Some fault
fault_in Memory = None

-- The number of the line after the last: one more than the number of newlines where the text is empty or ends with one,
-- else two more.
abbrev pub newlines : List ℕ → ℕ
newlines text = length (filter (λ b. b == 10) text)

abbrev pub is_cut_short : List ℕ → Bool
is_cut_short [] = false
is_cut_short (b ∷ []) = not (b == 10)
is_cut_short (b ∷ c ∷ bs) = is_cut_short (c ∷ bs)

abbrev pub line_after : List ℕ → ℕ
line_after text = newlines text + (if is_cut_short text then 2 else 1)

-- How many clauses are begun: those that are ended, and one more where there are literals of it.
abbrev pub begun : List (List ℤ) → List ℤ → ℕ
begun clauses [] = length clauses
begun clauses (l ∷ ls) = length clauses + 1

-- No clause is one too many. A log has no number of clauses.
abbrev pub AreFew : Option ℕ → ℕ → Type 0
AreFew None n = Unit {0}
AreFew (Some count) n = n ≤ count

-- A word after clauses and the literals of an open one is no number; or it is a number over the variables; or it is a
-- number within them, and begins a clause too many.
pub data IsFaultAt (vars : ℕ) (count : Option ℕ) (clauses : List (List ℤ)) (unended : List ℤ) (word : Word)
    (fault : DimacsFault) : Type 0 where
  syntax_at : ((n : ℤ) → IsNumber word.bytes n → ⊥) → fault ≡ Syntax word.line
      → IsFaultAt vars count clauses unended word fault
  range_at : (n : ℤ) → IsNumber word.bytes n → vars < nat_abs n → fault ≡ Range word.line
      → IsFaultAt vars count clauses unended word fault
  count_at : (n : ℤ) → IsNumber word.bytes n → nat_abs n ≤ vars → unended ≡ [] → count ≡ Some (length clauses)
      → fault ≡ Count word.line → IsFaultAt vars count clauses unended word fault

-- At the end a clause is open; or none is, and there are too few.
pub data IsFaultAtEnd (count : Option ℕ) (clauses : List (List ℤ)) (unended : List ℤ) (after : ℕ) (fault : DimacsFault)
    : Type 0 where
  syntax_end : unended ≢ [] → fault ≡ Syntax after → IsFaultAtEnd count clauses unended after fault
  count_end : (n : ℕ) → unended ≡ [] → count ≡ Some n → length clauses < n → fault ≡ Count after
      → IsFaultAtEnd count clauses unended after fault

-- the fault of what stands there: a word, or the end
abbrev pub IsFaultOf : ℕ → Option ℕ → List (List ℤ) → List ℤ → List Word → ℕ → DimacsFault → Type 0
IsFaultOf vars count clauses unended [] after fault = IsFaultAtEnd count clauses unended after fault
IsFaultOf vars count clauses unended (w ∷ ws) after fault = IsFaultAt vars count clauses unended w fault

-- The first fault among words: those before it stand for clauses, none too many, and what comes then is at fault.
pub record IsFirstFault (vars : ℕ) (count : Option ℕ) (words : List Word) (after : ℕ) (fault : DimacsFault)
    : Type 0 where
  pub front : List Word
  pub rest : List Word
  pub clauses : List (List ℤ)
  pub unended : List ℤ
  pub split : words ≡ front ++ rest
  pub stand : StandFor vars front clauses unended
  pub few : AreFew count (begun clauses unended)
  pub at : IsFaultOf vars count clauses unended rest after fault

-- The first fault of a log text.
abbrev pub IsLogFault : List ℕ → ℕ → DimacsFault → Type 0
IsLogFault text vars fault = IsFirstFault vars None (words_from OfLog 1 (lines_in text)) (line_after text) fault

-- The first fault of a formula's text: no line but idle ones; or the first other line is no header; or it is one, and
-- the words after it have the fault.
pub data IsCnfFault (text : List ℕ) (fault : DimacsFault) : Type 0 where
  no_line : AllByRecursion (λ l. is_idle l ≡ true) (lines_in text) → fault ≡ Syntax (line_after text)
      → IsCnfFault text fault
  no_header : (front : List (List ℕ)) (line : List ℕ) (rest : List (List ℕ))
      → IsFirstLine (lines_in text) front line rest
      → ((vars count : ℕ) → IsHeader line vars count → ⊥) → fault ≡ Syntax (length front + 1) → IsCnfFault text fault
  after_header : (front : List (List ℕ)) (line : List ℕ) (rest : List (List ℕ)) (vars count : ℕ)
      → IsFirstLine (lines_in text) front line rest → IsHeader line vars count
      → IsFirstFault vars (Some count) (words_after front rest) (line_after text) fault → IsCnfFault text fault
