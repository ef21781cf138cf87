-- What a text comes to, line by line and word by word: the clauses, or the first fault.
use Rattle.std.specs.Prelude.{ℕ, ℤ, pos, neg_ℤ, ◌+◌, ◌++◌, ◌&&◌, ◌==◌, nat_le, nat_lt, List, [], ◌∷◌, Bool, true, false}
use Rattle.std.specs.Prelude.{cond, codes, length, Option, Some, None, Result, Ok, Err}
use Rattle.std.specs.Ordering.{int_eq}
use Rattle.sat_dimacs.specs.declared.fault.DimacsFault.{DimacsFault}
use Rattle.sat_dimacs.specs.declared.fault.DimacsFault.TheVariants.{Syntax, Range, Count}
use Rattle.base_scan.specs.declared.gap.Gap.TheVariants.{Blank}
use Rattle.sat_dimacs.specs.declared.header.Header.{Header}
use Rattle.sat_dimacs.specs.declared.kind.Kind.{Kind}
use Rattle.sat_dimacs.specs.declared.kind.Kind.TheVariants.{OfCnf, OfLog}
use Rattle.sat_dimacs.specs.Grammar.{is_idle}
use Rattle.sat_dimacs.specs.Lines.{Word, lines_in, words_from, words_in}
use Rattle.base_scan.specs.Bytes.{are_digits}
use Rattle.base_scan.specs.Fronts.{◌>>=◌, word_in_front}
use Rattle.base_scan.specs.Numbers.{at_most, number_from, number_within}

abbrev pub on_ok : {A B : Type 0} → Result A DimacsFault → (A → Result B DimacsFault) → Result B DimacsFault
on_ok (Ok x) go = go x
on_ok (Err fault) go = Err fault

-- The number of digits, where it is a variable of 1 to vars, or 0.
abbrev pub in_range : ℕ → Option ℕ → Result ℕ DimacsFault
in_range line None = Err (Range line)
in_range line (Some n) = Ok n

abbrev pub variable_of : ℕ → ℕ → List ℕ → Result ℕ DimacsFault
variable_of vars line digits =
    cond (are_digits digits) (in_range line (at_most vars (number_from 0 digits))) (Err (Syntax line))

-- The literal of a word, or 0.
abbrev pub negated : ℕ → ℕ → Result ℤ DimacsFault
negated line n = cond (n == 0) (Err (Syntax line)) (Ok (neg_ℤ (pos n)))

abbrev pub plain : ℕ → Result ℤ DimacsFault
plain n = Ok (pos n)

unfoldable pub literal_of : ℕ → ℕ → List ℕ → Result ℤ DimacsFault
literal_of vars line [] = Err (Syntax line)
literal_of vars line (b ∷ bs) =
    cond (b == 45) (on_ok (variable_of vars line bs) (negated line)) (on_ok (variable_of vars line (b ∷ bs)) plain)

-- What the words so far are: clauses, and the literals of an open one.
pub record State : Type 0 where
  pub vars : ℕ
  pub count : Option ℕ
  pub clauses : List (List ℤ)
  pub literals : List ℤ

abbrev pub start : ℕ → Option ℕ → State
start vars count = record { vars = vars; count = count; clauses = []; literals = [] }

abbrev pub is_nothing : List ℤ → Bool
is_nothing [] = true
is_nothing (l ∷ ls) = false

-- As many clauses as there are to be.
abbrev pub are_all : Option ℕ → ℕ → Bool
are_all None n = false
are_all (Some count) n = nat_le count n

-- Fewer clauses.
abbrev pub are_short : Option ℕ → ℕ → Bool
are_short None n = false
are_short (Some count) n = nat_lt n count

-- The next number begins a clause too many.
abbrev pub is_full : State → Bool
is_full s = is_nothing s.literals && are_all s.count (length s.clauses)

abbrev pub is_end : ℤ → Bool
is_end l = int_eq l (pos 0)

abbrev pub ended : State → State
ended s = record { vars = s.vars; count = s.count; clauses = s.clauses ++ s.literals ∷ []; literals = [] }

abbrev pub longer : State → ℤ → State
longer s l = record { vars = s.vars; count = s.count; clauses = s.clauses; literals = s.literals ++ l ∷ [] }

abbrev pub taken : State → ℤ → State
taken s l = cond (is_end l) (ended s) (longer s l)

abbrev pub take_number : State → ℕ → ℤ → Result State DimacsFault
take_number s line l = cond (is_full s) (Err (Count line)) (Ok (taken s l))

-- one word more
abbrev pub step : State → ℕ → List ℕ → Result State DimacsFault
step s line word = on_ok (literal_of s.vars line word) (take_number s line)

-- where words lead to, if none of them is at fault
abbrev pub reach : State → List Word → Result State DimacsFault
reach s [] = Ok s
reach s (w ∷ ws) = on_ok (step s w.line w.bytes) (λ t. reach t ws)

-- What comes of it at the end; after is the number of the line after the last.
abbrev pub finish : ℕ → State → Result (List (List ℤ)) DimacsFault
finish after s =
    cond (is_nothing s.literals) (cond (are_short s.count (length s.clauses)) (Err (Count after)) (Ok s.clauses))
    (Err (Syntax after))

-- Lines that are left of a text, and the number of the first.
pub record LinesView : Type 0 where
  pub number : ℕ
  pub lines : List (List ℕ)

-- the clauses of lines
abbrev pub clauses_in : Kind → State → LinesView → Result (List (List ℤ)) DimacsFault
clauses_in kind s view =
    on_ok (reach s (words_from kind view.number view.lines)) (finish (view.number + length view.lines))

abbrev pub with_rest : List (List ℕ) → ℕ → Option (ℕ × List (List ℕ))
with_rest ws n = Some (n, ws)

-- A count in front, at most the limit, and the words after it.
unfoldable pub count_in_front : ℕ → List (List ℕ) → Option (ℕ × List (List ℕ))
count_in_front limit [] = None
count_in_front limit (w ∷ ws) = number_within limit w >>= with_rest ws

abbrev pub whole : Header → List (List ℕ) → Option Header
whole header [] = Some header
whole header (w ∷ ws) = None

-- The numbers of a header.
unfoldable pub header_of : List (List ℕ) → Option Header
header_of words = do
  problem ← word_in_front (codes "p") words
  format ← word_in_front (codes "cnf") problem
  vars ← count_in_front 2147483647 format
  count ← count_in_front 9223372036854775807 vars.1
  whole (record { vars = vars.0; count = count.0 }) count.1

abbrev pub needed : ℕ → Option Header → Result Header DimacsFault
needed number None = Err (Syntax number)
needed number (Some header) = Ok header

-- The header that this line is.
abbrev pub header_on : ℕ → List ℕ → Result Header DimacsFault
header_on number line = needed number (header_of (words_in Blank line))

-- The header, and the lines after it.
abbrev pub before_lines : ℕ → List (List ℕ) → Header → Result (Header × LinesView) DimacsFault
before_lines number lines header = Ok (header, record { number = number; lines = lines })

abbrev pub header_in : ℕ → List (List ℕ) → Result (Header × LinesView) DimacsFault
header_in number [] = Err (Syntax number)
header_in number (l ∷ ls) =
    cond (is_idle l) (header_in (number + 1) ls) (on_ok (header_on number l) (before_lines (number + 1) ls))

-- A formula: its number of variables, and its clauses.
pub record Formula : Type 0 where
  pub vars : ℕ
  pub clauses : List (List ℤ)

abbrev pub formula_of : ℕ → List (List ℤ) → Result Formula DimacsFault
formula_of vars clauses = Ok (record { vars = vars; clauses = clauses })

abbrev pub formula_after : Header × LinesView → Result Formula DimacsFault
formula_after found =
    on_ok (clauses_in OfCnf (start found.0.vars (Some found.0.count)) found.1) (formula_of found.0.vars)

abbrev pub all_lines : List ℕ → LinesView
all_lines text = record { number = 1; lines = lines_in text }

-- What a formula's text and a log's text come to.
abbrev pub formula_in : List ℕ → Result Formula DimacsFault
formula_in text = on_ok (header_in 1 (lines_in text)) formula_after

abbrev pub log_in : List ℕ → ℕ → Result (List (List ℤ)) DimacsFault
log_in text vars = clauses_in OfLog (start vars None) (all_lines text)
