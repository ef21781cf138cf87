-- What the readers answer: what the machine says, want of memory aside.
use Rattle.std.specs.Prelude.{◌≡◌, ℕ, ℤ, ◌+◌, cond, List, [], ◌∷◌, ◌++◌, Option, Some, None, Result, Ok, Err}
use Rattle.cert_writer.specs.declared.cert.Cert.{Cert}
use Rattle.cert_writer.specs.declared.cert.Entry.{Entry}
use Rattle.cert_writer.specs.declared.cert.Form.{Form}
use Rattle.cert_writer.specs.declared.cert.Head.{Head}
use Rattle.design_circuit.specs.declared.place.Place.{Place}
use Rattle.cert_reader.specs.declared.refusal.LineErr.{LineErr}
use Rattle.cert_reader.specs.declared.refusal.LineErr.TheVariants.{Wrong, Memory}
use Rattle.cert_reader.specs.declared.refusal.TextErr.{TextErr}
use Rattle.cert_reader.specs.declared.refusal.TextErr.TheVariants.{Refused, Memory as NoMemory}
use Rattle.cert_reader.specs.Machine.{State, all, cert_with, is_end, log_end, log_from, places_before, places_to_end}
use Rattle.cert_reader.specs.Machine.{run, within}

-- A reader refuses where nothing is read.
abbrev pub Fails : {A : Type 0} → LineErr → Option A → Type 0
Fails Wrong read = read ≡ None
Fails Memory read = Unit {0}

-- It answers what is read of all words.
abbrev pub Gives : {A : Type 0} → Result A LineErr → Option A → Type 0
Gives (Ok x) read = read ≡ Some x
Gives (Err e) read = Fails e read

-- It answers what is read of the words in front, and leaves those after.
abbrev pub Takes : {A : Type 0} → Result A LineErr → Option (A × List (List ℕ)) → List (List ℕ) → Type 0
Takes (Ok x) read left = read ≡ Some (x, left)
Takes (Err e) read left = Fails e read

-- The same where nothing but the words after is answered.
abbrev pub Skips : Result Unit LineErr → Option (List (List ℕ)) → List (List ℕ) → Type 0
Skips (Ok x) read left = read ≡ Some left
Skips (Err e) read left = Fails e read

-- The lines that are left of a text, and the number of the first.
pub record LinesView : Type 0 where
  pub number : ℕ
  pub lines : List (List ℕ)

-- What they come to after lines that lead to a state.
abbrev pub goes : State → LinesView → Result Cert ℕ
goes state left = run state left.number left.lines

-- A refusal names the first wrong line.
abbrev pub NamesFirstWrong : Result Cert ℕ → TextErr → Type 0
NamesFirstWrong comes (Refused wrong) = comes ≡ Err wrong.line
NamesFirstWrong comes NoMemory = Unit {0}

-- A reader of lines: what was to come comes of what is left.
abbrev pub ReadsLines : {A : Type 0} → State → LinesView → Result A TextErr → (A → State) → LinesView → Type 0
ReadsLines state old (Ok x) next new = goes state old ≡ goes (next x) new
ReadsLines state old (Err e) next new = NamesFirstWrong (goes state old) e

abbrev pub Comes : Result Cert ℕ → Result Cert TextErr → Type 0
Comes comes (Ok cert) = comes ≡ Ok cert
Comes comes (Err e) = NamesFirstWrong comes e

-- The refusal of a line, by its number.
abbrev pub refusal_at : ℕ → LineErr → TextErr
refusal_at number Wrong = Refused (record { line = number })
refusal_at number Memory = NoMemory

-- A line in front, with a newline after it.
pub record TakesLine (old : LinesView) (line : List ℕ) (new : LinesView) : Type 0 where
  pub lines : old.lines ≡ line ∷ new.lines
  pub some : new.lines ≡ [] → ⊥
  pub number : new.number ≡ old.number + 1

-- There is none, and the refusal names the line.
pub record TakesNoLine (old : LinesView) (e : TextErr) : Type 0 where
  pub piece : List ℕ
  pub lines : old.lines ≡ piece ∷ []
  pub is : e ≡ refusal_at old.number Wrong

-- What one more line leads to, or the last one.
abbrev pub next_state : Form → Head → List Entry → Option Entry → State
next_state form head entries None = all (cert_with form head entries)
next_state form head entries (Some entry) = within form head (entries ++ entry ∷ [])

-- A reader of the next place up to the mark, or of the mark.
abbrev pub IsNextBefore : List Place → Result (Option Place) LineErr → Option (List Place × List (List ℕ))
    → List (List ℕ) → Type 0
IsNextBefore done (Ok None) read left = read ≡ Some (done, left)
IsNextBefore done (Ok (Some place)) read left = read ≡ places_before (done ++ place ∷ []) left
IsNextBefore done (Err e) read left = Fails e read

-- A reader of the next place up to the end.
abbrev pub IsNextToEnd : List Place → Result (Option Place) LineErr → Option (List Place) → List (List ℕ) → Type 0
IsNextToEnd done (Ok None) read left = read ≡ Some done
IsNextToEnd done (Ok (Some place)) read left = read ≡ places_to_end (done ++ place ∷ []) left
IsNextToEnd done (Err e) read left = Fails e read

-- A reader of the next literal, or of 0, which closes a clause.
abbrev pub IsNextLiteral : List (List ℤ) → List ℤ → Result (Option ℤ) LineErr → Option (List (List ℤ))
    → List (List ℕ) → Type 0
IsNextLiteral clauses literals (Ok None) read left = read ≡ log_end clauses literals
IsNextLiteral clauses literals (Ok (Some l)) read left =
    read ≡ cond (is_end l) (log_from (clauses ++ literals ∷ []) [] left) (log_from clauses (literals ++ l ∷ []) left)
IsNextLiteral clauses literals (Err e) read left = Fails e read
