-- What a text says and its first fault, by runs of the machine that defines the grammar.
use Rattle.std.specs.Prelude.{◌≡◌, ℕ, List, [], ◌∷◌, ◌++◌, length, Result, Ok, Err, MatchResult}
use Rattle.recording_reader.specs.Declarations.{nothing}
use Rattle.recording_reader.specs.Machine.{State, Next, step, finish, run}
use Rattle.recording_reader.specs.Machine.State.{declaring}
use Rattle.recording_reader.specs.Recording.{Recording}
use Rattle.recording_reader.specs.Words.{Word, words_of}
use Rattle.recording_reader.specs.declared.refusal.VcdErr.{VcdErr}
use Rattle.recording_reader.specs.declared.refusal.VcdErr.TheVariants.{Memory}

-- At the beginning nothing is declared.
abbrev pub beginning : State
beginning = declaring nothing

-- The whole text says this recording.
abbrev pub Says : List ℕ → Recording → Type 0
Says text r = run beginning (words_of text) (length text) ≡ Ok r

-- A text that says a recording is read, or refused only when out of memory.
abbrev pub IsRead : List ℕ → Result Recording VcdErr → Type 0
IsRead text result =
    (r : Recording) → Says text r → MatchResult result (λ recording. recording ≡ r) (λ refusal. refusal ≡ Memory)

abbrev pub reach_on : Next → (State → Next) → Next
reach_on (Ok s) next = next s
reach_on (Err e) next = Err e

-- The state that words lead to, where none of them is refused.
abbrev pub reach : State → List Word → Next
reach s [] = Ok s
reach s (t ∷ ts) = reach_on (step s t) (λ next. reach next ts)

-- A state refuses the word that stands there, or the end of the text, with this fault.
abbrev pub stops : State → List Word → ℕ → VcdErr → Type 0
stops s [] stop e = finish s stop ≡ Err e
stops s (t ∷ ts) stop e = step s t ≡ Err e

-- The words before are read without a fault, and what stands there then is refused with this one.
pub record FirstFault (text : List ℕ) (e : VcdErr) : Type 0 where
  pub front : List Word
  pub rest : List Word
  pub split : words_of text ≡ front ++ rest
  pub state : State
  pub reached : reach beginning front ≡ Ok state
  pub stopped : stops state rest (length text) e
