-- What the functions that read do with the words that are left.
use Rattle.std.specs.Prelude.{◌≡◌, ◌≢◌, ◌<◌, ℕ, Bool, false, List, [], ◌∷◌, length, Option, Some, None, Result, Ok, Err}
use Rattle.recording_reader.specs.Bytes.{are_values, rest_of}
use Rattle.recording_reader.specs.Declarations.{Declarations, name, with_variable}
use Rattle.recording_reader.specs.Changes.{Body, start}
use Rattle.recording_reader.specs.Machine.{State, Next, needs, run, then_run}
use Rattle.recording_reader.specs.Machine.State.{body, declaring, definitions_end, var_code, var_end, var_range}
use Rattle.recording_reader.specs.Machine.State.{var_reference, var_width, vector}
use Rattle.recording_reader.specs.Naming.{shown_name}
use Rattle.recording_reader.specs.Recording.{Recording}
use Rattle.recording_reader.specs.Words.{Left, Word, word}
use Rattle.recording_reader.specs.declared.ranges.RecordedName.{RecordedName}
use Rattle.recording_reader.specs.declared.refusal.VcdErr.{VcdErr}
use Rattle.recording_reader.specs.declared.refusal.VcdErr.TheVariants.{Memory, Truncated}
use denote.Ref.{Bor}

-- these words, with one in front
abbrev pub before : ℕ → List ℕ → Left → Left
before at text left = record { words = word at text ∷ left.words; stop = left.stop }

-- The next word is taken, or there is none.
abbrev pub Takes : Left → Option (ℕ × Bor (List ℕ)) → Left → Type 0
Takes old (Some r) new = old ≡ before r.0 r.1.now new
Takes old None new = (old.words ≡ []) × (new ≡ old)

-- The next word is taken, or the text is cut short.
abbrev pub Needs : Left → Result (ℕ × Bor (List ℕ)) VcdErr → Left → Type 0
Needs old (Ok r) new = old ≡ before r.0 r.1.now new
Needs old (Err e) new = (old.words ≡ []) × (e ≡ Truncated old.stop)

-- what the words that are left say, from this state on
abbrev pub goes : State → Left → Result Recording VcdErr
goes s left = run s left.words left.stop

abbrev pub goes_on : Next → Left → Result Recording VcdErr
goes_on next left = then_run next (λ s. goes s left)

-- A fault other than out of memory is that of the words.
abbrev pub RefusesRecording : Result Recording VcdErr → VcdErr → Type 0
RefusesRecording r e = e ≢ Memory → r ≡ Err e

-- From this state the words were read up to the next one, or refused.
abbrev pub ReadsWords : {X : Type 0} → State → Left → Result X VcdErr → (X → State) → Left → Type 0
ReadsWords s old (Ok x) next new = goes s old ≡ goes (next x) new
ReadsWords s old (Err e) next new = RefusesRecording (goes s old) e

-- the same from where a word led
abbrev pub ReadsOn : {X : Type 0} → Next → Left → Result X VcdErr → (X → State) → Left → Type 0
ReadsOn s old (Ok x) next new = goes_on s old ≡ goes (next x) new
ReadsOn s old (Err e) next new = RefusesRecording (goes_on s old) e

-- A declaration was read, after which this is declared.
abbrev pub ReadsOne : State → Left → Result Unit VcdErr → Declarations → Left → Type 0
ReadsOne s old result after new = ReadsWords s old result (λ _. declaring after) new

-- A code was read, after which this is declared.
abbrev pub ReadsCode : Declarations → ℕ → Bool → ℕ → Left → Result ℕ VcdErr → Declarations → Left → Type 0
ReadsCode before var skipped width old result after new =
    ReadsWords (var_code before var skipped width) old result (λ number. var_reference after skipped number width) new

-- In any declarations, their end is read, or refused.
abbrev pub ReadsEnd : Left → Result Unit VcdErr → Left → Type 0
ReadsEnd old result new = (h : Declarations) → ReadsWords (definitions_end h) old result (λ _. body (start h) false) new

-- In any declarations, the width of a variable is read, or refused.
abbrev pub ReadsWidth : Left → Result ℕ VcdErr → Left → Type 0
ReadsWidth old result new =
    (h : Declarations) (var : ℕ) (skipped : Bool)
    → ReadsWords (var_width h var skipped) old result (λ width. var_code h var skipped width) new

-- So is its name, with which the variable is declared.
abbrev pub ReadsName : Left → Result RecordedName VcdErr → Left → Type 0
ReadsName old result new =
    (h : Declarations) (skipped : Bool) (number width : ℕ)
    → ReadsWords (var_reference h skipped number width) old result
    (λ n. declaring (with_variable h skipped number width (shown_name n))) new

-- In its name, the reference is read, or refused.
abbrev pub ReadsReference : Left → Result (Bor (List ℕ)) VcdErr → Left → Type 0
ReadsReference old result new =
    (h : Declarations) (skipped : Bool) (number width : ℕ)
    → ReadsWords (var_reference h skipped number width) old result (λ t. var_range h skipped number width t.now) new

-- After a range in a word of its own, the end of the variable is read, or refused.
abbrev pub ReadsVariableEnd : Left → Result Unit VcdErr → Left → Type 0
ReadsVariableEnd old result new =
    (h : Declarations) (skipped : Bool) (number width : ℕ) (reference : List ℕ) (range : ℕ × ℕ)
    → ReadsWords (var_end h skipped number width reference range) old result
    (λ _. declaring (with_variable h skipped number width (name reference (Some range) false))) new

-- Digits were read, whose word this is, and with the code in the next one they changed the body, in a dump or outside.
abbrev pub ReadsVector : Word → Body → Left → Result Unit VcdErr → Body → Left → Type 0
ReadsVector t before old result after new =
    (dump : Bool)
    → ReadsOn (needs (are_values (rest_of t.text)) t (vector before dump t.at (rest_of t.text))) old result
    (λ _. body after dump) new

-- On Ok fewer words are left.
abbrev pub Shortens : {X : Type 0} → Left → Result X VcdErr → Left → Type 0
Shortens old (Ok x) new = length new.words < length old.words
Shortens old (Err e) new = Unit {0}

-- Done, or there was no memory.
abbrev pub Does : {X : Type 0} → Result X VcdErr → Type 0 → Type 0
Does (Ok x) p = p
Does (Err e) p = e ≡ Memory

-- The answer is what the words say, or out of memory.
abbrev pub Answers : Result Recording VcdErr → Result Recording VcdErr → Type 0
Answers (Ok r) said = said ≡ Ok r
Answers (Err e) said = RefusesRecording said e

-- A change of the body gave this one, or its fault.
abbrev pub Gives : {X : Type 0} → Result X VcdErr → Body → Result Body VcdErr → Type 0
Gives (Ok x) new said = said ≡ Ok new
Gives (Err e) new said = e ≢ Memory → said ≡ Err e
