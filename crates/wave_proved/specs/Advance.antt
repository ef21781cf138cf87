-- What the next place gets where its class isn't Line.
use Rattle.std.specs.Prelude.{◌≡◌, ◌++◌, ◌∷◌, [], Err, None, Ok, Result}
use Rattle.design_circuit.specs.declared.waveform.Written.{Written}
use Rattle.design_circuit.specs.Fits.{place_at}
use Rattle.design_circuit.specs.Waveform.{certain_by, written_at}
use Rattle.law_model.specs.Sound.{IsOptimistic}
use Rattle.law_model.specs.Yields.{written_by}
use Rattle.law_model.specs.declared.class.Class.{Class}
use Rattle.law_model.specs.declared.class.Class.TheVariants.{Done, Local, Free, Carried, Line}
use Rattle.wave_proved.specs.declared.advance.AdvanceErr.{AdvanceErr}
use Rattle.wave_proved.specs.declared.advance.AdvanceErr.TheVariants.{Memory as OutOfMemory, Optimistic as Objection}
use Rattle.wave_proved.specs.declared.advance.Optimistic.{Optimistic}
use Rattle.wave_proved.specs.Contents.{Contents, IsWave, class_in, job, next_number, next_seen, shown_in}

-- Its class says what it is.
abbrev pub IsPlain : Class → Type 0
IsPlain Done = ⊥
IsPlain (Local bit) = Unit {0}
IsPlain Free = Unit {0}
IsPlain (Carried from inverted) = Unit {0}
IsPlain Line = ⊥

-- So it is written, without a line.
abbrev pub plain_written : Contents → Written
plain_written c =
    written_by (written_at c.written) (class_in c (next_number c)) None (shown_in c (next_number c))

abbrev pub with_written : Contents → Written → Contents
with_written c written = record c { written = c.written ++ written ∷ [] }

-- What stands there contradicts what the history knows.
abbrev pub Contradicts : Contents → Written → Type 0
Contradicts c written = IsOptimistic written.mark written.value (shown_in c (next_number c))

-- What is reported then: the place, what the history shows there, what is found, x where that isn't certain, and the
-- lines.
pub record Reports (c : Contents) (written : Written) (optimistic : Optimistic) : Type 0 where
  pub place_is : optimistic.place ≡ place_at (job c) (next_number c)
  pub replayed_is : optimistic.replayed ≡ shown_in c (next_number c)
  pub found_is : optimistic.found ≡ certain_by written.mark written.value
  pub lines_are : optimistic.lines.items ≡ c.lines

-- An error is an objection, and is so.
abbrev pub IfObjects : (Optimistic → Type 0) → AdvanceErr → Type 0
IfObjects P (Objection optimistic) = P optimistic
IfObjects P OutOfMemory = Unit {0}

-- The answer is an objection.
abbrev pub Objects : {A : Type 0} → Result A AdvanceErr → Type 0
Objects (Ok wave) = ⊥
Objects (Err (Objection optimistic)) = Unit {0}
Objects (Err OutOfMemory) = ⊥

-- A wave goes on by places whose class says what they are, one by one, none of which contradicts the history.
pub data GoesOn (start : Contents) : Contents → Type 0 where
  stays : GoesOn start start
  more : {c : Contents} → GoesOn start c → IsPlain (next_seen c) → (Contradicts c (plain_written c) → ⊥)
      → GoesOn start (with_written c (plain_written c))

-- It has gone on up to a Line place, or to the end.
pub record IsAdvanced (start c : Contents) : Type 0 where
  pub goes : GoesOn start c
  pub stops : IsPlain (next_seen c) → ⊥

-- It has gone on up to a place that the history knows otherwise.
pub record IsObjected (start : Contents) (optimistic : Optimistic) : Type 0 where
  pub before : Contents
  pub goes : GoesOn start before
  pub wave : IsWave before
  pub plain : IsPlain (next_seen before)
  pub contradicts : Contradicts before (plain_written before)
  pub reports : Reports before (plain_written before) optimistic
