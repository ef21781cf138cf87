-- What the bytes of a waveform say.
use Rattle.std.specs.Prelude.{◌≡◌, ℕ, ◌+◌, ◌-◌, ◌*◌, ◌<◌, ◌++◌, ◌∷◌, [], Option, List, length, map}
use Rattle.design_circuit.specs.Circuit.{job_in}
use Rattle.design_circuit.specs.Job.{Job, step_of}
use Rattle.design_circuit.specs.Waveform.{certain, certain_by}
use Rattle.design_circuit.specs.declared.circuit.Circuit.{Circuit}
use Rattle.design_circuit.specs.declared.waveform.Written.{Written}
use Rattle.law_model.specs.Class.{before, class_of}
use Rattle.law_model.specs.declared.class.ClassByNumber.{ClassByNumber}
use Rattle.law_quiet.specs.OfClass.{AgreeBefore, AllKeep, AreFacts, Facts, facts_by}
use Rattle.wave_bytes.specs.Byte.{facts_in, written_of_byte}
use Rattle.wave_bytes.specs.Roots.{HasRoot}
use Rattle.wave_bytes.specs.Rows.{RowsView}
use Rattle.wave_bytes.specs.View.{next_class}

-- What the byte of the next place is to say.
abbrev pub facts_next : Job → List ℕ → Written → Facts
facts_next j bytes written =
    facts_by (step_of j (length bytes)) (before j (length bytes))
    (class_of j (certain (map written_of_byte bytes)) (length bytes)) (certain_by written.mark written.value)
    (certain (map written_of_byte bytes) (before j (length bytes)))

-- Bytes say the facts of their places.
abbrev pub BytesTell : Job → List ℕ → Type 0
BytesTell j bytes = AreFacts j (certain (map written_of_byte bytes)) (facts_in bytes) (length bytes)

-- The certain values of a waveform agree with its classes.
abbrev pub ValuesAgree : Job → List Written → Type 0
ValuesAgree j written = AgreeBefore j (certain written) (length written)

-- Bytes say of the places of others what those say.
abbrev pub SayTheSame : List ℕ → List ℕ → Type 0
SayTheSame others bytes = (k : ℕ) → k < length others → facts_in bytes k ≡ facts_in others k

-- Of the places of the step that goes on at a position the last ones up to a number keep.
abbrev pub StepKeeps : List ℕ → ℕ → ℕ → Type 0
StepKeeps bytes position end = AllKeep (facts_in bytes) (length bytes - position) end

-- The bytes of a waveform do both.
pub record AreTrueBytes (circuit : Circuit) (bytes : List ℕ) : Type 0 where
  pub told : BytesTell (job_in circuit) bytes
  pub agrees : ValuesAgree (job_in circuit) (map written_of_byte bytes)

-- The class of the next place.
abbrev pub IsNextClass : Circuit → List ℕ → Option ClassByNumber → Type 0
IsNextClass circuit bytes next = next ≡ next_class (job_in circuit) (map written_of_byte bytes)

-- Rows are as wide as a step of the job, with room for all steps, and their positions copy what drivers copy.
pub record AreRowsOf (j : Job) (rows : RowsView) : Type 0 where
  pub width : rows.width ≡ j.width
  pub steps : rows.steps ≡ j.moments * j.rounds
  pub roots : (position : ℕ) → position < j.width → HasRoot j rows.roots position

-- Bytes are others with the byte of a place behind, which says what is written there, and they are kept as those were.
pub record IsWrittenBehind (j : Job) (old new : List ℕ) (written : Written) : Type 0 where
  pub says : map written_of_byte new ≡ map written_of_byte old ++ written ∷ []
  pub told : BytesTell j new
  pub agrees : ValuesAgree j (map written_of_byte new)
  pub more : length new ≡ length old + 1
  pub same : SayTheSame old new
