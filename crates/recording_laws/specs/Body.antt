-- What stands after the declarations of a recording: times and changes (IEEE 1364-2005, clause 18). A rule relates
-- the words before it, the words after it and what it says.
use Rattle.std.specs.Prelude.{◌≡◌, ℕ, true, false, Some, List, [], ◌∷◌, ◌++◌}
use Rattle.recording_reader.specs.Bytes.{front_of, rest_of, time_of}
use Rattle.recording_reader.specs.Scopes.{IsOfKind, UntilEnd}
use Rattle.recording_reader.specs.Words.{Word}
use Rattle.recording_reader.specs.declared.kinds.Kind.TheVariants as kind
use Rattle.recording_laws.specs.Codes.{CodedVariable, has_code}

-- A time, or digits that a code takes.
pub data BodyItem : Type 0 where
  at : ℕ → BodyItem
  takes : List ℕ → List ℕ → BodyItem

-- A change. One of a code that only variables of skipped kinds have says nothing.
pub data ChangeOf (vs : List CodedVariable) : List Word → List Word → List BodyItem → Type 0 where
  -- a digit and the code, in one word
  scalar : {word : Word} {words : List Word} → IsOfKind word kind.Scalar → has_code vs (rest_of word.text) ≡ true
      → ChangeOf vs (word ∷ words) words (takes (rest_of word.text) (front_of word.text) ∷ [])
  event : {word : Word} {words : List Word} → IsOfKind word kind.Scalar → has_code vs (rest_of word.text) ≡ false
      → ChangeOf vs (word ∷ words) words []
  -- "b" with digits, and the code
  vector : {word code : Word} {words : List Word} → IsOfKind word kind.Vector
      → ChangeOf vs (word ∷ code ∷ words) words (takes code.text (rest_of word.text) ∷ [])
  -- "r" with a number, and the code
  real : {word code : Word} {words : List Word} → IsOfKind word kind.Real
      → ChangeOf vs (word ∷ code ∷ words) words []

-- { change } "$end"
pub data DumpOf (vs : List CodedVariable) : List Word → List Word → List BodyItem → Type 0 where
  end : {word : Word} {words : List Word} → IsOfKind word kind.End → DumpOf vs (word ∷ words) words []
  more : {words mid rest : List Word} {these those : List BodyItem} → ChangeOf vs words mid these
      → DumpOf vs mid rest those → DumpOf vs words rest (these ++ those)

-- { time | change | note | dump }, up to the end of the text
pub data BodyItems (vs : List CodedVariable) : List Word → List BodyItem → Type 0 where
  none : BodyItems vs [] []
  -- "#" with digits
  time : {word : Word} {words : List Word} {items : List BodyItem} {time : ℕ} → IsOfKind word kind.Time
      → time_of (rest_of word.text) ≡ Some time → BodyItems vs words items
      → BodyItems vs (word ∷ words) (at time ∷ items)
  change : {words rest : List Word} {these those : List BodyItem} → ChangeOf vs words rest these
      → BodyItems vs rest those → BodyItems vs words (these ++ those)
  -- "$comment", words, and the first "$end"
  note : {word : Word} {words rest : List Word} {items : List BodyItem} → IsOfKind word kind.Comment
      → UntilEnd words rest → BodyItems vs rest items → BodyItems vs (word ∷ words) items
  -- "$dumpvars" or "$dumpall", changes, and "$end"
  dump : {word : Word} {words rest : List Word} {these those : List BodyItem} → IsOfKind word kind.Dump
      → DumpOf vs words rest these → BodyItems vs rest those → BodyItems vs (word ∷ words) (these ++ those)
