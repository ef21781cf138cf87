-- The codes of the variables that a text declares (IEEE 1364-2005, clause 18).
use Rattle.std.specs.Prelude.{◌≡◌, ℕ, Bool, true, false, ◌||◌, List, [], ◌∷◌, bytes_eq}
use Rattle.recording_reader.specs.Bytes.{is_skipped}
use Rattle.base_scan.specs.Numbers.{number_from}
use Rattle.recording_reader.specs.Kinds.{kind_of}
use Rattle.recording_reader.specs.Scopes.{IsEnd, IsOfKind, RangeEnd, UntilEnd, is_aside}
use Rattle.recording_reader.specs.Words.{Word}
use Rattle.recording_reader.specs.declared.kinds.Kind.TheVariants as kind

-- A variable that is listed, by its code and its width.
pub record CodedVariable : Type 0 where
  pub code : List ℕ
  pub width : ℕ

abbrev pub coded : List ℕ → ℕ → CodedVariable
coded code width = record { code = code; width = width }

-- some variable has this code
abbrev pub has_code : List CodedVariable → List ℕ → Bool
has_code [] code = false
has_code (v ∷ vs) code = bytes_eq code v.code || has_code vs code

-- The words of declarations up to `$enddefinitions $end`; the variables among them but those that are skipped by their
-- kind, in the order of the text; and the words after.
pub data DeclaresCodes : List Word → List CodedVariable → List Word → Type 0 where
  -- "$scope" kind name "$end"
  scope : {word own name end : Word} {words rest : List Word} {vs : List CodedVariable}
      → IsOfKind word kind.Scope → IsEnd end
      → DeclaresCodes words vs rest → DeclaresCodes (word ∷ own ∷ name ∷ end ∷ words) vs rest
  -- "$upscope" "$end"
  upscope : {word end : Word} {words rest : List Word} {vs : List CodedVariable}
      → IsOfKind word kind.Upscope → IsEnd end
      → DeclaresCodes words vs rest → DeclaresCodes (word ∷ end ∷ words) vs rest
  -- "$var" kind width code reference [ range ] "$end"
  listed : {word own width code reference : Word} {words mid rest : List Word} {vs : List CodedVariable}
      → IsOfKind word kind.Var → is_skipped own.text ≡ false → RangeEnd words mid → DeclaresCodes mid vs rest
      → DeclaresCodes (word ∷ own ∷ width ∷ code ∷ reference ∷ words)
      (coded code.text (number_from 0 width.text) ∷ vs) rest
  skipped : {word own width code reference : Word} {words mid rest : List Word} {vs : List CodedVariable}
      → IsOfKind word kind.Var → is_skipped own.text ≡ true → RangeEnd words mid → DeclaresCodes mid vs rest
      → DeclaresCodes (word ∷ own ∷ width ∷ code ∷ reference ∷ words) vs rest
  -- "$timescale", "$date", "$version" or "$comment", words, and the first "$end"
  aside : {word : Word} {words mid rest : List Word} {vs : List CodedVariable}
      → is_aside (kind_of word.text) ≡ true → UntilEnd words mid
      → DeclaresCodes mid vs rest → DeclaresCodes (word ∷ words) vs rest
  -- "$enddefinitions" "$end"
  definitions : {word end : Word} {words : List Word} → IsOfKind word kind.Definitions → IsEnd end
      → DeclaresCodes (word ∷ end ∷ words) [] words
