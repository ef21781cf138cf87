-- In which scopes a text declares its variables (IEEE 1364-2005, clause 18).
use Rattle.std.specs.Prelude.{◌≡◌, ℕ, Bool, true, false, List, [], ◌∷◌, ◌++◌, map, is_some}
use Rattle.recording_reader.specs.Bytes.{is_end, is_skipped, range_of}
use Rattle.recording_reader.specs.Kinds.{kind_of}
use Rattle.recording_reader.specs.Recording.{Path, Recording, path_at}
use Rattle.recording_reader.specs.Words.{Word, words_of}
use Rattle.recording_reader.specs.declared.kinds.Kind.{Kind}
use Rattle.recording_reader.specs.declared.kinds.Kind.TheVariants as kind
use Rattle.recording_reader.specs.declared.variable.Variable.{Variable}

abbrev pub IsOfKind : Word → Kind → Type 0
IsOfKind word k = kind_of word.text ≡ k

abbrev pub IsEnd : Word → Type 0
IsEnd word = is_end word.text ≡ true

-- Declarations that have nothing to do with scopes and variables: `$timescale`, `$date`, `$version` and `$comment`.
abbrev pub is_aside : Kind → Bool
is_aside kind.Timescale = true
is_aside kind.Note = true
is_aside kind.Comment = true
is_aside _ = false

-- words up to the first `$end`, and that one
pub data UntilEnd : List Word → List Word → Type 0 where
  here : {end : Word} {words : List Word} → IsEnd end → UntilEnd (end ∷ words) words
  further : {word : Word} {words rest : List Word} → is_end word.text ≡ false → UntilEnd words rest
      → UntilEnd (word ∷ words) rest

-- [ range ] "$end"
pub data RangeEnd : List Word → List Word → Type 0 where
  none : {end : Word} {words : List Word} → IsEnd end → RangeEnd (end ∷ words) words
  some : {range end : Word} {words : List Word} → is_some (range_of range.text) ≡ true → IsEnd end
      → RangeEnd (range ∷ end ∷ words) words

-- "$var" kind width code reference [ range ] "$end", with this kind
pub data VarOf (own : Word) : List Word → List Word → Type 0 where
  var : {word width code reference : Word} {words rest : List Word} → IsOfKind word kind.Var → RangeEnd words rest
      → VarOf own (word ∷ own ∷ width ∷ code ∷ reference ∷ words) rest

-- The words of declarations up to `$enddefinitions`, where the innermost open scope has this path; and the path of the
-- scope that each variable stands in, but of those that are skipped by their kind.
pub data Declares : Path → List Word → List Path → Type 0 where
  -- `$scope kind name $end`: a scope of this name is open within the one before.
  scope : {path : Path} {word own name end : Word} {words : List Word} {paths : List Path} → IsOfKind word kind.Scope
      → IsEnd end
      → Declares (path ++ name.text ∷ []) words paths → Declares path (word ∷ own ∷ name ∷ end ∷ words) paths
  -- `$upscope $end`: the innermost open scope is left.
  upscope : {path : Path} (name : List ℕ) {word end : Word} {words : List Word} {paths : List Path}
      → IsOfKind word kind.Upscope
      → IsEnd end → Declares path words paths → Declares (path ++ name ∷ []) (word ∷ end ∷ words) paths
  -- A variable stands in the innermost open scope.
  listed : {path : Path} {own : Word} {words rest : List Word} {paths : List Path} → VarOf own words rest
      → is_skipped own.text ≡ false → Declares path rest paths → Declares path words (path ∷ paths)
  skipped : {path : Path} {own : Word} {words rest : List Word} {paths : List Path} → VarOf own words rest
      → is_skipped own.text ≡ true → Declares path rest paths → Declares path words paths
  aside : {path : Path} {word : Word} {words rest : List Word} {paths : List Path} → is_aside (kind_of word.text) ≡ true
      → UntilEnd words rest → Declares path rest paths → Declares path (word ∷ words) paths
  definitions : {path : Path} {word : Word} {words : List Word} → IsOfKind word kind.Definitions
      → Declares path (word ∷ words) []

abbrev pub paths_of_variables : List Path → List Variable → List Path
paths_of_variables scopes variables = map (λ v. path_at scopes v.scope) variables

-- Each variable of the recording stands in the innermost scope that is open where the text declares it: that scope's
-- path is the names of the `$scope` before its `$var` that no `$upscope` before it has left. At the beginning no scope
-- is open.
abbrev pub StandInScopes : List ℕ → Recording → Type 0
StandInScopes text r = Declares [] (words_of text) (paths_of_variables r.scopes r.variables)
