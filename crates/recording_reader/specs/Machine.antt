-- The grammar of recordings (IEEE 1364-2005, clause 18), defined by a machine that reads word by word: a text is of the
-- grammar where the machine reads it to its end, and no other relation defines it. A state has what was read so far,
-- and says what may stand next.
use Rattle.std.specs.Prelude.{ℕ, List, [], ◌∷◌, ◌++◌, length, Bool, true, false, cond, ◌==◌, ◌&&◌, nat_le, nat_lt}
use Rattle.std.specs.Prelude.{Option, Some, None, Result, Ok, Err}
use Rattle.recording_reader.specs.Bytes.{is_end, is_code, are_values, time_of, range_of, is_power, is_unit, is_scale}
use Rattle.recording_reader.specs.Bytes.{is_skipped, rest_of}
use Rattle.base_scan.specs.Numbers.{number_from}
use Rattle.base_scan.specs.Bytes.{are_digits}
use Rattle.recording_reader.specs.Changes.{Body, start, time_on, scalar_in, vector_in, real_in, recording_of}
use Rattle.recording_codes.specs.Code.{find}
use Rattle.recording_reader.specs.Declarations.{Declarations, name, recorded_name, with_scale, with_scope, left_scope}
use Rattle.recording_reader.specs.Declarations.{with_code, with_kind, with_variable}
use Rattle.recording_reader.specs.Kinds.{kind_of}
use Rattle.recording_reader.specs.Recording.{Recording}
use Rattle.recording_reader.specs.Words.{Word}
use Rattle.recording_codes.specs.declared.codes.Found.{Found}
use Rattle.recording_reader.specs.declared.kinds.Kind.{Kind}
use Rattle.recording_reader.specs.declared.kinds.Kind.TheVariants as kind
use Rattle.recording_reader.specs.declared.refusal.VcdErr.{VcdErr}
use Rattle.recording_reader.specs.declared.refusal.VcdErr.TheVariants.{Syntax, Width, DumpOff, Truncated}

-- Where the reading stands: before a declaration or in one, then before a change or in one. `Bool` in the states of a
-- variable says that it is skipped, and after the declarations that a dump is open.
pub data State : Type 0 where
  declaring : Declarations → State
  note : Declarations → State
  scale : Declarations → State
  scale_unit : Declarations → List ℕ → State
  scale_end : Declarations → List ℕ → State
  scope_kind : Declarations → State
  scope_name : Declarations → State
  scope_end : Declarations → List ℕ → State
  upscope_end : Declarations → State
  var_kind : Declarations → ℕ → State
  var_width : Declarations → ℕ → Bool → State
  var_code : Declarations → ℕ → Bool → ℕ → State
  var_reference : Declarations → Bool → ℕ → ℕ → State
  var_range : Declarations → Bool → ℕ → ℕ → List ℕ → State
  var_end : Declarations → Bool → ℕ → ℕ → List ℕ → ℕ × ℕ → State
  definitions_end : Declarations → State
  body : Body → Bool → State
  body_note : Body → State
  vector : Body → Bool → ℕ → List ℕ → State
  real : Body → Bool → ℕ → State

abbrev pub Next : Type 0
Next = Result State VcdErr

-- A test that the word has to pass.
abbrev pub needs : Bool → Word → State → Next
needs test t s = cond test (Ok s) (Err (Syntax t.at))

-- A word that may be any but `$end`.
abbrev pub but_end : Word → State → Next
but_end t s = cond (is_end t.text) (Err (Syntax t.at)) (Ok s)

-- A scope is left where there is one.
abbrev pub upscope_on : Declarations → ℕ → Next
upscope_on h at = cond (nat_lt 0 (length h.entered)) (Ok (upscope_end (left_scope h))) (Err (Syntax at))

-- Before a declaration.
abbrev pub declaration_on : Kind → Declarations → ℕ → Next
declaration_on kind.Note h at = Ok (note h)
declaration_on kind.Comment h at = Ok (note h)
declaration_on kind.Timescale h at = Ok (scale h)
declaration_on kind.Scope h at = Ok (scope_kind h)
declaration_on kind.Upscope h at = upscope_on h at
declaration_on kind.Var h at = Ok (var_kind h at)
declaration_on kind.Definitions h at = Ok (definitions_end h)
declaration_on _ h at = Err (Syntax at)

-- 1, 10 or 100, and a unit in the same word or the next.
abbrev pub scale_on : Declarations → Word → Next
scale_on h t = cond (is_scale t.text) (Ok (scale_end h t.text)) (needs (is_power t.text) t (scale_unit h t.text))

-- A width is 1 to 2^20.
abbrev pub is_width : ℕ → Bool
is_width width = nat_le 1 width && nat_le width 1048576

abbrev pub width_on : Declarations → ℕ → Bool → Word → Next
width_on h var skipped t =
    cond (are_digits t.text)
    (cond (is_width (number_from 0 t.text)) (Ok (var_code h var skipped (number_from 0 t.text))) (Err (Width t.at)))
    (Err (Syntax t.at))

-- A code has one width: the second is refused at its `$var`. Whichever of its variables came first, some is skipped or
-- none.
abbrev pub code_on : Option Found → Declarations → ℕ → Bool → ℕ → List ℕ → Next
code_on None h var skipped width t = Ok (var_reference (with_code h t width skipped) skipped (length h.codes) width)
code_on (Some found) h var skipped width t = cond (found.width == width)
    (Ok (var_reference (with_kind h found.number skipped) skipped found.number width)) (Err (Width var))

abbrev pub range_on : Option (ℕ × ℕ) → Declarations → Bool → ℕ → ℕ → List ℕ → ℕ → Next
range_on None h skipped number width reference at = Err (Syntax at)
range_on (Some range) h skipped number width reference at = Ok (var_end h skipped number width reference range)

-- After the reference: `$end`, or a range in a word of its own.
abbrev pub behind_on : Declarations → Bool → ℕ → ℕ → List ℕ → Word → Next
behind_on h skipped number width reference t =
    cond (is_end t.text) (Ok (declaring (with_variable h skipped number width (recorded_name reference))))
    (range_on (range_of t.text) h skipped number width reference t.at)

abbrev pub to_body : Bool → Result Body VcdErr → Next
to_body dump (Ok b) = Ok (body b dump)
to_body dump (Err e) = Err e

-- Before a change. In a dump stand changes alone.
abbrev pub body_on : Kind → Body → Bool → Word → Next
body_on kind.Scalar b dump t = to_body dump (scalar_in b t)
body_on kind.Vector b dump t = needs (are_values (rest_of t.text)) t (vector b dump t.at (rest_of t.text))
body_on kind.Real b dump t = Ok (real b dump t.at)
body_on kind.Time b dump t = cond dump (Err (Syntax t.at)) (to_body dump (time_on (time_of (rest_of t.text)) b t.at))
body_on kind.Comment b dump t = cond dump (Err (Syntax t.at)) (Ok (body_note b))
body_on kind.Dump b dump t = cond dump (Err (Syntax t.at)) (Ok (body b true))
body_on kind.End b dump t = cond dump (Ok (body b false)) (Err (Syntax t.at))
body_on kind.Off b dump t = Err (DumpOff t.at)
body_on _ b dump t = Err (Syntax t.at)

-- One word.
abbrev pub step : State → Word → Next
step (declaring h) t = declaration_on (kind_of t.text) h t.at
step (note h) t = Ok (cond (is_end t.text) (declaring h) (note h))
step (scale h) t = scale_on h t
step (scale_unit h power) t = needs (is_unit t.text) t (scale_end h (power ++ t.text))
step (scale_end h text) t = needs (is_end t.text) t (declaring (with_scale h text))
step (scope_kind h) t = Ok (scope_name h)
step (scope_name h) t = but_end t (scope_end h t.text)
step (scope_end h name) t = needs (is_end t.text) t (declaring (with_scope h name))
step (upscope_end h) t = needs (is_end t.text) t (declaring h)
step (var_kind h var) t = Ok (var_width h var (is_skipped t.text))
step (var_width h var skipped) t = width_on h var skipped t
step (var_code h var skipped width) t =
    cond (is_code t.text) (code_on (find h.codes t.text) h var skipped width t.text) (Err (Syntax t.at))
step (var_reference h skipped number width) t = but_end t (var_range h skipped number width t.text)
step (var_range h skipped number width reference) t = behind_on h skipped number width reference t
step (var_end h skipped number width reference range) t =
    needs (is_end t.text) t (declaring (with_variable h skipped number width (name reference (Some range) false)))
step (definitions_end h) t = needs (is_end t.text) t (body (start h) false)
step (body b dump) t = body_on (kind_of t.text) b dump t
step (body_note b) t = Ok (cond (is_end t.text) (body b false) (body_note b))
step (vector b dump at digits) t = to_body dump (vector_in b at digits t)
step (real b dump at) t = to_body dump (real_in b at t)

-- The text may end before a change that is in no dump; elsewhere more must come.
abbrev pub finish : State → ℕ → Result Recording VcdErr
finish (body b false) stop = Ok (recording_of b)
finish _ stop = Err (Truncated stop)

abbrev pub then_run : Next → (State → Result Recording VcdErr) → Result Recording VcdErr
then_run (Ok s) next = next s
then_run (Err e) next = Err e

-- The words of a text, from this state on, and the text's length.
abbrev pub run : State → List Word → ℕ → Result Recording VcdErr
run s [] stop = finish s stop
run s (t ∷ ts) stop = then_run (step s t) (λ next. run next ts stop)
