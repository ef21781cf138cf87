-- What is declared: scopes, codes and variables.
use Rattle.std.specs.Prelude.{◌≡◌, ℕ, ◌-◌, List, [], ◌∷◌, ◌++◌, length, take, drop, Bool, true, false, cond, ◌==◌}
use Rattle.std.specs.Prelude.{Option, Some, None, slice_index, slice_get}
use Rattle.recording_reader.specs.Bytes.{range_of, last_bracket}
use Rattle.recording_codes.specs.Code.{Code, code, with_kind_at}
use Rattle.recording_reader.specs.Recording.{Path, path_at, paths_of}
use Rattle.recording_reader.specs.declared.variable.Scope.{Scope}
use Rattle.recording_reader.specs.declared.variable.Variable.{Variable}

-- What is declared so far; the scopes that are entered and not left stand innermost last, and each variable has the
-- number of its code.
pub record Declarations : Type 0 where
  pub timescale : Option (List ℕ)
  pub scopes : List Path
  pub entered : List ℕ
  pub codes : List Code
  pub variables : List Variable
  pub numbers : List ℕ

-- the same by the scopes as they are stored
abbrev pub seen_of : Option (List ℕ) → List Scope → List ℕ → List Code → List Variable → List ℕ → Declarations
seen_of timescale scopes entered codes variables numbers = record {
  timescale = timescale;
  scopes = paths_of scopes;
  entered = entered;
  codes = codes;
  variables = variables;
  numbers = numbers;
}

-- Nothing is declared, and there is the place outside every scope.
abbrev pub nothing : Declarations
nothing = record { timescale = None; scopes = [] ∷ []; entered = []; codes = []; variables = []; numbers = [] }

-- The scope that declarations are in: the innermost one, or the place outside every scope.
abbrev pub scope_of : Declarations → ℕ
scope_of h = slice_index h.entered (length h.entered - 1)

-- the names of the scopes that are open, the innermost last
abbrev pub open_path : Declarations → Path
open_path h = path_at h.scopes (scope_of h)

abbrev pub with_scale : Declarations → List ℕ → Declarations
with_scale h scale = record h { timescale = Some scale }

-- `$scope`: a scope of this name within the present one is entered.
abbrev pub with_scope : Declarations → List ℕ → Declarations
with_scope h name = record h {
  scopes = h.scopes ++ (path_at h.scopes (scope_of h) ++ name ∷ [])
      ∷ [];
  entered = h.entered ++ length h.scopes ∷ [];
}

-- `$upscope`: the present scope is left.
abbrev pub left_scope : Declarations → Declarations
left_scope h = record h { entered = take (length h.entered - 1) h.entered }

-- A code takes the next number; it is of one variable.
abbrev pub with_code : Declarations → List ℕ → ℕ → Bool → Declarations
with_code h text width skipped = record h { codes = h.codes ++ code text width skipped ∷ [] }

-- One more variable of the code with this number.
abbrev pub with_kind : Declarations → ℕ → Bool → Declarations
with_kind h number skipped = record h { codes = with_kind_at h.codes number skipped }

-- The name of a variable: its reference as recorded, its range, and whether that stands directly after the reference.
pub record RecordedName : Type 0 where
  pub reference : List ℕ
  pub range : Option (ℕ × ℕ)
  pub direct : Bool

abbrev pub name : List ℕ → Option (ℕ × ℕ) → Bool → RecordedName
name reference range direct = record { reference = reference; range = range; direct = direct }

-- A range directly after a reference begins at the last `[`, which isn't the first byte. The reference as recorded has
-- it too. What is no range belongs to the reference alone.
abbrev pub name_at : Option (ℕ × ℕ) → ℕ → List ℕ → RecordedName
name_at None k t = name t None false
name_at (Some range) k t = cond (k == 0) (name t None false) (name t (Some range) true)

-- The name that one word gives.
abbrev pub recorded_name : List ℕ → RecordedName
recorded_name t = name_at (range_of (drop (last_bracket t) t)) (last_bracket t) t

abbrev pub variable : ℕ → RecordedName → ℕ → Variable
variable scope n width =
    record { scope = scope; reference = n.reference; range = n.range; direct = n.direct; width = width }

-- A variable after the others, and the number of its code.
abbrev pub with_listed : Declarations → Variable → ℕ → Declarations
with_listed h v number = record h { variables = h.variables ++ v ∷ []; numbers = h.numbers ++ number ∷ [] }

-- `$var`: a variable that isn't skipped by its kind is listed.
abbrev pub with_variable : Declarations → Bool → ℕ → ℕ → RecordedName → Declarations
with_variable h skipped number width n =
    cond skipped h (with_listed h (variable (scope_of h) n width) number)

-- A variable that is listed after those of the old declarations stands in the innermost scope that was open.
abbrev pub StandsInnermost : Declarations → Declarations → Type 0
StandsInnermost old new = (v : Variable) → slice_get new.variables (length old.variables) ≡ Some v
    → path_at new.scopes v.scope ≡ open_path old

-- After `$upscope` the scope is open that was so where the one that is left was entered.
abbrev pub Returns : Declarations → Declarations → Type 0
Returns old new =
    (outer : Declarations) (scope : ℕ) → old.entered ≡ outer.entered ++ scope ∷ [] → scope_of new ≡ scope_of outer
