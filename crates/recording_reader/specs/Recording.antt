-- A recording: what a text says.
use Rattle.std.specs.Prelude.{◌≡◌, ℕ, ◌-◌, ◌<◌, ◌≤◌, ◌^◌, List, [], ◌∷◌, ◌++◌, length, Option, Some, None, map}
use Rattle.std.specs.Prelude.{slice_get, slice_index_or, All}
use Rattle.std.specs.List.Sorted.{IsStrictlyIncreasing}
use Rattle.design_cell.specs.declared.value.Value.{Value}
use Rattle.recording_changes.specs.Held.{Change, History, bit_value, track_of}
use Rattle.recording_changes.specs.Last.{IsLastValue}
use Rattle.recording_reader.specs.declared.variable.Variable.{Variable}
use Rattle.recording_reader.specs.declared.variable.Scope.{Scope}

-- The names of scopes, from the top.
abbrev pub Path : Type 0
Path = List (List ℕ)

-- The path of a scope; number 0 is the place outside every scope.
abbrev pub path_at : List Path → ℕ → Path
path_at paths scope = slice_index_or paths scope []

-- What a text says: its timescale, the path of each scope, the variables that aren't skipped, the time of each moment,
-- and for each variable the changes of its code, all in the order of the text.
pub record Recording : Type 0 where
  pub timescale : Option (List ℕ)
  pub scopes : List Path
  pub variables : List Variable
  pub times : List ℕ
  pub changes : List (List Change)

abbrev pub width_of : Option Variable → ℕ
width_of None = 0
width_of (Some variable) = variable.width

-- the width of the variable with this number
abbrev pub width_at : Recording → ℕ → ℕ
width_at r variable = width_of (slice_get r.variables variable)

-- The value of a bit of a variable, counted from the left, in a moment.
abbrev pub value_at : Recording → ℕ → ℕ → ℕ → Value
value_at r variable bit moment = bit_value (slice_index_or r.changes variable []) (width_at r variable) bit moment

-- The value of a bit in a moment is that of the last change in it or before, and x before any change.
abbrev pub IsValueAt : Recording → ℕ → ℕ → ℕ → Value → Type 0
IsValueAt r variable bit moment value =
    IsLastValue (slice_index_or r.changes variable []) (width_at r variable) bit moment value

-- A variable stands in one of a given number of scopes, and its width is 1 to 2^20.
pub record IsVariable (scopes : ℕ) (v : Variable) : Type 0 where
  pub known : v.scope < scopes
  pub some : 1 ≤ v.width
  pub wide : v.width ≤ 2 ^ 20

-- What each recording is: it has a moment, its times ascend strictly, each variable stands in one of its scopes with a
-- width of 1 to 2^20, and there is a list of changes for each. There are fewer than 2^28 scopes, variables and moments.
pub record IsRecording (r : Recording) : Type 0 where
  pub moment : 0 < length r.times
  pub ascending : IsStrictlyIncreasing r.times
  pub variables : All (IsVariable (length r.scopes)) r.variables
  pub changes : length r.changes ≡ length r.variables
  pub few_scopes : length r.scopes < 2 ^ 28
  pub few_variables : length r.variables < 2 ^ 28
  pub few_moments : length r.times < 2 ^ 28

-- The paths of scopes, each with its parent and its name, after those of the scopes before them.
abbrev pub paths_from : List Path → List Scope → List Path
paths_from paths [] = paths
paths_from paths (s ∷ ss) = paths_from (paths ++ (path_at paths s.parent ++ s.name ∷ []) ∷ []) ss

abbrev pub paths_of : List Scope → List Path
paths_of ss = paths_from ([] ∷ []) ss

-- What is seen of a recording's parts: its scopes as they are stored, and the number of each variable's code.
abbrev pub seen_of : Option (List ℕ) → List Scope → List Variable → List ℕ → List ℕ → History → Recording
seen_of timescale scopes variables numbers times stored = record {
  timescale = timescale;
  scopes = paths_of scopes;
  variables = variables;
  times = times;
  changes = map (track_of stored.tracks) numbers;
}

-- The name of a scope: the last of its path.
abbrev pub last_name : Path → List ℕ
last_name path = slice_index_or path (length path - 1) []

-- A scope's path is that of the scope that it is in, and its own name.
abbrev pub IsScopeWithin : List Path → ℕ → ℕ → Type 0
IsScopeWithin paths scope parent = path_at paths scope ≡ path_at paths parent ++ last_name (path_at paths scope) ∷ []
