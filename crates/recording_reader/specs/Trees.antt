-- How scopes are stored, and how many scopes, variables and moments there are.
use Rattle.std.specs.Prelude.{◌≡◌, ℕ, ◌+◌, ◌^◌, ◌<◌, ◌≤◌, List, length, slice_index_or, All}
use Rattle.std.specs.List.Sorted.{IsStrictlyIncreasing}
use Rattle.recording_reader.specs.Recording.{IsVariable}
use Rattle.recording_reader.specs.declared.variable.Scope.{Scope}
use Rattle.recording_reader.specs.declared.variable.Variable.{Variable}

-- Scope number k + 1 is stored at k, and its parent has a lower number.
abbrev pub IsTree : List Scope → Type 0
IsTree ss = (k : ℕ) → (d : Scope) → k < length ss → (slice_index_or ss k d).parent ≤ k

-- The scopes that are entered are there.
abbrev pub IsEntered : List Scope → List ℕ → Type 0
IsEntered ss entered = All (λ scope. scope ≤ length ss) entered

-- Scopes and variables, and the number of each variable's code: fewer than 2^28 scopes, with the place outside every
-- scope, and fewer than 2^28 variables.
pub record AreDeclared (scopes : List Scope) (variables : List Variable) (numbers : List ℕ) : Type 0 where
  pub tree : IsTree scopes
  pub listed : All (IsVariable (length scopes + 1)) variables
  pub numbered : length numbers ≡ length variables
  pub scopes_ : length scopes + 1 < 2 ^ 28
  pub variables_ : length variables < 2 ^ 28

-- What is declared, and the scopes that are entered.
abbrev pub AreHeld : List Scope → List Variable → List ℕ → List ℕ → Type 0
AreHeld scopes variables numbers entered = AreDeclared scopes variables numbers × IsEntered scopes entered

-- The times of a recording's moments.
pub record AreTimes (times : List ℕ) : Type 0 where
  pub some : 0 < length times
  pub ascending : IsStrictlyIncreasing times
  pub few : length times < 2 ^ 28
