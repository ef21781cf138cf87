-- Names as refusals print them.
use Rattle.std.specs.Prelude.{◌≡◌, ℕ, ◌<◌, List, [], ◌∷◌, ◌++◌, Some, codes, length, drop, slice_get, slice_index}
use Rattle.design_circuit.specs.Design.{name_in}
use Rattle.design_circuit.specs.Name.{written_name}
use Rattle.design_circuit.specs.declared.design.Design.{Design}
use Rattle.recording_reader.specs.Bytes.{without_range}
use Rattle.recording_reader.specs.Recording.{Recording, path_at}
use Rattle.recording_reader.specs.declared.variable.Variable.{Variable}

-- the written name of a net
abbrev pub net_name : Design → ℕ → List ℕ
net_name design net = written_name (name_in design net)

-- nets of the design
abbrev pub AreNets : Design → List ℕ → Type 0
AreNets design nets = (k : ℕ) → k < length nets → slice_index nets k < length design.nets

-- names joined by dots
abbrev pub dots_before : List (List ℕ) → List ℕ
dots_before [] = []
dots_before (name ∷ names) = codes "." ++ (name ++ dots_before names)

abbrev pub dotted : List (List ℕ) → List ℕ
dotted [] = []
dotted (name ∷ names) = name ++ dots_before names

-- A variable is named by its scopes below the scope path and its reference, as recorded and without a range directly
-- after it, joined by dots.
abbrev pub dots_after : List (List ℕ) → List ℕ
dots_after [] = []
dots_after (name ∷ names) = name ++ (codes "." ++ dots_after names)

abbrev pub variable_name : List (List ℕ) → Recording → Variable → List ℕ
variable_name scope recording v =
    dots_after (drop (length scope) (path_at recording.scopes v.scope)) ++ without_range v.direct v.reference

-- The variable with this number has this name.
pub record IsVariableName (scope : List (List ℕ)) (recording : Recording) (number : ℕ) (name : List ℕ) : Type 0 where
  pub variable : Variable
  pub is : slice_get recording.variables number ≡ Some variable
  pub named : name ≡ variable_name scope recording variable
