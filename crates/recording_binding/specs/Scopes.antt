-- What is kept of the scopes of a recording.
use Rattle.std.specs.Prelude.{◌≡◌, ◌<◌, ℕ, Bool, false, List, [], ◌∷◌, ◌++◌, length, drop, map, slice_index_or, ◌==◌}
use Rattle.design_circuit.specs.Design.{FitsDesign}
use Rattle.design_circuit.specs.declared.design.Design.{Design}
use Rattle.recording_reader.specs.Recording.{Recording, path_at}
use Rattle.recording_binding.specs.Keys.{IsKey}
use Rattle.recording_binding.specs.Naming.{Texts, nets_of}
use Rattle.recording_binding.specs.Telling.{Standing, Apart, Above, Within, standing_of, bare}
use Rattle.recording_binding.specs.declared.scopes.ScopeKey.{ScopeKey}
use Rattle.recording_binding.specs.declared.scopes.ScopeKey.TheVariants as kept

-- where the path stands with one name more
abbrev pub standing_below : Standing → List ℕ → Standing
standing_below Apart name = Apart
standing_below (Above names) name = standing_of names (name ∷ [])
standing_below (Within names) name = Within (names ++ name ∷ [])

-- so many names of the scope path are read, and these are left
pub record IsAbove (scope names : Texts) (depth : ℕ) : Type 0 where
  pub within : depth < length scope
  pub left : names ≡ drop depth scope

-- no net has a name that begins like this
pub record BindsNothing (design : Design) (names : Texts) : Type 0 where
  pub none : (more : Texts) → nets_of design (names ++ more) ≡ []

abbrev pub IsBelow : Texts → Type 0
IsBelow [] = ⊥
IsBelow (name ∷ names) = Unit {0}

-- a scope below the scope path, with nothing to be bound in it or below
pub record IsIdle (design : Design) (names : Texts) : Type 0 where
  pub below : IsBelow names
  pub nothing : BindsNothing design (map bare names)

-- What is kept of a scope says where its path stands, but that a scope with nothing to be bound may be kept as one
-- apart.
abbrev pub Keeps : Design → Texts → Standing → ScopeKey → Type 0
Keeps design scope Apart kept.Apart = Unit {0}
Keeps design scope Apart (kept.Above depth) = ⊥
Keeps design scope Apart (kept.Within key) = ⊥
Keeps design scope (Above names) kept.Apart = ⊥
Keeps design scope (Above names) (kept.Above depth) = IsAbove scope names depth
Keeps design scope (Above names) (kept.Within key) = ⊥
Keeps design scope (Within names) kept.Apart = IsIdle design names
Keeps design scope (Within names) (kept.Above depth) = ⊥
Keeps design scope (Within names) (kept.Within key) = IsKey (map bare names) key

-- Something is kept of each of the first so many scopes.
pub record KeepsAll (design : Design) (scope : Texts) (paths : List Texts) (keys : List ScopeKey)
    (count : ℕ) : Type 0 where
  pub as_many : length keys ≡ count
  pub each : (number : ℕ) (d : ScopeKey) → number < count
      → Keeps design scope (standing_of scope (path_at paths number)) (slice_index_or keys number d)

-- The design fits, the recording's first scope has no names, and something is kept of each of its scopes.
abbrev pub KeepsRecording : Design → Texts → Recording → List ScopeKey → Type 0
KeepsRecording design scope recording keys = FitsDesign design × (path_at recording.scopes 0 ≡ [])
    × KeepsAll design scope recording.scopes keys (length recording.scopes)

-- what is kept of the scope path itself
abbrev pub is_top : ScopeKey → Bool
is_top kept.Apart = false
is_top (kept.Above depth) = false
is_top (kept.Within key) = length key == 0
