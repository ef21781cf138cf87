-- What keeps the variables of a recording from being bound, and what a binding is.
use Rattle.std.specs.Prelude.{◌≡◌, ℕ, ◌*◌, ◌^◌, ◌<◌, ◌≤◌, true, false, List, Option, None, Some, length}
use Rattle.design_circuit.specs.declared.design.Design.{Design}
use Rattle.recording_reader.specs.Recording.{Recording}
use Rattle.recording_reader.specs.declared.variable.Variable.{Variable}
use Rattle.recording_binding.specs.Naming.{Texts}
use Rattle.recording_binding.specs.Telling.{has_scope}
use Rattle.recording_binding.specs.Bounds.{bounds_of, differs_at, differs_in}
use Rattle.recording_binding.specs.Holding.{IsUnbound}
use Rattle.recording_binding.specs.declared.binding.Binding.{Binding}
use Rattle.recording_binding.specs.declared.binding.Bound.{Bound}
use Rattle.recording_binding.specs.declared.refusal.BindErr.{BindErr}
use Rattle.recording_binding.specs.declared.refusal.BindErr.TheVariants.{NoScope, RangeDiffers, MissingInput, TooLarge}
use Rattle.recording_binding.specs.declared.refusal.BindErr.TheVariants.{Memory}

-- No variable with a lower number differs.
abbrev pub NoneDiffers : Design → Texts → Recording → ℕ → Type 0
NoneDiffers design scope recording count =
    (number : ℕ) → number < count → differs_at design scope recording number ≡ false

abbrev pub AllBound : Design → List Bound → ℕ → Type 0
AllBound design bound count = (net : ℕ) → net < count → IsUnbound design bound net → ⊥

-- the places of a replay
abbrev pub place_count : Design → Recording → ℕ → ℕ
place_count design recording rounds = length design.nets * (length recording.times * rounds)

-- The scope is there, and no variable differs.
pub record Matches (design : Design) (scope : Texts) (recording : Recording) : Type 0 where
  pub there : has_scope scope recording.scopes ≡ true
  pub none : NoneDiffers design scope recording (length recording.variables)

-- Each variable that matched is bound, each input is a bit of one, and there are at most so many places.
pub record IsBinding (design : Design) (recording : Recording) (scope : Texts) (rounds most : ℕ)
    (binding : Binding) : Type 0 where
  pub matches : Matches design scope recording
  pub bound : binding.bound ≡ bounds_of design scope recording
  pub inputs : AllBound design (bounds_of design scope recording) (length design.nets)
  pub places : place_count design recording rounds ≤ most
  pub timescale : binding.timescale ≡ recording.timescale

-- The refusal is that this variable differs.
abbrev pub RefusesAt : Design → Texts → Recording → ℕ → Variable → BindErr → Type 0
RefusesAt design scope recording number v e =
    (e ≡ RangeDiffers number) × (differs_in design scope recording (Some v) ≡ true)

-- The first variable that differs.
pub record IsFirst (design : Design) (scope : Texts) (recording : Recording) (variable : ℕ) : Type 0 where
  pub before : NoneDiffers design scope recording variable
  pub known : variable < length recording.variables
  pub differs : differs_at design scope recording variable ≡ true

-- The first variable that differs, where the scope is there.
pub record IsDiffering (design : Design) (recording : Recording) (scope : Texts) (variable : ℕ) : Type 0 where
  pub there : has_scope scope recording.scopes ≡ true
  pub first : IsFirst design scope recording variable

-- The least input that isn't bound.
pub record IsLeast (design : Design) (bound : List Bound) (net : ℕ) : Type 0 where
  pub before : AllBound design bound net
  pub unbound : IsUnbound design bound net

-- None where each input is bound, or the least that isn't.
abbrev pub FindsMissing : Design → List Bound → Option ℕ → Type 0
FindsMissing design bound None = AllBound design bound (length design.nets)
FindsMissing design bound (Some net) = IsLeast design bound net

abbrev pub IsFirstMissing : Design → List Bound → BindErr → Type 0
IsFirstMissing design bound NoScope = ⊥
IsFirstMissing design bound (RangeDiffers variable) = ⊥
IsFirstMissing design bound (MissingInput net) = IsLeast design bound net
IsFirstMissing design bound (TooLarge places) = ⊥
IsFirstMissing design bound Memory = ⊥

-- The least input that isn't bound, where no variable differs.
pub record IsMissing (design : Design) (recording : Recording) (scope : Texts) (net : ℕ) : Type 0 where
  pub matches : Matches design scope recording
  pub least : IsLeast design (bounds_of design scope recording) net

-- more places than the most: so many
pub record IsMany (design : Design) (recording : Recording) (rounds most places : ℕ) : Type 0 where
  pub count : places ≡ place_count design recording rounds
  pub many : most < places

abbrev pub HasMany : Design → Recording → ℕ → ℕ → BindErr → Type 0
HasMany design recording rounds most NoScope = ⊥
HasMany design recording rounds most (RangeDiffers variable) = ⊥
HasMany design recording rounds most (MissingInput net) = ⊥
HasMany design recording rounds most (TooLarge places) = IsMany design recording rounds most places
HasMany design recording rounds most Memory = ⊥

-- More places than the most, where no variable differs and each input is bound.
pub record IsTooLarge (design : Design) (recording : Recording) (scope : Texts) (rounds most places : ℕ) : Type 0 where
  pub matches : Matches design scope recording
  pub inputs : AllBound design (bounds_of design scope recording) (length design.nets)
  pub many : IsMany design recording rounds most places

-- The first variable that differs, as a refusal names it.
abbrev pub IsFirstDiffering : Design → Texts → Recording → BindErr → Type 0
IsFirstDiffering design scope recording NoScope = ⊥
IsFirstDiffering design scope recording (RangeDiffers variable) = IsFirst design scope recording variable
IsFirstDiffering design scope recording (MissingInput net) = ⊥
IsFirstDiffering design scope recording (TooLarge places) = ⊥
IsFirstDiffering design scope recording Memory = ⊥

-- Each refusal by its cause; want of memory is none of the recording's.
abbrev pub IsRefusal : Design → Recording → Texts → ℕ → ℕ → BindErr → Type 0
IsRefusal design recording scope rounds most NoScope = has_scope scope recording.scopes ≡ false
IsRefusal design recording scope rounds most (RangeDiffers variable) = IsDiffering design recording scope variable
IsRefusal design recording scope rounds most (MissingInput net) = IsMissing design recording scope net
IsRefusal design recording scope rounds most (TooLarge places) = IsTooLarge design recording scope rounds most places
IsRefusal design recording scope rounds most Memory = ⊥
