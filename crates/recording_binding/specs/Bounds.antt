-- The variables of a recording that are bound.
use Rattle.std.specs.Prelude.{◌≡◌, ℕ, zero, suc, ◌-◌, ◌<◌, Bool, true, false, List, [], ◌∷◌, ◌++◌, Option, None, Some}
use Rattle.std.specs.Prelude.{length, slice_get, slice_index}
use Rattle.design_circuit.specs.declared.design.Design.{Design}
use Rattle.recording_reader.specs.Bytes.{both_of}
use Rattle.recording_reader.specs.Recording.{Recording, path_at, width_at}
use Rattle.recording_reader.specs.declared.variable.Variable.{Variable}
use Rattle.recording_binding.specs.Naming.{Texts, index_of}
use Rattle.recording_binding.specs.Telling.{matched}
use Rattle.recording_binding.specs.declared.binding.Bound.{Bound}
use Rattle.recording_binding.specs.declared.bits.Matched.{Matched}
use Rattle.recording_binding.specs.declared.bits.Matched.TheVariants.{Nothing, Differs, Bits}

-- the index of the first and of the last bit; none for a scalar net
abbrev pub ends_of : Design → List ℕ → Option (ℕ × ℕ)
ends_of design bits =
    both_of (index_of design (slice_index bits 0)) (index_of design (slice_index bits (length bits - 1)))

-- A bound variable has its bits, its whole scope path as recorded, and the range of its bits.
abbrev pub bound_of : Design → Recording → ℕ → Variable → List ℕ → Bound
bound_of design recording number v bits =
    record { variable = number; bits = bits; path = path_at recording.scopes v.scope; range = ends_of design bits }

abbrev pub bound_by : Design → Recording → ℕ → Variable → Matched → List Bound
bound_by design recording number v Nothing = []
bound_by design recording number v Differs = []
bound_by design recording number v (Bits bits) = bound_of design recording number v bits ∷ []

-- what the variable with this number comes to
abbrev pub bound_in : Design → Texts → Recording → ℕ → Option Variable → List Bound
bound_in design scope recording number None = []
bound_in design scope recording number (Some v) = bound_by design recording number v (matched design scope recording v)

-- those among the first so many variables, in the recording's order
abbrev pub bound_below : Design → Texts → Recording → ℕ → List Bound
bound_below design scope recording zero = []
bound_below design scope recording (suc number) = bound_below design scope recording number
    ++ bound_in design scope recording number (slice_get recording.variables number)

-- The variables that matched, in the recording's order, each once.
abbrev pub bounds_of : Design → Texts → Recording → List Bound
bounds_of design scope recording = bound_below design scope recording (length recording.variables)

abbrev pub differs : Matched → Bool
differs Nothing = false
differs Differs = true
differs (Bits bits) = false

abbrev pub differs_in : Design → Texts → Recording → Option Variable → Bool
differs_in design scope recording None = false
differs_in design scope recording (Some v) = differs (matched design scope recording v)

-- whether the variable with this number matched and its bits aren't as many as it is wide, or not those of its range
abbrev pub differs_at : Design → Texts → Recording → ℕ → Bool
differs_at design scope recording number = differs_in design scope recording (slice_get recording.variables number)

-- A bound variable is one of the recording's, with as many bits as it is wide.
pub record IsOf (recording : Recording) (b : Bound) : Type 0 where
  pub known : b.variable < length recording.variables
  pub wide : length b.bits ≡ width_at recording b.variable
