-- When a binding fits a design.
use Rattle.std.specs.Prelude.{◌<◌, ◌≤◌, ◌^◌, length, All}
use Rattle.design_circuit.specs.declared.design.Design.{Design}
use Rattle.recording_binding.specs.declared.binding.Binding.{Binding}
use Rattle.recording_binding.specs.declared.binding.Bound.{Bound}

-- A bound variable has 1 to 2^20 bits.
abbrev pub HasBits : Bound → Type 0
HasBits b = (0 < length b.bits) × (length b.bits ≤ 2 ^ 20)

-- A bound variable has 1 to 2^20 bits, each a net of the design.
pub record FitsBound (design : Design) (b : Bound) : Type 0 where
  pub some : 0 < length b.bits
  pub few : length b.bits ≤ 2 ^ 20
  pub nets : All (λ net. net < length design.nets) b.bits

-- Each bound variable fits, and there are fewer than 2^28, as in every recording.
pub record FitsBinding (design : Design) (binding : Binding) : Type 0 where
  pub each : All (FitsBound design) binding.bound
  pub few : length binding.bound < 2 ^ 28
