-- Which steps and which bits a history has.
use Rattle.std.specs.Prelude.{ℕ, ◌*◌, ◌<◌, ◌^◌, List, length, All}
use Rattle.design_circuit.specs.History.{HistoryView, HasPlace}
use Rattle.recording_binding.specs.declared.binding.Bound.{Bound}
use Rattle.design_circuit.specs.Settled.{last_round}

-- Each net has a place at the step.
pub record HasStep (history : HistoryView) (step : ℕ) : Type 0 where
  pub small : step < 2 ^ 32
  pub places : (net : ℕ) → net < history.nets → HasPlace history (record { step = step; net = net })

-- Nets of the history, one or more.
pub record HasNets (history : HistoryView) (nets : List ℕ) : Type 0 where
  pub some : 0 < length nets
  pub all : All (λ net. net < history.nets) nets

abbrev pub HasBits : HistoryView → Bound → Type 0
HasBits history b = HasNets history b.bits

-- Each step of so many moments is there, and so the last one of each.
pub record HasMoments (history : HistoryView) (moments rounds : ℕ) : Type 0 where
  pub few : moments < 2 ^ 28
  pub steps : (step : ℕ) → step < moments * rounds → HasStep history step
  pub last : (moment : ℕ) → moment < moments → HasStep history (last_round rounds moment)
