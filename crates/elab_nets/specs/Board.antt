-- The nets as they are kept: one that has no driver yet is Undriven meanwhile.
use Rattle.std.specs.Prelude.{◌≡◌, ◌≤◌, ◌^◌, Bool, true, false, Option, Some, None, List, [], ◌∷◌, length, map}
use Rattle.design_circuit.specs.declared.name.Name.{Name}
use Rattle.design_circuit.specs.declared.design.Net.{Net}
use Rattle.design_circuit.specs.declared.design.Driver.{Driver}
use Rattle.elab_nets.specs.State.{State, net_of}

abbrev pub driver_of : Net → Bool → Option Driver
driver_of net true = Some net.driver
driver_of net false = None

abbrev pub names_of : List Net → List Name
names_of nets = map (λ (net : Net). net.path) nets

abbrev pub drivers_of : List Net → List Bool → List (Option Driver)
drivers_of [] driven = []
drivers_of (net ∷ nets) [] = []
drivers_of (net ∷ nets) (d ∷ driven) = driver_of net d ∷ drivers_of nets driven

abbrev pub state_of : List Net → List Bool → State
state_of nets driven = record { names = names_of nets; drivers = drivers_of nets driven }

-- Each net is what it will be, should no driver come.
abbrev pub AreNets : List Net → List Bool → Type 0
AreNets [] [] = Unit {0}
AreNets (net ∷ nets) (d ∷ driven) = (net_of (net.path, driver_of net d) ≡ net) × AreNets nets driven
AreNets [] (_ ∷ _) = ⊥
AreNets (_ ∷ _) [] = ⊥

-- at most 2^20 nets
pub record IsBoard (nets : List Net) (driven : List Bool) : Type 0 where
  pub few : length nets ≤ 2 ^ 20
  pub each : AreNets nets driven
