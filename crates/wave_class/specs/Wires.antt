-- What stands at a place, as its wiring tells it.
use Rattle.std.specs.Prelude.{◌≡◌, ℕ, ◌+◌, ◌-◌, ◌<◌, ◌^◌, Bool, true, List, map, not}
use Rattle.std.specs.List.{list_all}
use Rattle.design_cell.specs.declared.value.Value.{Value}
use Rattle.design_cell.specs.Value.{is_unknown}
use Rattle.design_circuit.specs.declared.circuit.Circuit.{Circuit}
use Rattle.design_circuit.specs.declared.design.Driver.TheVariants.{Copy, Register}
use Rattle.design_circuit.specs.declared.design.Latching.{Latching}
use Rattle.design_circuit.specs.declared.design.Pin.{Pin}
use Rattle.design_circuit.specs.declared.design.Table.{Table}
use Rattle.design_circuit.specs.Job.{Job, at, net_of, step_of}
use Rattle.design_circuit.specs.Order.{net_pins}
use Rattle.design_circuit.specs.Register.{pin_of}
use Rattle.design_wiring.specs.Wired.{Wire, kind_of_table, wire_of, wired}
use Rattle.design_wiring.specs.declared.wiring.Kind.{Kind}
use Rattle.wave_class.specs.Facts.{Facts}
use Rattle.wave_class.specs.Keeps.{SeesTheSame}

-- The wires are those of a circuit.
abbrev pub AreWiresOf : Circuit → List Wire → Type 0
AreWiresOf circuit wires = wires ≡ wired circuit.design.now circuit.order.now

-- At a place stands a driver of a kind, which reads the pins.
abbrev pub Stands : Job → ℕ → Kind → List Pin → Type 0
Stands j place kind pins = wire_of j.order (j.driver (net_of j place)) ≡ record { kind = kind; pins = pins }

abbrev pub StandsCell : Job → ℕ → Table → List Pin → Type 0
StandsCell j place table pins = Stands j place (kind_of_table table) pins

-- The place at a position of a step, whose first place has a number, has something.
pub record Reaches (has : ℕ → Type 0) (first position : ℕ) : Type 0 where
  pub small : first + position < 2 ^ 40
  pub has_it : has (first + position)

-- The nets of pins that are named by their positions all keep at that step.
abbrev pub positions_keep : (ℕ → Facts) → ℕ → List Pin → Bool
positions_keep facts first pins = list_all (λ position. (facts (first + position)).keeps) (net_pins pins)

-- A copy reads an earlier place.
pub record CopiesFrom (j : Job) (place from : ℕ) : Type 0 where
  pub net : ℕ
  pub within : net < j.width
  pub driver : j.driver (net_of j place) ≡ Copy net
  pub from_is : from ≡ at j (step_of j place) net
  pub earlier : from < place

-- The register at a place looks back at what it looked back at a step before.
abbrev pub PlaceSeesTheSame : Job → (ℕ → Value) → ℕ → Type 0
PlaceSeesTheSame j certain place =
    (latching : Latching) → j.driver (net_of j place) ≡ Register latching
    → SeesTheSame j certain (step_of j place) (net_of j place) latching

-- The values at pins that are named by their positions at a step, and whether those of their nets are all known.
abbrev pub values_there : (ℕ → Value) → ℕ → List Pin → List Value
values_there certain first pins = map (pin_of (λ position. certain (first + position))) pins

abbrev pub positions_known : (ℕ → Value) → ℕ → List Pin → Bool
positions_known certain first pins =
    list_all (λ position. not (is_unknown (certain (first + position)))) (net_pins pins)

-- The nets are all certain at a step.
abbrev pub nets_known : Job → (ℕ → Value) → ℕ → List ℕ → Bool
nets_known j certain step nets = list_all (λ net. not (is_unknown (certain (at j step net)))) nets

-- A register sees certain values alone: at its own net and, one step and two steps back, at the nets of its pins.
pub record SeesKnown (j : Job) (certain : ℕ → Value) (step net : ℕ) (latching : Latching) : Type 0 where
  pub own : not (is_unknown (certain (at j (step - 1) net))) ≡ true
  pub new : nets_known j certain (step - 1) (net_pins latching.pins) ≡ true
  pub old : nets_known j certain (step - 2) (net_pins latching.pins) ≡ true

abbrev pub PlaceSeesKnown : Job → (ℕ → Value) → ℕ → Type 0
PlaceSeesKnown j certain place =
    (latching : Latching) → j.driver (net_of j place) ≡ Register latching
    → SeesKnown j certain (step_of j place) (net_of j place) latching
