-- The order of the nets within a step.
use Rattle.std.specs.Prelude.{◌≡◌, ℕ, ◌+◌, ◌<◌, ◌≤◌, ◌^◌, ◌==◌, List, [], ◌∷◌, length, take, slice_index, if◌then◌else◌}
use Rattle.std.specs.Prelude.{Contains}
use Rattle.std.specs.List.{AllByRecursion}
use Rattle.design_circuit.specs.declared.design.Pin.{Pin}
use Rattle.design_circuit.specs.declared.design.Pin.TheVariants.{Net, Bit, Dead}
use Rattle.design_circuit.specs.declared.design.Driver.{Driver}
use Rattle.design_circuit.specs.declared.design.Driver.TheVariants.{Input, Undriven, Constant, Copy, Cell, Register}

-- Each number below the length stands in the list, once.
pub record IsOrdering (nets : List ℕ) : Type 0 where
  pub below : (p : ℕ) → p < length nets → slice_index nets p < length nets
  pub each : (net : ℕ) → net < length nets → (p : ℕ) × (p < length nets) × (slice_index nets p ≡ net)
  pub once : (p q : ℕ) → p < length nets → q < length nets → slice_index nets p ≡ slice_index nets q → p ≡ q

-- Where a net stands in the order.
abbrev pub position_of : List ℕ → ℕ → ℕ
position_of [] net = 0
position_of (first ∷ nets) net = if first == net then 0 else position_of nets net + 1

-- The nets among pins, in pin order.
abbrev pub net_pins : List Pin → List ℕ
net_pins [] = []
net_pins (Net net ∷ pins) = net ∷ net_pins pins
net_pins (Bit bit ∷ pins) = net_pins pins
net_pins (Dead ∷ pins) = net_pins pins

-- The arguments of a net are the net of a copy, and the net pins of a cell. A register has none: it looks back.
abbrev pub arguments_of_driver : Driver → List ℕ
arguments_of_driver Input = []
arguments_of_driver Undriven = []
arguments_of_driver (Constant bit) = []
arguments_of_driver (Copy net) = net ∷ []
arguments_of_driver (Cell table pins) = net_pins pins
arguments_of_driver (Register latching) = []

-- Every argument of a net stands in the list.
abbrev pub IsReady : (ℕ → Driver) → List ℕ → ℕ → Type 0
IsReady driver listed net = AllByRecursion (Contains listed) (arguments_of_driver (driver net))

-- The net is the least that isn't listed and whose arguments all are.
pub record IsNext (driver : ℕ → Driver) (width : ℕ) (listed : List ℕ) (net : ℕ) : Type 0 where
  pub within : net < width
  pub unlisted : Contains listed net → ⊥
  pub ready : IsReady driver listed net
  pub least : (other : ℕ) → other < net → (Contains listed other → ⊥) → IsReady driver listed other → ⊥

-- The order of a design lists all its nets, each as the least of those that can come next.
pub record IsOrder (driver : ℕ → Driver) (width : ℕ) (nets : List ℕ) : Type 0 where
  pub all : length nets ≡ width
  pub next : (p : ℕ) → p < length nets → IsNext driver width (take p nets) (slice_index nets p)

-- A loop is a list of nets, not empty, that holds an argument of each of its nets.
pub record IsLoop (driver : ℕ → Driver) (width : ℕ) (nets : List ℕ) : Type 0 where
  pub some : 0 < length nets
  pub within : (p : ℕ) → p < length nets → slice_index nets p < width
  pub closed : (p : ℕ) → p < length nets → (argument : ℕ)
      × Contains (arguments_of_driver (driver (slice_index nets p))) argument × Contains nets argument

-- The second list has for each net where it stands in the first.
pub record IsIndexed (nets positions : List ℕ) : Type 0 where
  pub ordering : IsOrdering nets
  pub length_is : length positions ≡ length nets
  pub few : length nets ≤ 2 ^ 20
  pub position_in : (net : ℕ) → net < length nets → slice_index positions net < length nets
  pub net_at : (net : ℕ) → net < length nets → slice_index nets (slice_index positions net) ≡ net
