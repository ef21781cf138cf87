-- How many origins each row of each primitive gave.
use Rattle.std.specs.Prelude.{◌≡◌, ◌⊎◌, ℕ, ◌<◌, ◌==◌, ◌&&◌, Bool, true, false, Option, None, Some, List, All, count_by}
use Rattle.std.specs.Prelude.{length, nat_lt, sum_by}
use Rattle.std.specs.List.{AllAdjacentBelow}
use Rattle.design_circuit.specs.declared.design.Driver.{Driver}
use Rattle.design_circuit.specs.declared.design.Driver.TheVariants.{Input, Undriven, Constant, Copy, Cell, Register}
use Rattle.design_circuit.specs.declared.design.Table.{Table}
use Rattle.design_circuit.specs.declared.design.Table.TheVariants.{Gate, Udp}
use Rattle.design_circuit.specs.Job.{Job}
use Rattle.report_bits.specs.Counts.{one_if}
use Rattle.report_audit.specs.declared.found.Found.{Found}
use Rattle.report_audit.specs.declared.groups.Group.{Group}

-- The number of the primitive of a driver, if it has one.
abbrev pub primitive_in : Table → Option ℕ
primitive_in (Gate gate) = None
primitive_in (Udp number) = Some number

abbrev pub primitive_of_driver : Driver → Option ℕ
primitive_of_driver Input = None
primitive_of_driver Undriven = None
primitive_of_driver (Constant bit) = None
primitive_of_driver (Copy argument) = None
primitive_of_driver (Cell table pins) = primitive_in table
primitive_of_driver (Register latching) = Some latching.udp

-- What gave the replay its value at an origin: a primitive by its number, and a row of it or none.
abbrev pub Giver : Type 0
Giver = ℕ × Option ℕ

abbrev pub giver_by : Bool → Option ℕ → Option ℕ → Option Giver
giver_by false primitive row = None
giver_by true None row = None
giver_by true (Some primitive) row = Some (primitive, row)

abbrev pub giver_of : Job → Found → Option Giver
giver_of j found = giver_by found.origin (primitive_of_driver (j.driver found.place.net)) found.row

abbrev pub is_row : Option ℕ → Option ℕ → Bool
is_row None None = true
is_row None (Some other) = false
is_row (Some row) None = false
is_row (Some row) (Some other) = row == other

abbrev pub is_same : Giver → Giver → Bool
is_same giver other = (giver.0 == other.0) && is_row giver.1 other.1

abbrev pub is_from : Giver → Option Giver → Bool
is_from giver None = false
is_from giver (Some other) = is_same giver other

-- How many of the told places are origins that a row of a primitive gave, and how many groups are for it.
abbrev pub origins_from : Job → List Found → Giver → ℕ
origins_from j listed giver = count_by (λ (found : Found). is_from giver (giver_of j found)) listed

abbrev pub groups_for : List Group → Giver → ℕ
groups_for groups giver = count_by (λ (g : Group). is_same giver (g.primitive, g.row)) groups

-- None comes before each row, and rows come in order.
abbrev pub RowBefore : Option ℕ → Option ℕ → Type 0
RowBefore None None = ⊥
RowBefore None (Some other) = Unit {0}
RowBefore (Some row) None = ⊥
RowBefore (Some row) (Some other) = row < other

abbrev pub GroupBefore : Group → Group → Type 0
GroupBefore g other = (g.primitive < other.primitive) ⊎ ((g.primitive ≡ other.primitive) × RowBefore g.row other.row)

-- Each primitive and row that gave origins has one group with their number, and no other has one. Groups come by the
-- number of the primitive, then by the row, none first. Their numbers add up to that of all origins.
pub record AreGroups (j : Job) (listed : List Found) (groups : List Group) : Type 0 where
  pub numbers : All (λ (g : Group). g.places ≡ origins_from j listed (g.primitive, g.row)) groups
  pub once : (giver : Giver) → groups_for groups giver ≡ one_if (nat_lt 0 (origins_from j listed giver))
  pub order : AllAdjacentBelow GroupBefore groups (length groups)
  pub total : sum_by (λ (g : Group). g.places) groups ≡ count_by (λ (found : Found). found.origin) listed
