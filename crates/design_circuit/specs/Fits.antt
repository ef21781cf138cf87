-- When a job fits, and where its fillings are read.
use Rattle.std.specs.Prelude.{◌≡◌, ℕ, ◌+◌, ◌*◌, ◌%◌, ◌/◌, ◌<◌, ◌≤◌, ◌^◌, ◌==◌, Bool, true, false, ◌&&◌, List, [], ◌∷◌}
use Rattle.std.specs.Prelude.{length, slice_index, count_by, not, nat_lt}
use Rattle.std.specs.Int.{bit_at}
use Rattle.std.specs.List.{AllByRecursion, list_any}
use Rattle.design_cell.specs.Value.{is_unknown}
use Rattle.design_cell.specs.declared.value.Value.TheVariants.{Z}
use Rattle.design_cell.specs.Gate.{FitsGate}
use Rattle.design_cell.specs.Table.{Table as Primitive}
use Rattle.design_cell.specs.Clock.{is_clock}
use Rattle.design_circuit.specs.Job.{Job, step_of, net_of, places_of, primitive_of}
use Rattle.design_circuit.specs.Order.{IsOrdering, position_of, arguments_of_driver, net_pins}
use Rattle.design_circuit.specs.declared.design.Pin.{Pin}
use Rattle.design_circuit.specs.declared.design.Pin.TheVariants.{Net, Bit, Dead}
use Rattle.design_circuit.specs.declared.place.Place.{Place}
use Rattle.design_circuit.specs.declared.design.Table.{Table}
use Rattle.design_circuit.specs.declared.design.Table.TheVariants.{Gate, Udp}
use Rattle.design_circuit.specs.declared.design.Driver.{Driver}
use Rattle.design_circuit.specs.declared.design.Driver.TheVariants.{Input, Undriven, Constant, Copy, Cell, Register}
use Rattle.design_circuit.specs.declared.design.Latching.{Latching}

abbrev pub is_dead : Pin → Bool
is_dead (Net net) = false
is_dead (Bit bit) = false
is_dead Dead = true

-- The dead pins as a number: bit i stands for pin i.
abbrev pub dead_pins : List Pin → ℕ
dead_pins [] = 0
dead_pins (Net net ∷ pins) = 2 * dead_pins pins
dead_pins (Bit bit ∷ pins) = 2 * dead_pins pins
dead_pins (Dead ∷ pins) = 1 + 2 * dead_pins pins

-- A primitive of the design, of the kind, that has as many inputs as there are pins, at most 10.
pub record FitsPrimitive (udps : List Primitive) (sequential : Bool) (number pins : ℕ) : Type 0 where
  pub within : number < length udps
  pub kind : (primitive_of udps number).sequential ≡ sequential
  pub inputs : (primitive_of udps number).inputs ≡ pins
  pub few : pins ≤ 10

-- A table takes so many pins.
abbrev pub FitsTable : List Primitive → Table → ℕ → Type 0
FitsTable udps (Gate gate) pins = FitsGate gate pins
FitsTable udps (Udp number) pins = FitsPrimitive udps false number pins

abbrev pub is_clock_pin : Primitive → List Pin → ℕ → Bool
is_clock_pin primitive pins pin = nat_lt pin (length pins) && is_clock primitive (dead_pins pins) pin

-- A register has a sequential primitive with as many inputs as it has pins, at most 6 of them live, whose nets are the
-- job's. Its clocks are exactly its clock pins, and its start isn't z.
pub record FitsRegister (udps : List Primitive) (width : ℕ) (latching : Latching) : Type 0 where
  pub primitive : FitsPrimitive udps true latching.udp (length latching.pins)
  pub live : count_by (λ pin. not (is_dead pin)) latching.pins ≤ 6
  pub nets : AllByRecursion (λ net. net < width) (net_pins latching.pins)
  pub clocks : (pin : ℕ) → pin < 16 → (bit_at latching.clocks pin == 1)
      ≡ is_clock_pin (primitive_of udps latching.udp) latching.pins pin
  pub start : latching.start ≡ Z → ⊥

-- A cell has as many pins as its table takes, and a register fits.
abbrev pub FitsDriver : List Primitive → ℕ → Driver → Type 0
FitsDriver udps width Input = Unit {0}
FitsDriver udps width Undriven = Unit {0}
FitsDriver udps width (Constant bit) = Unit {0}
FitsDriver udps width (Copy argument) = Unit {0}
FitsDriver udps width (Cell table pins) = FitsTable udps table (length pins)
FitsDriver udps width (Register latching) = FitsRegister udps width latching

-- A net of the job that stands before a position of the order.
pub record StandsBefore (j : Job) (position net : ℕ) : Type 0 where
  pub within : net < j.width
  pub before : position_of j.order net < position

-- Nets stand before a position of the order.
abbrev pub Standing : Job → ℕ → List ℕ → Type 0
Standing j position nets = AllByRecursion (StandsBefore j position) nets

-- The order lists each net behind its arguments, each driver fits, no register starts at z, a moment has 1 to 16
-- rounds, and there are at most 2^20 nets and 2^40 places.
pub record Fits (j : Job) : Type 0 where
  pub ordering : IsOrdering j.order
  pub all : length j.order ≡ j.width
  pub arguments : (p : ℕ) → p < j.width → AllByRecursion (StandsBefore j p)
      (arguments_of_driver (j.driver (slice_index j.order p)))
  pub pins : (net : ℕ) → net < j.width → FitsDriver j.udps j.width (j.driver net)
  pub start : (net : ℕ) → net < j.width → j.start net ≡ Z → ⊥
  pub some_round : 0 < j.rounds
  pub few_rounds : j.rounds ≤ 16
  pub few_nets : j.width ≤ 2 ^ 20
  pub few_places : places_of j ≤ 2 ^ 40

abbrev pub is_gate : Table → Bool
is_gate (Gate gate) = true
is_gate (Udp number) = false

abbrev pub chooses_of : Job → ℕ → ℕ → Driver → Bool
chooses_of j step net Input = (step % j.rounds == 0) && is_unknown (j.recorded (step / j.rounds) net)
chooses_of j step net Undriven = step % j.rounds == 0
chooses_of j step net (Constant bit) = false
chooses_of j step net (Copy argument) = false
chooses_of j step net (Cell (Gate gate) pins) = list_any is_dead pins
chooses_of j step net (Cell (Udp number) pins) = true
chooses_of j step net (Register latching) = true

-- Where a world may read its filling: at round 0 of an input that isn't recorded known and of a net without a driver,
-- at a gate with a dead pin, and at any primitive. At any other place the rule gives 0 or 1.
abbrev pub may_read_filling : Job → ℕ → Bool
may_read_filling j place = chooses_of j (step_of j place) (net_of j place) (j.driver (net_of j place))

-- The place of a number.
abbrev pub place_at : Job → ℕ → Place
place_at j number = record { step = step_of j number; net = net_of j number }

-- A driver that is no register and no cell of a primitive.
abbrev pub IsPlain : Driver → Type 0
IsPlain Input = Unit {0}
IsPlain Undriven = Unit {0}
IsPlain (Constant bit) = Unit {0}
IsPlain (Copy argument) = Unit {0}
IsPlain (Cell (Gate gate) pins) = Unit {0}
IsPlain (Cell (Udp number) pins) = ⊥
IsPlain (Register latching) = ⊥

-- Such a driver fits where a gate has its pins.
abbrev pub FitsPlain : Driver → Type 0
FitsPlain Input = Unit {0}
FitsPlain Undriven = Unit {0}
FitsPlain (Constant bit) = Unit {0}
FitsPlain (Copy argument) = Unit {0}
FitsPlain (Cell (Gate gate) pins) = FitsGate gate (length pins)
FitsPlain (Cell (Udp number) pins) = ⊥
FitsPlain (Register latching) = ⊥
