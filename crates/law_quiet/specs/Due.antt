-- Which places are due: those that may have something else than their net's place a step before. Any other place has
-- the same (Laws.antt), and needs no look.
use Rattle.std.specs.Prelude.{◌≡◌, ℕ, ◌-◌, ◌/◌, ◌%◌, ◌==◌, ◌&&◌, ◌||◌, Bool, true, false, List, Contains, not}
use Rattle.std.specs.List.{list_all}
use Rattle.design_cell.specs.declared.value.Value.{Value}
use Rattle.design_cell.specs.Value.{is_unknown}
use Rattle.design_circuit.specs.declared.design.Driver.{Driver}
use Rattle.design_circuit.specs.declared.design.Driver.TheVariants.{Input, Undriven, Constant, Copy, Cell, Register}
use Rattle.design_circuit.specs.declared.design.Latching.{Latching}
use Rattle.design_circuit.specs.declared.design.Pin.{Pin}
use Rattle.design_circuit.specs.declared.design.Table.{Table}
use Rattle.design_circuit.specs.Job.{Job, net_of, step_of}
use Rattle.design_circuit.specs.declared.stim.Levels.{Levels}
use Rattle.design_circuit.specs.declared.stim.Levels.TheVariants.{Change, Hold}
use Rattle.design_circuit.specs.Order.{net_pins}
use Rattle.design_circuit.specs.Register.{had_uncertain_clock, has_uncertain_clock}
use Rattle.law_model.specs.Class.{are_equal, before, is_never_unknown, keeps}
use Rattle.law_model.specs.declared.class.ClassByNumber.{ClassByNumber}

-- The driver of a place's net.
abbrev pub driver_of : Job → ℕ → Driver
driver_of j place = j.driver (net_of j place)

-- A step begins a moment.
abbrev pub is_first_round : Job → ℕ → Bool
is_first_round j step = step % j.rounds == 0

-- An input is recorded in the moment of a step with the known value that it was recorded with in that of the step
-- before.
abbrev pub is_recorded_same : Job → ℕ → ℕ → Bool
is_recorded_same j step net = are_equal (j.recorded (step / j.rounds) net) (j.recorded ((step - 1) / j.rounds) net)

-- A place is stirred, from the certain values and the classes of the places before it, where something that its rule
-- reads may have moved:
pub data IsStirred (j : Job) (certain : ℕ → Value) (class : ℕ → ClassByNumber) (place : ℕ) : Type 0 where
  -- in the first round of a moment, an input that isn't recorded with the same known value as before,
  recorded : driver_of j place ≡ Input → is_first_round j (step_of j place) ≡ true
      → is_recorded_same j (step_of j place) (net_of j place) ≡ false → IsStirred j certain class place
  -- and a net without a driver;
  undriven : driver_of j place ≡ Undriven → is_first_round j (step_of j place) ≡ true → IsStirred j certain class place
  -- a copy whose argument doesn't keep;
  copied : (net : ℕ) → driver_of j place ≡ Copy net → keeps j certain class (step_of j place) net ≡ false
      → IsStirred j certain class place
  -- a cell, the net of one of whose pins doesn't keep;
  pin : (table : Table) (pins : List Pin) (net : ℕ) → driver_of j place ≡ Cell table pins → Contains (net_pins pins) net
      → keeps j certain class (step_of j place) net ≡ false → IsStirred j certain class place
  -- a register, the net of one of whose pins doesn't keep a step before.
  looked : (latching : Latching) (net : ℕ) → driver_of j place ≡ Register latching
      → Contains (net_pins latching.pins) net → keeps j certain class (step_of j place - 1) net ≡ false
      → IsStirred j certain class place

-- A place is due
pub data IsDue (j : Job) (certain : ℕ → Value) (class : ℕ → ClassByNumber) (place : ℕ) : Type 0 where
  -- in the first step;
  first : step_of j place ≡ 0 → IsDue j certain class place
  -- in the second, where it is a register's, which looks back at what stands before the first;
  second : (latching : Latching) → driver_of j place ≡ Register latching → step_of j place ≡ 1
      → IsDue j certain class place
  -- where it is stirred;
  stirred : IsStirred j certain class place → IsDue j certain class place
  -- where it is a cell's, and the rule of the place before gives x for some assignment: so may its own, anew;
  restless : (table : Table) (pins : List Pin) → driver_of j place ≡ Cell table pins
      → is_never_unknown j certain (before j place) ≡ false → IsDue j certain class place
  -- and where it is a register's, and neither all its clock pins are certain where it looks back nor its own place
  -- before is: its rule gives x, anew.
  unclocked : (latching : Latching) → driver_of j place ≡ Register latching
      → has_uncertain_clock j certain (step_of j place) latching ≡ true
      → is_unknown (certain (before j place)) ≡ true → IsDue j certain class place
  -- Where levels hold registers, also where a clock pin isn't certain there, or wasn't where it looked back a step
  -- before: its pins may hold it now as they didn't then.
  held : (latching : Latching) → driver_of j place ≡ Register latching → j.levels ≡ Hold
      → had_uncertain_clock j certain (step_of j place) latching ≡ true → IsDue j certain class place

abbrev pub IsQuiet : Job → (ℕ → Value) → (ℕ → ClassByNumber) → ℕ → Type 0
IsQuiet j certain class place = IsDue j certain class place → ⊥

-- A register goes on: where levels decide it by change, its clock isn't uncertain or its own place is certain; where
-- they hold it, it didn't have an uncertain clock.
abbrev pub is_clocked : Levels → Bool → Bool → Bool → Bool
is_clocked Change uncertain had unknown = not uncertain || not unknown
is_clocked Hold uncertain had unknown = not had

-- The same as a test.
abbrev pub is_quiet_of : Job → (ℕ → Value) → (ℕ → ClassByNumber) → ℕ → ℕ → ℕ → Driver → Bool
is_quiet_of j certain class place step net Input = not (is_first_round j step) || is_recorded_same j step net
is_quiet_of j certain class place step net Undriven = not (is_first_round j step)
is_quiet_of j certain class place step net (Constant bit) = true
is_quiet_of j certain class place step net (Copy argument) = keeps j certain class step argument
is_quiet_of j certain class place step net (Cell table pins) =
    list_all (keeps j certain class step) (net_pins pins) && is_never_unknown j certain (before j place)
is_quiet_of j certain class place step net (Register latching) =
    not (step == 1) && list_all (keeps j certain class (step - 1)) (net_pins latching.pins)
    && is_clocked j.levels (has_uncertain_clock j certain step latching) (had_uncertain_clock j certain step latching)
    (is_unknown (certain (before j place)))

abbrev pub is_quiet : Job → (ℕ → Value) → (ℕ → ClassByNumber) → ℕ → Bool
is_quiet j certain class place =
    not (step_of j place == 0)
    && is_quiet_of j certain class place (step_of j place) (net_of j place) (driver_of j place)
