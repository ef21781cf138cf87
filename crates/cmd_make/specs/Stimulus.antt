-- The stimulus of a made job: 16 moments, a clock, and eight inputs that are drawn.
use Rattle.std.specs.Prelude.{◌≡◌, ℕ, zero, suc, ◌*◌, ◌%◌, ◌<◌, ◌==◌, List, [], ◌∷◌, ◌++◌, length, slice_index_or}
use Rattle.std.specs.Prelude.{if◌then◌else◌}
use Rattle.design_cell.specs.Value.{bit_value}
use Rattle.design_cell.specs.declared.value.Value.{Value}
use Rattle.design_cell.specs.declared.value.Value.TheVariants.{X}
use Rattle.design_circuit.specs.Job.{driver_in}
use Rattle.design_circuit.specs.declared.design.Design.{Design}
use Rattle.design_circuit.specs.declared.design.Driver.{Driver}
use Rattle.design_circuit.specs.declared.design.Driver.TheVariants.{Input, Undriven, Constant, Copy, Cell, Register}
use Rattle.design_circuit.specs.declared.stim.Levels.TheVariants.{Change}
use Rattle.design_circuit.specs.declared.stim.RegisterRules.{RegisterRules}
use Rattle.design_circuit.specs.declared.stim.StartRule.TheVariants.{Cold}
use Rattle.design_circuit.specs.declared.stim.Stim.{Stim}
use Rattle.recording_binding.specs.StimOf.{IsRow}
use Rattle.cmd_make.specs.Draw.{after_draw, draw}
use Rattle.cmd_make.specs.Netlist.{after_netlist}

-- The times of so many moments: 0, 10, 20 and so on.
unfoldable pub times_of : ℕ → List ℕ
times_of zero = []
times_of (suc moment) = times_of moment ++ 10 * moment ∷ []

-- The clock is 0 and 1 in turn.
abbrev pub clock_value : ℕ → Value
clock_value moment = bit_value (moment % 2 == 1)

-- An input is x where a draw below 8 gives 0; else it is the bit that a draw below 2 gives.
unfoldable pub drawn_input : ℕ → Value
drawn_input state = if draw 8 state == 0 then X else bit_value (draw 2 (after_draw state) == 1)

-- So it draws once or twice.
unfoldable pub after_input : ℕ → ℕ
after_input state = if draw 8 state == 0 then after_draw state else after_draw (after_draw state)

-- the state after so many inputs
unfoldable pub after_inputs : ℕ → ℕ → ℕ
after_inputs state zero = state
after_inputs state (suc input) = after_input (after_inputs state input)

-- So many inputs, one after the other, from a state on.
unfoldable pub drawn_inputs : ℕ → ℕ → List Value
drawn_inputs state zero = []
drawn_inputs state (suc input) = drawn_inputs state input ++ drawn_input (after_inputs state input) ∷ []

-- A moment has the clock, and eight inputs that are drawn from a state on.
unfoldable pub moment_values : ℕ → ℕ → List Value
moment_values state moment = clock_value moment ∷ drawn_inputs state 8

-- the state before a moment: eight inputs are drawn in each before it
unfoldable pub before_moment : ℕ → ℕ → ℕ
before_moment state zero = state
before_moment state (suc moment) = after_inputs (before_moment state moment) 8

-- Net 0 is the clock, nets 1 to 8 are the inputs, and any other net has x. The draws go on where those of the netlist
-- end.
abbrev pub made_value : ℕ → ℕ → ℕ → ℕ → Value
made_value number gates moment net =
    slice_index_or (moment_values (before_moment (after_netlist number gates) moment) moment) net X

-- A register starts as its primitive says, which is x where that says nothing; any other net has x.
abbrev pub own_start : Driver → Value
own_start Input = X
own_start Undriven = X
own_start (Constant bit) = X
own_start (Copy argument) = X
own_start (Cell table pins) = X
own_start (Register latching) = latching.start

abbrev pub made_start : Design → ℕ → Value
made_start design net = own_start (driver_in design net)

abbrev pub made_rules : RegisterRules
made_rules = record { start = Cold; levels = Change }

-- The stimulus has 16 moments of 4 rounds, and registers start cold: each as its primitive says, and before step 0 each
-- of its pins is x.
pub record IsMadeStim (design : Design) (number gates : ℕ) (stim : Stim) : Type 0 where
  pub times : stim.times ≡ times_of 16
  pub rounds : stim.rounds ≡ 4
  pub rules : stim.rules ≡ made_rules
  pub many : length stim.inputs ≡ 16
  pub inputs : (moment : ℕ) → moment < 16
      → IsRow design (made_value number gates moment) (slice_index_or stim.inputs moment [])
  pub starts : IsRow design (made_start design) stim.starts
