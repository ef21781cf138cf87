-- Nets that keep and places that pass their net's bit on, by the classes of the places before.
use Rattle.std.specs.Prelude.{◌≡◌, ℕ, ◌-◌, ◌≤◌, ◌==◌, ◌&&◌, Bool, true, false, List, not, nat_lt, if◌then◌else◌}
use Rattle.std.specs.List.{list_all, list_any}
use Rattle.design_cell.specs.declared.value.Value.{Value}
use Rattle.design_circuit.specs.declared.design.Driver.{Driver}
use Rattle.design_circuit.specs.declared.design.Latching.{Latching}
use Rattle.design_circuit.specs.declared.design.Pin.{Pin}
use Rattle.design_circuit.specs.declared.design.Table.{Table}
use Rattle.design_circuit.specs.declared.design.Table.TheVariants.{Gate, Udp}
use Rattle.design_circuit.specs.Fits.{is_dead}
use Rattle.design_circuit.specs.Job.{Job, at}
use Rattle.design_circuit.specs.Order.{net_pins}
use Rattle.design_circuit.specs.Register.{had_uncertain_clock}
use Rattle.design_circuit.specs.Rule.{arguments}
use Rattle.law_model.specs.Class.{before, carried_or_line, class_by, class_of, is_free, is_local, is_never_unknown}
use Rattle.law_model.specs.Class.{keeps, passes_on, passes_on_of}
use Rattle.law_model.specs.declared.class.ClassByNumber.{ClassByNumber}
use Rattle.law_model.specs.declared.class.ClassByNumber.TheVariants.{Carried}

-- A net keeps at a step, where the class of each place is its own; nets all do.
abbrev pub net_keeps : Job → (ℕ → Value) → ℕ → ℕ → Bool
net_keeps j certain step net = keeps j certain (class_of j certain) step net

abbrev pub nets_keep : Job → (ℕ → Value) → ℕ → List ℕ → Bool
nets_keep j certain step nets = list_all (net_keeps j certain step) nets

-- A place of a driver passes its net's bit on: so for a cell, and so for a register.
abbrev pub driver_passes : Job → (ℕ → Value) → ℕ → ℕ → ℕ → Driver → Bool
driver_passes j certain place step net driver = passes_on_of j certain (class_of j certain) place step net driver

abbrev pub cell_passes : Job → (ℕ → Value) → ℕ → ℕ → List Pin → Bool
cell_passes j certain place step pins =
    not (step == 0) && nets_keep j certain step (net_pins pins) && is_never_unknown j certain place

abbrev pub register_passes : Job → (ℕ → Value) → ℕ → Latching → Bool
register_passes j certain step latching =
    nat_lt 1 step && not (had_uncertain_clock j certain step latching)
    && nets_keep j certain (step - 1) (net_pins latching.pins)

abbrev pub place_passes : Job → (ℕ → Value) → ℕ → Bool
place_passes j certain place = passes_on j certain (class_of j certain) place

-- The class by the classes of the places before, and what it is where no earlier kind applies.
abbrev pub class_here : Job → (ℕ → Value) → ℕ → ClassByNumber
class_here j certain place = class_by j certain (class_of j certain) place

abbrev pub copy_or_line : Job → (ℕ → Value) → ℕ → ClassByNumber
copy_or_line j certain place = carried_or_line j certain place (arguments j certain place)

abbrev pub later_class : Job → (ℕ → Value) → ℕ → ClassByNumber
later_class j certain place =
    if place_passes j certain place then Carried (before j place) false else copy_or_line j certain place

-- A place is neither local nor free.
pub record IsMixed (j : Job) (certain : ℕ → Value) (place : ℕ) : Type 0 where
  pub not_zero : is_local j certain place false ≡ false
  pub not_one : is_local j certain place true ≡ false
  pub not_free : is_free j certain place ≡ false

-- Whether a cell's place reads its filling: at a gate with a dead pin, and at any primitive.
abbrev pub cell_chooses : Table → List Pin → Bool
cell_chooses (Gate gate) pins = list_any is_dead pins
cell_chooses (Udp number) pins = true

-- A register at a step behind the second looks back at what it looked back at a step before: its own net has there the
-- certain value that it had, and the nets of its pins keep at both steps that it looks back at.
pub record SeesTheSame (j : Job) (certain : ℕ → Value) (step net : ℕ) (latching : Latching) : Type 0 where
  pub later : 3 ≤ step
  pub own : certain (at j (step - 1) net) ≡ certain (at j (step - 2) net)
  pub new : nets_keep j certain (step - 1) (net_pins latching.pins) ≡ true
  pub old : nets_keep j certain (step - 2) (net_pins latching.pins) ≡ true
