-- The class of a place: how it gets what a waveform has for it.
use Rattle.std.specs.Prelude.{ℕ, zero, suc, ◌+◌, ◌-◌, ◌/◌, ◌%◌, ◌==◌, ◌&&◌, ◌||◌, Bool, true, false, List, [], ◌∷◌}
use Rattle.std.specs.Prelude.{◌++◌, slice_index_or, if◌then◌else◌, not, nat_lt}
use Rattle.std.specs.List.{list_all}
use Rattle.design_cell.specs.declared.value.Value.{Value}
use Rattle.design_cell.specs.declared.value.Value.TheVariants.{Zero, One, X, Z}
use Rattle.design_cell.specs.Value.{is_unknown, is_zero, is_one}
use Rattle.design_circuit.specs.declared.design.Driver.{Driver}
use Rattle.design_circuit.specs.declared.design.Driver.TheVariants.{Input, Undriven, Constant, Copy, Cell, Register}
use Rattle.design_circuit.specs.Job.{Job, at, step_of, net_of}
use Rattle.design_circuit.specs.Order.{net_pins}
use Rattle.design_circuit.specs.Register.{had_uncertain_clock}
use Rattle.design_circuit.specs.Rule.{rule, arguments}
use Rattle.design_circuit.specs.Fits.{place_at}
use Rattle.law_model.specs.Assignment.{for_every}
use Rattle.law_model.specs.declared.class.Class.{Class}
use Rattle.law_model.specs.declared.class.Class.TheVariants as seen
use Rattle.law_model.specs.declared.class.ClassByNumber.{ClassByNumber}
use Rattle.law_model.specs.declared.class.ClassByNumber.TheVariants.{Local, Free, Carried, Line}

-- A value is a bit.
abbrev pub is_bit : Value → Bool → Bool
is_bit Zero bit = not bit
is_bit One bit = bit
is_bit X bit = false
is_bit Z bit = false

-- A bit as it is, or its complement.
abbrev pub flipped : Bool → Bool → Bool
flipped false bit = bit
flipped true bit = not bit

-- The rule gives the bit for every assignment.
abbrev pub is_local : Job → (ℕ → Value) → ℕ → Bool → Bool
is_local j certain place bit = for_every j certain place (λ bits. is_bit (rule j certain bits place) bit)

-- It gives x for every assignment.
abbrev pub is_free : Job → (ℕ → Value) → ℕ → Bool
is_free j certain place = for_every j certain place (λ bits. is_unknown (rule j certain bits place))

-- It gives x for no assignment.
abbrev pub is_never_unknown : Job → (ℕ → Value) → ℕ → Bool
is_never_unknown j certain place = for_every j certain place (λ bits. not (is_unknown (rule j certain bits place)))

-- It gives the bit of an uncertain argument place for every assignment, or its complement.
abbrev pub is_carrier : Job → (ℕ → Value) → ℕ → ℕ → Bool → Bool
is_carrier j certain place from inverted =
    is_unknown (certain from)
    && for_every j certain place (λ bits. is_bit (rule j certain bits place) (flipped inverted (bits from)))

-- Two values are the same known one.
abbrev pub are_equal : Value → Value → Bool
are_equal x y = (is_zero x && is_zero y) || (is_one x && is_one y)

abbrev pub is_carried_on : ClassByNumber → ℕ → Bool
is_carried_on (Local bit) before = false
is_carried_on Free before = false
is_carried_on (Carried from inverted) before = (from == before) && not inverted
is_carried_on Line before = false

-- A net keeps at a step where its place and the one a step before are certain with the same value, or where the class
-- of its place is Carried from the one a step before, as it is.
abbrev pub keeps : Job → (ℕ → Value) → (ℕ → ClassByNumber) → ℕ → ℕ → Bool
keeps j certain class step net =
    not (step == 0) && (are_equal (certain (at j step net)) (certain (at j (step - 1) net))
    || is_carried_on (class (at j step net)) (at j (step - 1) net))

-- A place at a later step passes its net's bit on: an input that isn't recorded known, and a net without a driver, at a
-- later round; a copy whose argument keeps; a cell whose net pins all keep and whose rule gives x for no assignment; a
-- register behind step 1 whose clock pins are certain where it looks back, with levels that hold also where it looked
-- back one step before, and whose net pins all keep one step before.
abbrev pub passes_on_of : Job → (ℕ → Value) → (ℕ → ClassByNumber) → ℕ → ℕ → ℕ → Driver → Bool
passes_on_of j certain class place step net Input =
    not (step % j.rounds == 0) && is_unknown (j.recorded (step / j.rounds) net)
passes_on_of j certain class place step net Undriven = not (step % j.rounds == 0)
passes_on_of j certain class place step net (Constant bit) = false
passes_on_of j certain class place step net (Copy argument) = keeps j certain class step argument
passes_on_of j certain class place step net (Cell table pins) =
    not (step == 0) && list_all (keeps j certain class step) (net_pins pins) && is_never_unknown j certain place
passes_on_of j certain class place step net (Register latching) =
    nat_lt 1 step && not (had_uncertain_clock j certain step latching)
    && list_all (keeps j certain class (step - 1)) (net_pins latching.pins)

abbrev pub passes_on : Job → (ℕ → Value) → (ℕ → ClassByNumber) → ℕ → Bool
passes_on j certain class place =
    passes_on_of j certain class place (step_of j place) (net_of j place) (j.driver (net_of j place))

-- The first of some places that the place is carried from, as it is or inverted.
abbrev pub carried_or_line : Job → (ℕ → Value) → ℕ → List ℕ → ClassByNumber
carried_or_line j certain place [] = Line
carried_or_line j certain place (from ∷ others) =
    if is_carrier j certain place from false then Carried from false
    else if is_carrier j certain place from true then Carried from true
    else carried_or_line j certain place others

-- The place of the same net a step before.
abbrev pub before : Job → ℕ → ℕ
before j place = at j (step_of j place - 1) (net_of j place)

-- The class of a place, from the certain values and the classes of the places before it, is the first that applies.
abbrev pub class_by : Job → (ℕ → Value) → (ℕ → ClassByNumber) → ℕ → ClassByNumber
class_by j certain class place =
    if is_local j certain place false then Local false
    else if is_local j certain place true then Local true
    else if is_free j certain place then Free
    else if passes_on j certain class place then Carried (before j place) false
    else carried_or_line j certain place (arguments j certain place)

abbrev pub class_in : List ClassByNumber → ℕ → ClassByNumber
class_in classes place = slice_index_or classes place Line

-- The classes of the first n places, in place order.
unfoldable pub classes : Job → (ℕ → Value) → ℕ → List ClassByNumber
classes j certain zero = []
classes j certain (suc n) = classes j certain n ++ class_by j certain (class_in (classes j certain n)) n ∷ []

-- The class of a place depends on the places before it alone.
abbrev pub class_of : Job → (ℕ → Value) → ℕ → ClassByNumber
class_of j certain place = class_in (classes j certain (place + 1)) place

-- The class as callers see it, with the place that it is carried from in place of its number.
abbrev pub class_seen : Job → ClassByNumber → Class
class_seen j (Local bit) = seen.Local bit
class_seen j Free = seen.Free
class_seen j (Carried from inverted) = seen.Carried (place_at j from) inverted
class_seen j Line = seen.Line
