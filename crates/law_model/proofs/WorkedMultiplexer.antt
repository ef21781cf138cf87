-- The multiplexer worked by hand: the definitions compute to what stands in specs/WorkedMultiplexer.
use Rattle.std.proofs.Common.{◌≡◌, ℕ, ◌||◌, Bool, true, false, [], ◌∷◌, refl}
use Rattle.std.specs.Prelude.{pos, negsuc}
use Rattle.design_cell.specs.declared.value.Value.TheVariants.{X}
use Rattle.design_cell.specs.declared.gate.Gate.TheVariants.{Or}
use Rattle.design_cell.specs.Gate.{gate_of}
use Rattle.design_cell.specs.Value.{bit_value}
use Rattle.design_circuit.specs.Rule.{rule, arguments}
use Rattle.design_circuit.specs.World.{world}
use Rattle.law_model.specs.Assignment.{for_every}
use Rattle.law_model.specs.Class.{classes, class_of}
use Rattle.law_model.specs.Root.{roots}
use Rattle.law_model.specs.Cone.{is_carried, essentials, cones, in_cone, table}
use Rattle.law_model.specs.Query.{variables, literal, denial}
use Rattle.law_model.specs.WorkedMultiplexer.{mux, certain_data, MuxClasses, MuxEssentials, MuxCone, MuxSources, MuxVariables, MuxDenied}

pub mux_classes : MuxClasses
unfolding rule arguments for_every
mux_classes = refl

pub mux_essentials : MuxEssentials
unfolding rule arguments for_every essentials
mux_essentials = refl

pub mux_cone : MuxCone
unfolding rule arguments for_every classes essentials cones
mux_cone = refl

pub mux_sources : MuxSources
unfolding rule arguments for_every classes essentials cones
mux_sources = refl

pub mux_variables : MuxVariables
unfolding rule arguments for_every classes essentials cones variables
mux_variables = refl

pub mux_denied : MuxDenied
unfolding rule world
mux_denied = refl

-- The literals: s is variable 1, a is as s, b its complement, y is variable 2.
pub a_literal : literal mux certain_data 6 4 true ≡ pos 1
unfolding rule arguments for_every classes essentials cones variables roots literal
a_literal = refl

pub not_a_literal : literal mux certain_data 6 4 false ≡ negsuc 0
unfolding rule arguments for_every classes essentials cones variables roots literal
not_a_literal = refl

pub b_literal : literal mux certain_data 6 5 true ≡ negsuc 0
unfolding rule arguments for_every classes essentials cones variables roots literal
b_literal = refl

pub not_b_literal : literal mux certain_data 6 5 false ≡ pos 1
unfolding rule arguments for_every classes essentials cones variables roots literal
not_b_literal = refl

pub y_literal : literal mux certain_data 6 6 true ≡ pos 2
unfolding rule arguments for_every classes essentials cones variables roots literal
y_literal = refl

pub denial_is : denial mux certain_data 6 ≡ negsuc 1 ∷ []
unfolding rule arguments for_every classes essentials cones variables roots literal world
denial_is = refl

-- The tables: s is open, y is 'a or b'.
pub s_table : (bits : ℕ → Bool) → table mux certain_data 2 bits ≡ X
unfolding rule arguments for_every essentials table
s_table bits = refl

pub or_gate : (a b : Bool) → gate_of Or (bit_value a ∷ bit_value b ∷ []) ≡ bit_value (a || b)
or_gate false false = refl
or_gate false true = refl
or_gate true false = refl
or_gate true true = refl

pub y_table : (bits : ℕ → Bool) → table mux certain_data 6 bits ≡ bit_value (bits 4 || bits 5)
unfolding rule arguments for_every essentials table
y_table bits = or_gate (bits 4) (bits 5)

pub y_inside : in_cone mux certain_data 6 6 ≡ true
unfolding rule arguments for_every classes essentials cones
y_inside = refl

pub y_free : is_carried (class_of mux certain_data 6) ≡ false
unfolding rule arguments for_every classes
y_free = refl
