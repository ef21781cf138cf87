-- The terminals of gates and of instances of primitives.
use Rattle.std.specs.Prelude.{ℕ, Option, Some, None, List, [], ◌∷◌, ◌++◌, Ok}
use Rattle.netlist_grammar.specs.declared.tree.Expr.{Expr}
use Rattle.design_circuit.specs.declared.design.Pin.{Pin}
use Rattle.design_circuit.specs.declared.design.Pin.TheVariants.{Net}
use Rattle.design_circuit.specs.declared.design.Driver.TheVariants.{Undriven}
use Rattle.elab_nets.specs.declared.fault.ElabErr.TheVariants.{PortMismatch, Width}
use Rattle.elab_nets.specs.Outcome.{Outcome, after, or_refuse}
use Rattle.elab_nets.specs.State.{State, driven}
use Rattle.elab_names.specs.Here.{Here, here_of}
use Rattle.elab_bits.specs.declared.run.Lane.{Lane}
use Rattle.elab_bits.specs.declared.expression.Role.TheVariants.{Terminal}
use Rattle.elab_bits.specs.Lanes.{single}
use Rattle.elab_bits.specs.Bits.{bits_of}

abbrev pub with_state : Here → State → Here
with_state here s = here_of here.scope s

-- where a net bit stands, and its number
abbrev pub net_at : ℕ → Pin → Option (ℕ × ℕ)
net_at at (Net net) = Some (at, net)
net_at at _ = None

abbrev pub single_net : Option Lane → Option (ℕ × ℕ)
single_net None = None
single_net (Some l) = net_at l.at l.pin

abbrev pub single_pin : Option Lane → Option Pin
single_pin None = None
single_pin (Some l) = Some l.pin

-- An output terminal is a single net bit without a driver. It is taken at once, and its driver comes when the pins are
-- known.
abbrev pub one_net : Expr → Here → Outcome (ℕ × Here)
one_net e here =
    after (bits_of Terminal e here) (λ b.
    after (or_refuse (single_net (single b.0)) (PortMismatch e.at)) (λ n.
    after (driven n.0 n.1 Undriven b.1.state) (λ s.
    Ok (n.1, with_state b.1 s))))

-- An input terminal has one bit.
abbrev pub one_pin : Expr → Here → Outcome (Pin × Here)
one_pin e here =
    after (bits_of Terminal e here) (λ b.
    after (or_refuse (single_pin (single b.0)) (Width e.at)) (λ pin.
    Ok (pin, b.1)))

-- The output terminals from left to right, behind the nets before.
abbrev pub output_nets : List ℕ → List Expr → Here → Outcome (List ℕ × Here)
output_nets before [] here = Ok (before, here)
output_nets before (e ∷ es) here = after (one_net e here) (λ n. output_nets (before ++ n.0 ∷ []) es n.1)

-- The input terminals from left to right, behind the pins before.
abbrev pub input_pins : List Pin → List Expr → Here → Outcome (List Pin × Here)
input_pins before [] here = Ok (before, here)
input_pins before (e ∷ es) here = after (one_pin e here) (λ p. input_pins (before ++ p.0 ∷ []) es p.1)
