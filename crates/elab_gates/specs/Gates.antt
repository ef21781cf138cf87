-- Gates, pullups and pulldowns (IEEE 1364-2005, clauses 7.2, 7.3 and 7.8).
use Rattle.std.specs.Prelude.{ℕ, ◌-◌, Bool, true, false, ◌&&◌, nat_le, List, [], ◌∷◌, length, take, drop, Ok, Err}
use Rattle.std.specs.Prelude.{if◌then◌else◌}
use Rattle.design_cell.specs.declared.gate.Gate.{Gate}
use Rattle.design_cell.specs.declared.gate.Gate.TheVariants as kind
use Rattle.netlist_grammar.specs.declared.tree.Expr.{Expr}
use Rattle.netlist_grammar.specs.declared.tree.GateKind.{GateKind}
use Rattle.netlist_grammar.specs.declared.tree.GateKind.TheVariants.{Logic, Pullup, Pulldown}
use Rattle.netlist_grammar.specs.declared.tree.GateItem.{GateItem}
use Rattle.design_circuit.specs.declared.design.Pin.{Pin}
use Rattle.design_circuit.specs.declared.design.Table.TheVariants as table
use Rattle.design_circuit.specs.declared.design.Driver.{Driver}
use Rattle.design_circuit.specs.declared.design.Driver.TheVariants.{Constant, Cell}
use Rattle.elab_nets.specs.declared.fault.ElabErr.TheVariants.{PortMismatch}
use Rattle.elab_nets.specs.Outcome.{Outcome, after}
use Rattle.elab_nets.specs.State.{State, with_driver}
use Rattle.elab_names.specs.Here.{Here}
use Rattle.elab_gates.specs.Terminals.{with_state, one_net, output_nets, input_pins}

-- How many of so many terminals are outputs, which come first: all but the last of buf and not, else one.
abbrev pub output_count : Gate → ℕ → ℕ
output_count kind.Buf terminals = terminals - 1
output_count kind.Not terminals = terminals - 1
output_count _ terminals = 1

-- An output at least; buf and not have one input, the others 1 to 10 (profile).
abbrev pub takes : Gate → ℕ → Bool
takes kind.Buf terminals = nat_le 2 terminals
takes kind.Not terminals = nat_le 2 terminals
takes _ terminals = nat_le 2 terminals && nat_le terminals 11

abbrev pub cell : Gate → List Pin → Driver
cell gate pins = Cell (table.Gate gate) pins

-- The nets take the driver, each of them.
abbrev pub each_with : List ℕ → Driver → State → State
each_with [] driver s = s
each_with (net ∷ nets) driver s = each_with nets driver (with_driver net driver s)

-- The outputs, the inputs, and then the outputs take the gate.
abbrev pub connected_gate : Gate → List Expr → List Expr → Here → Outcome Here
connected_gate gate outputs inputs here =
    after (output_nets [] outputs here) (λ o.
    after (input_pins [] inputs o.1) (λ p.
    Ok (with_state p.1 (each_with o.0 (cell gate p.0) p.1.state))))

-- The number of terminals comes first.
abbrev pub logic_gate : Gate → ℕ → List Expr → Here → Outcome Here
logic_gate gate at terminals here =
    let count = output_count gate (length terminals) in
    if takes gate (length terminals)
    then connected_gate gate (take count terminals) (drop count terminals) here
    else Err (PortMismatch at)

-- A pullup or a pulldown has one terminal, which is always 1 or always 0.
abbrev pub pull : Bool → ℕ → List Expr → Here → Outcome Here
pull bit at (e ∷ []) here = after (one_net e here) (λ n. Ok (with_state n.1 (with_driver n.0 (Constant bit) n.1.state)))
pull bit at _ here = Err (PortMismatch at)

abbrev pub gate_of : GateKind → ℕ → List Expr → Here → Outcome Here
gate_of (Logic gate) at terminals here = logic_gate gate at terminals here
gate_of Pullup at terminals here = pull true at terminals here
gate_of Pulldown at terminals here = pull false at terminals here

abbrev pub gate_item : GateItem → Here → Outcome Here
gate_item g here = gate_of g.kind g.at g.terminals here
