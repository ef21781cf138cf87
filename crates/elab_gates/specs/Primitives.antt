-- Instances of primitives (IEEE 1364-2005, clause 8.6).
use Rattle.std.specs.Prelude.{ℕ, ◌+◌, ◌==◌, Bool, ◌&&◌, nat_le, is_some, List, [], ◌∷◌, ◌++◌, length, Ok, Err}
use Rattle.std.specs.Prelude.{if◌then◌else◌}
use Rattle.std.specs.List.{list_all}
use Rattle.design_cell.specs.Table.{Table}
use Rattle.netlist_grammar.specs.declared.tree.Expr.{Expr}
use Rattle.netlist_grammar.specs.declared.tree.Connection.{Connection}
use Rattle.netlist_grammar.specs.declared.tree.Connections.{Connections}
use Rattle.netlist_grammar.specs.declared.tree.Connections.TheVariants.{Positional, Named}
use Rattle.netlist_grammar.specs.declared.tree.InstanceItem.{InstanceItem}
use Rattle.design_circuit.specs.declared.design.Pin.{Pin}
use Rattle.design_circuit.specs.declared.design.Table.TheVariants as kind
use Rattle.design_circuit.specs.declared.design.Latching.{Latching}
use Rattle.design_circuit.specs.declared.design.Driver.{Driver}
use Rattle.design_circuit.specs.declared.design.Driver.TheVariants.{Cell, Register}
use Rattle.elab_nets.specs.declared.fault.ElabErr.TheVariants.{PortMismatch, TooManyLive}
use Rattle.elab_nets.specs.Outcome.{Outcome, after, or_refuse}
use Rattle.elab_nets.specs.State.{with_driver}
use Rattle.elab_names.specs.Here.{Here}
use Rattle.elab_prims.specs.Pins.{live_count, clocks_of}
use Rattle.elab_gates.specs.Terminals.{with_state, one_net, one_pin}

-- each connection is there
abbrev pub are_there : List Connection → Bool
are_there cs = list_all (λ (c : Connection). is_some c.value) cs

-- What is connected. `at` is the definition's name.
abbrev pub terminal_of : ℕ → Connection → Outcome Expr
terminal_of at c = or_refuse c.value (PortMismatch at)

-- The input terminals from left to right, behind the pins before.
abbrev pub connected_pins : ℕ → List Pin → List Connection → Here → Outcome (List Pin × Here)
connected_pins at before [] here = Ok (before, here)
connected_pins at before (c ∷ cs) here =
    after (terminal_of at c) (λ e.
    after (one_pin e here) (λ p.
    connected_pins at (before ++ p.0 ∷ []) cs p.1))

abbrev pub latching : ℕ → Table → List Pin → Latching
latching number table pins = record { udp = number; pins = pins; clocks = clocks_of table pins; start = table.start }

-- A combinational primitive is a cell. A sequential one is a register, with at most 6 live pins (profile).
abbrev pub udp_driver : ℕ → Table → ℕ → List Pin → Outcome Driver
udp_driver number table at pins =
    if table.sequential
    then (if nat_le (live_count pins) 6 then Ok (Register (latching number table pins)) else Err (TooManyLive at))
    else Ok (Cell (kind.Udp number) pins)

-- The net of the output terminal and the pins of the input terminals, from left to right.
abbrev pub connected_terminals : ℕ → List Connection → Here → Outcome ((ℕ × List Pin) × Here)
connected_terminals at [] here = Err (PortMismatch at)
connected_terminals at (c ∷ cs) here =
    after (terminal_of at c) (λ e.
    after (one_net e here) (λ n.
    after (connected_pins at [] cs n.1) (λ p.
    Ok ((n.0, p.0), p.1))))

-- The terminals, and then the output takes the primitive.
abbrev pub connected_udp : ℕ → Table → ℕ → List Connection → Here → Outcome Here
connected_udp number table at cs here =
    after (connected_terminals at cs here) (λ t.
    after (udp_driver number table at t.0.1) (λ driver.
    Ok (with_state t.1 (with_driver t.0.0 driver t.1.state))))

-- The number of terminals comes first: by position, each there, as many as the primitive has ports.
abbrev pub udp_of : ℕ → Table → ℕ → Connections → Here → Outcome Here
udp_of number table at (Named cs) here = Err (PortMismatch at)
udp_of number table at (Positional cs) here =
    if are_there cs && (length cs == table.inputs + 1)
    then connected_udp number table at cs here
    else Err (PortMismatch at)

-- An instance of the primitive at this position.
abbrev pub udp_item : ℕ → Table → InstanceItem → Here → Outcome Here
udp_item number table i here = udp_of number table i.definition.at i.connections here
