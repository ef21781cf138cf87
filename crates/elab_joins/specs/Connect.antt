-- The connections of an instance of a module (IEEE 1364-2005, clauses 12.3.3 to 12.3.6).
use Rattle.std.specs.Prelude.{ℕ, ◌==◌, not, ◌||◌, Option, Some, List, [], ◌∷◌, ◌++◌, length, Ok, Err, if◌then◌else◌}
use Rattle.netlist_grammar.specs.declared.tree.Word.{Word}
use Rattle.netlist_grammar.specs.declared.tree.Expr.{Expr}
use Rattle.netlist_grammar.specs.declared.tree.Connection.{Connection}
use Rattle.netlist_grammar.specs.declared.tree.NamedConnection.{NamedConnection}
use Rattle.netlist_grammar.specs.declared.tree.Connections.{Connections}
use Rattle.netlist_grammar.specs.declared.tree.Connections.TheVariants.{Positional, Named}
use Rattle.netlist_grammar.specs.declared.tree.NetKind.{NetKind}
use Rattle.netlist_grammar.specs.declared.tree.NetKind.TheVariants.{Input, Output}
use Rattle.elab_nets.specs.declared.fault.ElabErr.TheVariants.{PortMismatch, Width}
use Rattle.elab_nets.specs.Outcome.{Outcome, after}
use Rattle.elab_nets.specs.Ranges.{width_of}
use Rattle.elab_names.specs.declared.scope.Entry.{Entry}
use Rattle.elab_names.specs.Sets.{has, is_among}
use Rattle.elab_names.specs.Scope.{Scope, entry_of}
use Rattle.elab_names.specs.Here.{Here, here_of}
use Rattle.elab_bits.specs.declared.expression.Role.TheVariants.{Driven, Taken}
use Rattle.elab_bits.specs.Lanes.{lanes_in}
use Rattle.elab_bits.specs.Bits.{bits_of}
use Rattle.elab_bits.specs.Drive.{all_driven, fed}

-- The nets of an input port take the bits outside.
abbrev pub fed_input : Entry → Expr → Here → Outcome Here
fed_input port e here =
    after (bits_of Taken e here) (λ l.
    if length l.0 == width_of port.range
    then Ok (here_of l.1.scope (fed port.base l.0 l.1.state))
    else Err (Width e.at))

-- The nets outside take the bits of an output port, from left to right.
abbrev pub driven_output : Entry → Expr → Here → Outcome Here
driven_output port e here =
    after (bits_of Driven e here) (λ l.
    if length l.0 == width_of port.range
    then after (all_driven l.0 (lanes_in e.at port.base (width_of port.range)) l.1.state) (λ s.
    Ok (here_of l.1.scope s))
    else Err (Width e.at))

-- A port is an input or an output. Nothing else is connected.
abbrev pub connected_as : NetKind → Entry → Expr → Here → Outcome Here
connected_as Input port e here = fed_input port e here
connected_as Output port e here = driven_output port e here
connected_as _ port e here = Ok here

-- An empty connection connects nothing.
abbrev pub connected : Option Entry → Option Expr → Here → Outcome Here
connected (Some port) (Some e) here = connected_as port.what port e here
connected _ _ here = Ok here

-- By position, in the order of the ports: one connection too many is refused, also where it is empty.
abbrev pub all_positional : Scope → List Word → List Connection → Here → Outcome Here
all_positional inner ports [] here = Ok here
all_positional inner [] (c ∷ cs) here = Err (PortMismatch c.at)
all_positional inner (p ∷ ps) (c ∷ cs) here =
    after (connected (entry_of inner p.text) c.value here) (all_positional inner ps cs)

-- By name: each names a port, and no port comes twice. These names came before.
abbrev pub all_named : Scope → List Word → List (List ℕ) → List NamedConnection → Here → Outcome Here
all_named inner ports seen [] here = Ok here
all_named inner ports seen (c ∷ cs) here =
    if has seen c.port.text || not (is_among ports c.port.text)
    then Err (PortMismatch c.port.at)
    else after (connected (entry_of inner c.port.text) c.value here)
    (all_named inner ports (seen ++ c.port.text ∷ []) cs)

-- The connections from left to right, to the ports of a module that is open.
abbrev pub all_connected : Scope → List Word → Connections → Here → Outcome Here
all_connected inner ports (Positional cs) here = all_positional inner ports cs here
all_connected inner ports (Named cs) here = all_named inner ports [] cs here
