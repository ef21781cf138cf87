-- A net that has a driver keeps it, whatever items come.
use Rattle.std.proofs.Common.{◌≡◌, ℕ, zero, suc, ◌+◌, ◌≤◌, ◌==◌, Bool, true, false, not, ◌&&◌, ◌||◌, List, [], ◌∷◌, ◌++◌, length, take, drop, refl, subst, arith, Option, Some, None, IfOk, Ok}
use Rattle.std.specs.List.{AllByRecursion}
use Rattle.design_cell.specs.Table.{Table}
use Rattle.design_cell.specs.declared.gate.Gate.{Gate}
use Rattle.netlist_grammar.specs.declared.tree.Word.{Word}
use Rattle.netlist_grammar.specs.declared.tree.Expr.{Expr}
use Rattle.netlist_grammar.specs.declared.tree.Connection.{Connection}
use Rattle.netlist_grammar.specs.declared.tree.NamedConnection.{NamedConnection}
use Rattle.netlist_grammar.specs.declared.tree.Connections.{Connections}
use Rattle.netlist_grammar.specs.declared.tree.Connections.TheVariants.{Positional, Named}
use Rattle.netlist_grammar.specs.declared.tree.NetKind.{NetKind}
use Rattle.netlist_grammar.specs.declared.tree.NetKind.TheVariants as kind
use Rattle.netlist_grammar.specs.declared.tree.GateKind.{GateKind}
use Rattle.netlist_grammar.specs.declared.tree.GateKind.TheVariants.{Logic, Pullup, Pulldown}
use Rattle.netlist_grammar.specs.declared.tree.InstanceItem.{InstanceItem}
use Rattle.netlist_grammar.specs.declared.tree.Item.{Item}
use Rattle.netlist_grammar.specs.declared.tree.Item.TheVariants as item
use Rattle.netlist_grammar.specs.declared.tree.Module.{Module}
use Rattle.design_circuit.specs.Job.{primitive_of}
use Rattle.design_circuit.specs.declared.design.Pin.{Pin}
use Rattle.design_circuit.specs.declared.design.Driver.{Driver}
use Rattle.design_circuit.specs.declared.design.Driver.TheVariants.{Undriven, Constant}
use Rattle.elab_nets.specs.declared.fault.ElabErr.TheVariants.{PortMismatch, Width}
use Rattle.elab_nets.specs.Outcome.{Outcome, or_refuse}
use Rattle.elab_nets.specs.Ranges.{width_of}
use Rattle.elab_nets.specs.State.{State, has_driver, with_driver, driven}
use Rattle.elab_names.specs.declared.scope.Entry.{Entry}
use Rattle.elab_names.specs.Sets.{has, is_among}
use Rattle.elab_names.specs.Scope.{Scope, entry_of, named_instance}
use Rattle.elab_names.specs.Here.{Here, here_of}
use Rattle.elab_names.specs.Names.{opened}
use Rattle.elab_bits.specs.declared.run.Lane.{Lane}
use Rattle.elab_bits.specs.declared.expression.Role.TheVariants.{Driven, Taken, Terminal}
use Rattle.elab_bits.specs.Lanes.{single, lanes_in}
use Rattle.elab_bits.specs.Bits.{bits_of, whole_name}
use Rattle.elab_bits.specs.Drive.{all_driven}
use Rattle.elab_prims.specs.declared.definitions.Definition.{Definition}
use Rattle.elab_prims.specs.declared.definitions.Definition.TheVariants as definition
use Rattle.elab_prims.specs.Definitions.{definition_of}
use Rattle.elab_gates.specs.Terminals.{single_net, single_pin, one_net, one_pin, output_nets, input_pins}
use Rattle.elab_gates.specs.Gates.{output_count, takes, cell, each_with, connected_gate, pull, gate_of}
use Rattle.elab_gates.specs.Assigns.{drives, assigned, assign_item, value_of}
use Rattle.elab_gates.specs.Primitives.{are_there, terminal_of, connected_pins, udp_driver, connected_terminals, connected_udp, udp_of}
use Rattle.elab_joins.specs.Connect.{connected_as, connected, all_positional, all_named, all_connected}
use Rattle.elab_joins.specs.Joined.{inner_scope, joined}
use Rattle.elab_tree.specs.Library.{Library, module_of}
use Rattle.elab_tree.specs.Elaborate.{entered, Body, instance_of, instance_with, instance_item, item_with, items_with, body}
use Rattle.elab_tree.specs.Staying.{DriversStay}
use Rattle.elab_tree.proofs.Steps.{also, chosen, any_ok}
use Rattle.elab_tree.proofs.Lists.{all_append}
use Rattle.elab_tree.proofs.Staying.{Kept, IsFree, free_now, with_kept, KeptWith, IsAbove, opened_above, bits_kept, all_kept, fed_kept}

-- ---- terminals

-- The net is taken, and had no driver at first.
pub record Takes (a : State) (n : ℕ × Here) : Type 0 where
  pub kept : Kept a n.1.state
  pub free : IsFree a n.0

net_taken : (a : State) (at net : ℕ) (here : Here) (b : State) → Kept a b → IfOk (driven at net Undriven b) (λ (s : State). Takes a (net, here_of here.scope s))
net_taken a at net here b kept = chosen _ (has_driver b net) _ _ (λ _. tt) (λ none. (let free = free_now a b net kept none in record { kept = with_kept a b net Undriven kept free; free = free }))

net_kept : (a : State) (e : Expr) (here : Here) → Kept a here.state → IfOk (one_net e here) (Takes a)
net_kept a e here kept =
    also _ _ (bits_of Terminal e here) _ (bits_kept a Terminal e here kept) (λ b more.
    also (λ _. Unit {0}) _ (or_refuse (single_net (single b.0)) (PortMismatch e.at)) _ (any_ok _) (λ n _.
    also _ _ (driven n.0 n.1 Undriven b.1.state) _ (net_taken a n.0 n.1 b.1 b.1.state more) (λ s taken. taken)))

-- None of these nets had a driver at first.
pub record TakesAll (a : State) (l : List ℕ × Here) : Type 0 where
  pub kept : Kept a l.1.state
  pub free : AllByRecursion (IsFree a) l.0

outputs_kept : (a : State) (before : List ℕ) (es : List Expr) (here : Here) → Kept a here.state → AllByRecursion (IsFree a) before → IfOk (output_nets before es here) (TakesAll a)
outputs_kept a before [] here kept free = record { kept = kept; free = free }
outputs_kept a before (e ∷ es) here kept free =
    also _ _ (one_net e here) _ (net_kept a e here kept) (λ n taken. outputs_kept a (before ++ n.0 ∷ []) es n.1 taken.kept (all_append _ before (n.0 ∷ []) free (taken.free, tt)))

pin_kept : (a : State) (e : Expr) (here : Here) → Kept a here.state → IfOk (one_pin e here) (KeptWith a)
pin_kept a e here kept =
    also _ _ (bits_of Terminal e here) _ (bits_kept a Terminal e here kept) (λ b more.
    also (λ _. Unit {0}) _ (or_refuse (single_pin (single b.0)) (Width e.at)) _ (any_ok _) (λ p _. more))

inputs_kept : (a : State) (before : List Pin) (es : List Expr) (here : Here) → Kept a here.state → IfOk (input_pins before es here) (KeptWith a)
inputs_kept a before [] here kept = kept
inputs_kept a before (e ∷ es) here kept = also _ _ (one_pin e here) _ (pin_kept a e here kept) (λ p more. inputs_kept a (before ++ p.0 ∷ []) es p.1 more)

-- ---- gates

each_kept : (a : State) (nets : List ℕ) (d : Driver) (b : State) → AllByRecursion (IsFree a) nets → Kept a b → Kept a (each_with nets d b)
each_kept a [] d b free kept = kept
each_kept a (net ∷ nets) d b free kept = each_kept a nets d (with_driver net d b) free.1 (with_kept a b net d kept free.0)

-- What is left of an answer.
abbrev pub KeptHere : State → Here → Type 0
KeptHere a here = Kept a here.state

connected_kept : (a : State) (g : Gate) (outputs inputs : List Expr) (here : Here) → Kept a here.state → IfOk (connected_gate g outputs inputs here) (KeptHere a)
connected_kept a g outputs inputs here kept =
    also _ _ (output_nets [] outputs here) _ (outputs_kept a [] outputs here kept tt) (λ o taken.
    also _ _ (input_pins [] inputs o.1) _ (inputs_kept a [] inputs o.1 taken.kept) (λ p more.
    each_kept a o.0 (cell g p.0) p.1.state taken.free more))

pull_kept : (a : State) (bit : Bool) (at : ℕ) (terminals : List Expr) (here : Here) → Kept a here.state → IfOk (pull bit at terminals here) (KeptHere a)
pull_kept a bit at [] here kept = tt
pull_kept a bit at (e ∷ []) here kept = also _ _ (one_net e here) _ (net_kept a e here kept) (λ n taken. with_kept a n.1.state n.0 (Constant bit) taken.kept taken.free)
pull_kept a bit at (_ ∷ _ ∷ _) here kept = tt

gate_kept : (a : State) (kind : GateKind) (at : ℕ) (terminals : List Expr) (here : Here) → Kept a here.state → IfOk (gate_of kind at terminals here) (KeptHere a)
gate_kept a (Logic g) at terminals here kept =
    chosen _ (takes g (length terminals)) _ _ (λ _. connected_kept a g (take (output_count g (length terminals)) terminals) (drop (output_count g (length terminals)) terminals) here kept) (λ _. tt)
gate_kept a Pullup at terminals here kept = pull_kept a true at terminals here kept
gate_kept a Pulldown at terminals here kept = pull_kept a false at terminals here kept

-- ---- assignments

assigned_kept : (a : State) (ls : List Lane) (right : Expr) (here : Here) → Kept a here.state → IfOk (assigned ls right here) (KeptHere a)
assigned_kept a ls right here kept =
    also _ _ (bits_of Taken right here) _ (bits_kept a Taken right here kept) (λ r more.
    also _ _ (drives right.at ls r.0 r.1.state) _ (chosen _ (length ls == length r.0) _ _ (λ _. all_kept a ls r.0 r.1.state more) (λ _. tt)) (λ s done. done))

assign_kept : (a : State) (left right : Expr) (here : Here) → Kept a here.state → IfOk (assign_item left right here) (KeptHere a)
assign_kept a left right here kept = also _ _ (bits_of Driven left here) _ (bits_kept a Driven left here kept) (λ l more. assigned_kept a l.0 right l.1 more)

value_kept : (a : State) (w : Word) (v : Option Expr) (here : Here) → Kept a here.state → IfOk (value_of w v here) (KeptHere a)
value_kept a w None here kept = kept
value_kept a w (Some right) here kept = assign_kept a (whole_name w) right here kept

-- ---- primitives

connected_pins_kept : (a : State) (at : ℕ) (before : List Pin) (cs : List Connection) (here : Here) → Kept a here.state → IfOk (connected_pins at before cs here) (KeptWith a)
connected_pins_kept a at before [] here kept = kept
connected_pins_kept a at before (c ∷ cs) here kept =
    also (λ _. Unit {0}) _ (terminal_of at c) _ (any_ok _) (λ e _.
    also _ _ (one_pin e here) _ (pin_kept a e here kept) (λ p more. connected_pins_kept a at (before ++ p.0 ∷ []) cs p.1 more))

abbrev pub TakesFirst : State → (ℕ × List Pin) × Here → Type 0
TakesFirst a t = Takes a (t.0.0, t.1)

terminals_kept : (a : State) (at : ℕ) (cs : List Connection) (here : Here) → Kept a here.state → IfOk (connected_terminals at cs here) (TakesFirst a)
terminals_kept a at [] here kept = tt
terminals_kept a at (c ∷ cs) here kept =
    also (λ _. Unit {0}) _ (terminal_of at c) _ (any_ok _) (λ e _.
    also _ _ (one_net e here) _ (net_kept a e here kept) (λ n taken.
    also _ _ (connected_pins at [] cs n.1) _ (connected_pins_kept a at [] cs n.1 taken.kept) (λ p more. record { kept = more; free = taken.free })))

udp_connected_kept : (a : State) (number : ℕ) (table : Table) (at : ℕ) (cs : List Connection) (here : Here) → Kept a here.state → IfOk (connected_udp number table at cs here) (KeptHere a)
udp_connected_kept a number table at cs here kept =
    also _ _ (connected_terminals at cs here) _ (terminals_kept a at cs here kept) (λ t taken.
    also (λ _. Unit {0}) _ (udp_driver number table at t.0.1) _ (any_ok _) (λ d _. with_kept a t.1.state t.0.0 d taken.kept taken.free))

udp_kept : (a : State) (number : ℕ) (table : Table) (at : ℕ) (c : Connections) (here : Here) → Kept a here.state → IfOk (udp_of number table at c here) (KeptHere a)
udp_kept a number table at (Named cs) here kept = tt
udp_kept a number table at (Positional cs) here kept = chosen _ (are_there cs && (length cs == table.inputs + 1)) _ _ (λ _. udp_connected_kept a number table at cs here kept) (λ _. tt)

-- ---- connections

port_kept : (a : State) (what : NetKind) (port : Entry) (e : Expr) (here : Here) → length a.drivers ≤ port.base → Kept a here.state → IfOk (connected_as what port e here) (KeptHere a)
port_kept a kind.Input port e here new kept =
    also _ _ (bits_of Taken e here) _ (bits_kept a Taken e here kept) (λ l more.
    chosen _ (length l.0 == width_of port.range) _ _ (λ _. fed_kept a port.base l.0 l.1.state new more) (λ _. tt))
port_kept a kind.Output port e here new kept =
    also _ _ (bits_of Driven e here) _ (bits_kept a Driven e here kept) (λ l more.
    chosen _ (length l.0 == width_of port.range) _ _
    (λ _. also _ _ (all_driven l.0 (lanes_in e.at port.base (width_of port.range)) l.1.state) _ (all_kept a l.0 _ l.1.state more) (λ s done. done)) (λ _. tt))
port_kept a kind.Wire port e here new kept = kept
port_kept a kind.Supply0 port e here new kept = kept
port_kept a kind.Supply1 port e here new kept = kept
port_kept a kind.Reg port e here new kept = kept

connection_kept : (a : State) (inner : Scope) (name : List ℕ) (v : Option Expr) (here : Here) → IsAbove a inner → Kept a here.state → IfOk (connected (entry_of inner name) v here) (KeptHere a)
connection_kept a inner name v here above kept = by (entry_of inner name) refl v
  where
    by : (o : Option Entry) → entry_of inner name ≡ o → (v : Option Expr) → IfOk (connected o v here) (KeptHere a)
    by (Some port) at (Some e) = port_kept a port.what port e here (above.nets name port at) kept
    by (Some port) at None = kept
    by None at v = kept

positional_kept : (a : State) (inner : Scope) (ports : List Word) (cs : List Connection) (here : Here) → IsAbove a inner → Kept a here.state → IfOk (all_positional inner ports cs here) (KeptHere a)
positional_kept a inner ports [] here above kept = kept
positional_kept a inner [] (c ∷ cs) here above kept = tt
positional_kept a inner (p ∷ ps) (c ∷ cs) here above kept =
    also _ _ (connected (entry_of inner p.text) c.value here) _ (connection_kept a inner p.text c.value here above kept) (λ h more. positional_kept a inner ps cs h above more)

named_kept : (a : State) (inner : Scope) (ports : List Word) (seen : List (List ℕ)) (cs : List NamedConnection) (here : Here) → IsAbove a inner → Kept a here.state → IfOk (all_named inner ports seen cs here) (KeptHere a)
named_kept a inner ports seen [] here above kept = kept
named_kept a inner ports seen (c ∷ cs) here above kept =
    chosen _ (has seen c.port.text || not (is_among ports c.port.text)) _ _ (λ _. tt) (λ _.
    also _ _ (connected (entry_of inner c.port.text) c.value here) _ (connection_kept a inner c.port.text c.value here above kept) (λ h more. named_kept a inner ports (seen ++ c.port.text ∷ []) cs h above more))

connections_kept : (a : State) (inner : Scope) (ports : List Word) (c : Connections) (here : Here) → IsAbove a inner → Kept a here.state → IfOk (all_connected inner ports c here) (KeptHere a)
connections_kept a inner ports (Positional cs) here above kept = positional_kept a inner ports cs here above kept
connections_kept a inner ports (Named cs) here above kept = named_kept a inner ports [] cs here above kept

-- ---- instances and items

none_found : (e : Entry) → None ≡ Some e → ⊥
none_found e is = absurd cc

joined_kept : (a : State) (i : InstanceItem) (m : Module) (here : Here) → Kept a here.state → IfOk (joined i m here) (KeptWith a)
joined_kept a i m here kept =
    also (λ _. Unit {0}) _ (or_refuse i.name (PortMismatch i.definition.at)) _ (any_ok _) (λ w _.
    also (λ _. Unit {0}) _ (named_instance w here.scope) _ (any_ok _) (λ outer _.
    also _ _ (opened m.ports m.items (here_of (inner_scope here.scope.prefix w) here.state)) _
    (opened_above a m.ports m.items (here_of (inner_scope here.scope.prefix w) here.state) (record { kept = kept; above = record { nets = λ name e found. absurd (none_found e found) } })) (λ inner open_at.
    also _ _ (all_connected inner.scope m.ports i.connections (here_of outer inner.state)) _
    (connections_kept a inner.scope m.ports i.connections (here_of outer inner.state) open_at.above open_at.kept) (λ done more. more))))

-- what elaborates the items of a module loses no driver
pub record BodyKept (a : State) (b : Body) : Type 0 where
  pub kept : (path : List ℕ) (is : List Item) (here : Here) → Kept a here.state → IfOk (b path is here) (KeptHere a)

instance_kept : (a : State) (l : Library) (path : List ℕ) (room : ℕ) (b : Body) (o : Option Definition) (i : InstanceItem) (here : Here) → BodyKept a b → Kept a here.state → IfOk (instance_of l path room b o i here) (KeptHere a)
instance_kept a l path room b None i here keeps kept = tt
instance_kept a l path room b (Some (definition.Primitive k)) i here keeps kept = udp_kept a k (primitive_of l.tables k) i.definition.at i.connections here kept
instance_kept a l path room b (Some (definition.Module k)) i here keeps kept =
    also (λ _. Unit {0}) _ (entered path room i.definition.text k) _ (any_ok _) (λ n _.
    also _ _ (joined i (module_of l n) here) _ (joined_kept a i (module_of l n) here kept) (λ j more.
    also _ _ (b (path ++ n ∷ []) (module_of l n).items j.1) _ (keeps.kept (path ++ n ∷ []) (module_of l n).items j.1 more) (λ done last. last)))

items_kept : (a : State) (l : Library) (path : List ℕ) (room : ℕ) (b : Body) → BodyKept a b → (is : List Item) (here : Here) → Kept a here.state → IfOk (items_with (instance_with l path room b) is here) (KeptHere a)
items_kept a l path room b keeps [] here kept = kept
items_kept a l path room b keeps (i ∷ is) here kept = also _ _ (item_with (instance_with l path room b) i here) _ (by i) (λ h more. items_kept a l path room b keeps is h more)
  where
    by : (i : Item) → IfOk (item_with (instance_with l path room b) i here) (KeptHere a)
    by (item.Declare d) = value_kept a d.name d.value here kept
    by (item.Gate g) = gate_kept a g.kind g.at g.terminals here kept
    by (item.Assign left right) = assign_kept a left right here kept
    by (item.Instance i) = instance_kept a l path room b (definition_of l.source i.definition.text) i here keeps kept

body_kept : (a : State) (l : Library) (room : ℕ) → BodyKept a (body l room)
unfolding body
body_kept a l zero = record { kept = λ path is here kept. kept }
body_kept a l (suc room) = more (body_kept a l room)
  where
    more : BodyKept a (body l room) → BodyKept a (body l (suc room))
    more keeps = record { kept = λ path is here kept. items_kept a l path room (body l room) keeps is here kept }

first_kept : (s : State) → length s.drivers ≡ length s.names → Kept s s
first_kept s same = record { drivers = record { stay = λ net d is. is }; as_many = same; longer = omega arith }

-- Items leave each driver that was there before them.
pub items_stay : (l : Library) (path : List ℕ) (room : ℕ) (is : List Item) (here done : Here) → length here.state.drivers ≡ length here.state.names → items_with (instance_item l path room) is here ≡ Ok done
    → DriversStay here.state done.state
items_stay l path room is here done same at =
    (subst (λ (r : Outcome Here). IfOk r (KeptHere here.state)) at (items_kept here.state l path room (body l room) (body_kept here.state l room) is here (first_kept here.state same))).drivers
