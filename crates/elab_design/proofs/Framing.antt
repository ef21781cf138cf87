-- What an item comes to doesn't hang on the names of the instances before it.
use Rattle.std.proofs.Common.{◌≡◌, ℕ, ◌+◌, ◌==◌, Bool, true, false, not, ◌&&◌, ◌||◌, List, [], ◌∷◌, ◌++◌, length, take, drop, refl, Option, Some, None, Ok, Err, if◌then◌else◌, IfOk, ap, subst}
use Rattle.std.proofs.lemmas.Bool.{not-true}
use Rattle.design_cell.specs.Table.{Table}
use Rattle.design_cell.specs.declared.gate.Gate.{Gate}
use Rattle.netlist_grammar.specs.Trees.{Range}
use Rattle.netlist_grammar.specs.declared.tree.Word.{Word}
use Rattle.netlist_grammar.specs.declared.tree.Part.{Part}
use Rattle.netlist_grammar.specs.declared.tree.PartKind.{PartKind}
use Rattle.netlist_grammar.specs.declared.tree.PartKind.TheVariants.{Whole, Bit, Slice, Literal}
use Rattle.netlist_grammar.specs.declared.tree.Expr.{Expr}
use Rattle.netlist_grammar.specs.declared.tree.NetKind.{NetKind}
use Rattle.netlist_grammar.specs.declared.tree.NetKind.TheVariants as kind
use Rattle.netlist_grammar.specs.declared.tree.Declare.{Declare}
use Rattle.netlist_grammar.specs.declared.tree.Connection.{Connection}
use Rattle.netlist_grammar.specs.declared.tree.NamedConnection.{NamedConnection}
use Rattle.netlist_grammar.specs.declared.tree.Connections.{Connections}
use Rattle.netlist_grammar.specs.declared.tree.Connections.TheVariants.{Positional, Named}
use Rattle.netlist_grammar.specs.declared.tree.GateKind.{GateKind}
use Rattle.netlist_grammar.specs.declared.tree.GateKind.TheVariants.{Logic, Pullup, Pulldown}
use Rattle.netlist_grammar.specs.declared.tree.Item.{Item}
use Rattle.netlist_grammar.specs.declared.tree.Item.TheVariants as item
use Rattle.netlist_grammar.specs.declared.tree.InstanceItem.{InstanceItem}
use Rattle.netlist_grammar.specs.declared.tree.Module.{Module}
use Rattle.design_circuit.specs.Job.{primitive_of}
use Rattle.design_circuit.specs.declared.name.NamePart.{NamePart}
use Rattle.design_circuit.specs.declared.design.Pin.{Pin}
use Rattle.design_circuit.specs.declared.design.Driver.TheVariants.{Undriven}
use Rattle.elab_nets.specs.declared.fault.ElabErr.TheVariants.{PortMismatch, Width}
use Rattle.elab_nets.specs.Outcome.{Outcome, after, or_refuse}
use Rattle.elab_nets.specs.Ranges.{width_of}
use Rattle.elab_nets.specs.State.{State, made, driven, part_of}
use Rattle.elab_names.specs.declared.scope.Entry.{Entry}
use Rattle.elab_names.specs.Sets.{has, is_among}
use Rattle.elab_names.specs.Scope.{Scope, scope_of, entry_of, named_instance}
use Rattle.elab_names.specs.Here.{Here, here_of, introduced}
use Rattle.elab_names.specs.Names.{is_directed, repeats, declared_again, all_declared, port_checked, ports_checked, opened}
use Rattle.elab_bits.specs.declared.expression.Role.{Role}
use Rattle.elab_bits.specs.declared.expression.Role.TheVariants.{Driven, Taken, Terminal}
use Rattle.elab_bits.specs.declared.run.Lane.{Lane}
use Rattle.elab_bits.specs.Lanes.{single, lanes_in}
use Rattle.elab_bits.specs.Bits.{known_or_wire, name_lanes, select_lanes, literal_bits, part_kind_lanes, lanes_of, bits_of, whole_name}
use Rattle.elab_bits.specs.Drive.{all_driven}
use Rattle.elab_prims.specs.declared.definitions.Definition.{Definition}
use Rattle.elab_prims.specs.declared.definitions.Definition.TheVariants as definition
use Rattle.elab_prims.specs.Definitions.{definition_of}
use Rattle.elab_gates.specs.Terminals.{single_net, single_pin, one_net, one_pin, output_nets, input_pins}
use Rattle.elab_gates.specs.Gates.{output_count, takes, connected_gate, pull, gate_of}
use Rattle.elab_gates.specs.Assigns.{drives, assigned, assign_item, value_of}
use Rattle.elab_gates.specs.Primitives.{are_there, terminal_of, connected_pins, udp_driver, connected_terminals, connected_udp, udp_of}
use Rattle.elab_joins.specs.Connect.{connected_as, connected, all_positional, all_named, all_connected}
use Rattle.elab_joins.specs.Joined.{inner_scope, joined}
use Rattle.elab_tree.specs.Library.{Library, module_of}
use Rattle.elab_tree.specs.Elaborate.{entered, Body, instance_of, instance_with, item_with}
use Rattle.elab_tree.proofs.Steps.{also, any_ok}
use Rattle.elab_design.specs.Quiet.{with_named}
use Rattle.elab_design.specs.Busy.{counted_name, counted_instance, is_apart}

-- ---- other names of instances

abbrev pub scope_with : List (List ℕ) → Scope → Scope
scope_with ns s = record s { instances = ns }

abbrev pub here_with : List (List ℕ) → Here → Here
here_with ns here = here_of (scope_with ns here.scope) here.state

abbrev pub also_with : {A : Type 0} → List (List ℕ) → A × Here → A × Here
also_with ns x = (x.0, here_with ns x.1)

-- the same outcome with another answer
abbrev pub through : {A : Type 0} → (A → A) → Outcome A → Outcome A
through f (Ok x) = Ok (f x)
through f (Err e) = Err e

-- ---- steps

bind : {A B : Type 0} (f : A → A) (g : B → B) (r q : Outcome A) (next more : A → Outcome B) → q ≡ through f r → ((x : A) → more (f x) ≡ through g (next x)) → after q more ≡ through g (after r next)
bind f g (Ok x) q next more same rest = rw same (rest x)
bind f g (Err e) q next more same rest = rw same refl

thence : {A B : Type 0} (g : B → B) (r : Outcome A) (next more : A → Outcome B) → ((x : A) → more x ≡ through g (next x)) → after r more ≡ through g (after r next)
thence g (Ok x) next more rest = rest x
thence g (Err e) next more rest = refl

chosen : {A : Type 0} (g : A → A) (b : Bool) (r s q t : Outcome A) → q ≡ through g r → t ≡ through g s → (if b then q else t) ≡ through g (if b then r else s)
chosen g true r s q t first second = first
chosen g false r s q t first second = second

module _ (ns : List (List ℕ)) where
  -- ---- bits

  introduced_with : (what : NetKind) (range : Range) (w : Word) (here : Here) → introduced what range w (here_with ns here) ≡ through (also_with ns) (introduced what range w here)
  introduced_with what range w here = thence (also_with ns) (made here.scope.prefix what range w here.state) _ _ (λ m. refl)

  known_with : (o : Option Entry) (w : Word) (here : Here) → known_or_wire o w (here_with ns here) ≡ through (also_with ns) (known_or_wire o w here)
  known_with (Some e) w here = refl
  known_with None w here = introduced_with kind.Wire None w here

  part_with : (role : Role) (before : List Lane) (at : ℕ) (p : PartKind) (here : Here) → part_kind_lanes role before at p (here_with ns here) ≡ through (also_with ns) (part_kind_lanes role before at p here)
  part_with role before at (Whole w) here =
      bind (also_with ns) (also_with ns) _ _ _ _ (known_with (entry_of here.scope w.text) w here) (λ k.
      thence (also_with ns) (name_lanes role before at w k.0.what k.0) _ _ (λ ls. refl))
  part_with role before at (Bit w i) here = thence (also_with ns) (select_lanes before at w i i here.scope) _ _ (λ ls. refl)
  part_with role before at (Slice w i j) here = thence (also_with ns) (select_lanes before at w i j here.scope) _ _ (λ ls. refl)
  part_with role before at (Literal size value) here = thence (also_with ns) (literal_bits role before at size value) _ _ (λ ls. refl)

  lanes_with : (role : Role) (before : List Lane) (ps : List Part) (here : Here) → lanes_of role before ps (here_with ns here) ≡ through (also_with ns) (lanes_of role before ps here)
  lanes_with role before [] here = refl
  lanes_with role before (p ∷ ps) here = bind (also_with ns) (also_with ns) _ _ _ _ (part_with role before p.at p.what here) (λ l. lanes_with role l.0 ps l.1)

  bits_with : (role : Role) (e : Expr) (here : Here) → bits_of role e (here_with ns here) ≡ through (also_with ns) (bits_of role e here)
  bits_with role e here = lanes_with role [] e.parts here

  -- ---- terminals

  net_with : (e : Expr) (here : Here) → one_net e (here_with ns here) ≡ through (also_with ns) (one_net e here)
  net_with e here =
      bind (also_with ns) (also_with ns) _ _ _ _ (bits_with Terminal e here) (λ b.
      thence (also_with ns) (or_refuse (single_net (single b.0)) (PortMismatch e.at)) _ _ (λ n.
      thence (also_with ns) (driven n.0 n.1 Undriven b.1.state) _ _ (λ s. refl)))

  pin_with : (e : Expr) (here : Here) → one_pin e (here_with ns here) ≡ through (also_with ns) (one_pin e here)
  pin_with e here =
      bind (also_with ns) (also_with ns) _ _ _ _ (bits_with Terminal e here) (λ b.
      thence (also_with ns) (or_refuse (single_pin (single b.0)) (Width e.at)) _ _ (λ p. refl))

  outputs_with : (before : List ℕ) (es : List Expr) (here : Here) → output_nets before es (here_with ns here) ≡ through (also_with ns) (output_nets before es here)
  outputs_with before [] here = refl
  outputs_with before (e ∷ es) here = bind (also_with ns) (also_with ns) _ _ _ _ (net_with e here) (λ n. outputs_with (before ++ n.0 ∷ []) es n.1)

  inputs_with : (before : List Pin) (es : List Expr) (here : Here) → input_pins before es (here_with ns here) ≡ through (also_with ns) (input_pins before es here)
  inputs_with before [] here = refl
  inputs_with before (e ∷ es) here = bind (also_with ns) (also_with ns) _ _ _ _ (pin_with e here) (λ p. inputs_with (before ++ p.0 ∷ []) es p.1)

  -- ---- gates

  connected_gate_with : (g : Gate) (outputs inputs : List Expr) (here : Here) → connected_gate g outputs inputs (here_with ns here) ≡ through (here_with ns) (connected_gate g outputs inputs here)
  connected_gate_with g outputs inputs here =
      bind (also_with ns) (here_with ns) _ _ _ _ (outputs_with [] outputs here) (λ o.
      bind (also_with ns) (here_with ns) _ _ _ _ (inputs_with [] inputs o.1) (λ p. refl))

  pull_with : (bit : Bool) (at : ℕ) (terminals : List Expr) (here : Here) → pull bit at terminals (here_with ns here) ≡ through (here_with ns) (pull bit at terminals here)
  pull_with bit at [] here = refl
  pull_with bit at (e ∷ []) here = bind (also_with ns) (here_with ns) _ _ _ _ (net_with e here) (λ n. refl)
  pull_with bit at (_ ∷ _ ∷ _) here = refl

  gate_with : (kind : GateKind) (at : ℕ) (terminals : List Expr) (here : Here) → gate_of kind at terminals (here_with ns here) ≡ through (here_with ns) (gate_of kind at terminals here)
  gate_with (Logic g) at terminals here =
      chosen (here_with ns) (takes g (length terminals)) _ _ _ _
      (connected_gate_with g (take (output_count g (length terminals)) terminals) (drop (output_count g (length terminals)) terminals) here) refl
  gate_with Pullup at terminals here = pull_with true at terminals here
  gate_with Pulldown at terminals here = pull_with false at terminals here

  -- ---- assignments

  assigned_with : (ls : List Lane) (right : Expr) (here : Here) → assigned ls right (here_with ns here) ≡ through (here_with ns) (assigned ls right here)
  assigned_with ls right here =
      bind (also_with ns) (here_with ns) _ _ _ _ (bits_with Taken right here) (λ r.
      thence (here_with ns) (drives right.at ls r.0 r.1.state) _ _ (λ s. refl))

  assign_with : (left right : Expr) (here : Here) → assign_item left right (here_with ns here) ≡ through (here_with ns) (assign_item left right here)
  assign_with left right here = bind (also_with ns) (here_with ns) _ _ _ _ (bits_with Driven left here) (λ l. assigned_with l.0 right l.1)

  value_with : (w : Word) (v : Option Expr) (here : Here) → value_of w v (here_with ns here) ≡ through (here_with ns) (value_of w v here)
  value_with w None here = refl
  value_with w (Some right) here = assign_with (whole_name w) right here

  -- ---- primitives

  pins_with : (at : ℕ) (before : List Pin) (cs : List Connection) (here : Here) → connected_pins at before cs (here_with ns here) ≡ through (also_with ns) (connected_pins at before cs here)
  pins_with at before [] here = refl
  pins_with at before (c ∷ cs) here =
      thence (also_with ns) (terminal_of at c) _ _ (λ e.
      bind (also_with ns) (also_with ns) _ _ _ _ (pin_with e here) (λ p. pins_with at (before ++ p.0 ∷ []) cs p.1))

  terminals_with : (at : ℕ) (cs : List Connection) (here : Here) → connected_terminals at cs (here_with ns here) ≡ through (also_with ns) (connected_terminals at cs here)
  terminals_with at [] here = refl
  terminals_with at (c ∷ cs) here =
      thence (also_with ns) (terminal_of at c) _ _ (λ e.
      bind (also_with ns) (also_with ns) _ _ _ _ (net_with e here) (λ n.
      bind (also_with ns) (also_with ns) _ _ _ _ (pins_with at [] cs n.1) (λ p. refl)))

  connected_udp_with : (number : ℕ) (table : Table) (at : ℕ) (cs : List Connection) (here : Here) → connected_udp number table at cs (here_with ns here) ≡ through (here_with ns) (connected_udp number table at cs here)
  connected_udp_with number table at cs here =
      bind (also_with ns) (here_with ns) _ _ _ _ (terminals_with at cs here) (λ t.
      thence (here_with ns) (udp_driver number table at t.0.1) _ _ (λ d. refl))

  udp_with : (number : ℕ) (table : Table) (at : ℕ) (c : Connections) (here : Here) → udp_of number table at c (here_with ns here) ≡ through (here_with ns) (udp_of number table at c here)
  udp_with number table at (Named cs) here = refl
  udp_with number table at (Positional cs) here = chosen (here_with ns) (are_there cs && (length cs == table.inputs + 1)) _ _ _ _ (connected_udp_with number table at cs here) refl

  -- ---- connections

  port_with : (what : NetKind) (port : Entry) (e : Expr) (here : Here) → connected_as what port e (here_with ns here) ≡ through (here_with ns) (connected_as what port e here)
  port_with kind.Input port e here =
      bind (also_with ns) (here_with ns) _ _ _ _ (bits_with Taken e here) (λ l. chosen (here_with ns) (length l.0 == width_of port.range) _ _ _ _ refl refl)
  port_with kind.Output port e here =
      bind (also_with ns) (here_with ns) _ _ _ _ (bits_with Driven e here) (λ l.
      chosen (here_with ns) (length l.0 == width_of port.range) _ _ _ _
      (thence (here_with ns) (all_driven l.0 (lanes_in e.at port.base (width_of port.range)) l.1.state) _ _ (λ s. refl)) refl)
  port_with kind.Wire port e here = refl
  port_with kind.Supply0 port e here = refl
  port_with kind.Supply1 port e here = refl
  port_with kind.Reg port e here = refl

  connection_with : (o : Option Entry) (v : Option Expr) (here : Here) → connected o v (here_with ns here) ≡ through (here_with ns) (connected o v here)
  connection_with (Some port) (Some e) here = port_with port.what port e here
  connection_with (Some port) None here = refl
  connection_with None v here = refl

  positional_with : (inner : Scope) (ports : List Word) (cs : List Connection) (here : Here) → all_positional inner ports cs (here_with ns here) ≡ through (here_with ns) (all_positional inner ports cs here)
  positional_with inner ports [] here = refl
  positional_with inner [] (c ∷ cs) here = refl
  positional_with inner (p ∷ ps) (c ∷ cs) here = bind (here_with ns) (here_with ns) _ _ _ _ (connection_with (entry_of inner p.text) c.value here) (λ h. positional_with inner ps cs h)

  named_with : (inner : Scope) (ports : List Word) (seen : List (List ℕ)) (cs : List NamedConnection) (here : Here) → all_named inner ports seen cs (here_with ns here) ≡ through (here_with ns) (all_named inner ports seen cs here)
  named_with inner ports seen [] here = refl
  named_with inner ports seen (c ∷ cs) here =
      chosen (here_with ns) (has seen c.port.text || not (is_among ports c.port.text)) _ _ _ _ refl
      (bind (here_with ns) (here_with ns) _ _ _ _ (connection_with (entry_of inner c.port.text) c.value here) (λ h. named_with inner ports (seen ++ c.port.text ∷ []) cs h))

  connections_with : (inner : Scope) (ports : List Word) (c : Connections) (here : Here) → all_connected inner ports c (here_with ns here) ≡ through (here_with ns) (all_connected inner ports c here)
  connections_with inner ports (Positional cs) here = positional_with inner ports cs here
  connections_with inner ports (Named cs) here = named_with inner ports [] cs here

  -- ---- declarations

  again_with : (o : Option Entry) (d : Declare) (here : Here) → declared_again o d (here_with ns here) ≡ through (here_with ns) (declared_again o d here)
  again_with (Some e) d here = chosen (here_with ns) (repeats e d) _ _ _ _ refl refl
  again_with None d here = bind (also_with ns) (here_with ns) _ _ _ _ (introduced_with d.what d.range d.name here) (λ m. refl)

  all_declared_with : (ports : List Word) (is : List Item) (here : Here) → all_declared ports is (here_with ns here) ≡ through (here_with ns) (all_declared ports is here)
  all_declared_with ports [] here = refl
  all_declared_with ports (item.Declare d ∷ is) here =
      bind (here_with ns) (here_with ns) _ _ _ _
      (chosen (here_with ns) (is_directed d.what && not (is_among ports d.name.text)) _ _ _ _ refl (again_with (entry_of here.scope d.name.text) d here)) (λ h. all_declared_with ports is h)
  all_declared_with ports (item.Gate _ ∷ is) here = all_declared_with ports is here
  all_declared_with ports (item.Instance _ ∷ is) here = all_declared_with ports is here
  all_declared_with ports (item.Assign _ _ ∷ is) here = all_declared_with ports is here

  ports_with : (s : Scope) (seen : List (List ℕ)) (ps : List Word) → ports_checked (scope_with ns s) seen ps ≡ through (scope_with ns) (ports_checked s seen ps)
  ports_with s seen [] = refl
  ports_with s seen (p ∷ ps) = thence (scope_with ns) (port_checked s seen p) _ _ (λ more. ports_with s more ps)

  opened_with : (ports : List Word) (is : List Item) (here : Here) → opened ports is (here_with ns here) ≡ through (here_with ns) (opened ports is here)
  opened_with ports is here =
      bind (here_with ns) (here_with ns) _ _ _ _ (all_declared_with ports is here) (λ h.
      bind (scope_with ns) (here_with ns) _ _ _ _ (ports_with h.scope [] ports) (λ _. refl))

-- ---- instances

abbrev pub pair_with : List (List ℕ) → Scope × Here → Scope × Here
pair_with ns j = (scope_with ns j.0, j.1)

joined_by : (ns : List (List ℕ)) (i : InstanceItem) (m : Module) (here : Here) (o : Option Word) → i.name ≡ o → is_apart here.scope.instances o ≡ true → is_apart ns o ≡ true
    → joined i m (here_with ns here) ≡ through (pair_with (with_named ns o)) (joined i m here)
joined_by ns i m here None name own other = rw name refl
joined_by ns i m here (Some w) name own other =
    let had = not-true _ own in
    let taken = not-true _ other in
    rw (name, had, taken) (thence (pair_with (ns ++ w.text ∷ [])) (opened m.ports m.items (here_of (inner_scope here.scope.prefix w) here.state)) _ _ (λ inner.
    bind (here_with (ns ++ w.text ∷ [])) (pair_with (ns ++ w.text ∷ [])) _ _ _ _
    (connections_with (ns ++ w.text ∷ []) inner.scope m.ports i.connections (here_of (scope_with (here.scope.instances ++ w.text ∷ []) here.scope) inner.state)) (λ done. refl)))

abbrev pub IsNew : Here → Type 0
IsNew here = here.scope.instances ≡ []

-- what comes through with these names has them
pub has_them : (ns : List (List ℕ)) (r : Outcome Here) → r ≡ through (here_with ns) r → IfOk r (λ h. h.scope.instances ≡ ns)
has_them ns (Ok h) same = (let is : h ≡ here_with ns h = cc in ap (λ (x : Here). x.scope.instances) is)
has_them ns (Err e) same = tt

-- A module is opened without instances.
pub opened_new : (ports : List Word) (is : List Item) (prefix : List NamePart) (names : List (List ℕ × Entry)) (s : State) → IfOk (opened ports is (here_of (scope_of prefix names []) s)) IsNew
opened_new ports is prefix names s = has_them [] _ (opened_with [] ports is (here_of (scope_of prefix names []) s))

pub joined_new : (i : InstanceItem) (m : Module) (here : Here) → IfOk (joined i m here) (λ (j : Scope × Here). j.1.scope.instances ≡ [])
joined_new i m here =
    also (λ _. Unit {0}) _ (or_refuse i.name (PortMismatch i.definition.at)) _ (any_ok _) (λ w _.
    also (λ _. Unit {0}) _ (named_instance w here.scope) _ (any_ok _) (λ outer _.
    also IsNew _ (opened m.ports m.items (here_of (inner_scope here.scope.prefix w) here.state)) _ (opened_new m.ports m.items (here.scope.prefix ++ part_of w ∷ []) [] here.state) (λ inner new.
    also (λ _. Unit {0}) _ (all_connected inner.scope m.ports i.connections (here_of outer inner.state)) _ (any_ok _) (λ done _. new))))

module _ (l : Library) (path : List ℕ) (room : ℕ) (b : Body) (ns : List (List ℕ)) where
  instance_by : (o : Option Definition) (i : InstanceItem) (here : Here) → is_apart here.scope.instances (counted_name o i.name) ≡ true → is_apart ns (counted_name o i.name) ≡ true
      → instance_of l path room b o i (here_with ns here) ≡ through (here_with (with_named ns (counted_name o i.name))) (instance_of l path room b o i here)
  instance_by None i here own other = refl
  instance_by (Some (definition.Primitive k)) i here own other = udp_with ns k (primitive_of l.tables k) i.definition.at i.connections here
  instance_by (Some (definition.Module k)) i here own other =
      thence (here_with (with_named ns i.name)) (entered path room i.definition.text k) _ _ (λ n.
      bind (pair_with (with_named ns i.name)) (here_with (with_named ns i.name)) _ _ _ _ (joined_by ns i (module_of l n) here i.name refl own other) (λ j.
      thence (here_with (with_named ns i.name)) (b (path ++ n ∷ []) (module_of l n).items j.1) _ _ (λ done. refl)))

  -- An item whose name is new leads to the same, whatever instances came before it.
  pub item_frames : (i : Item) (here : Here) → is_apart here.scope.instances (counted_instance l.source i) ≡ true → is_apart ns (counted_instance l.source i) ≡ true
      → item_with (instance_with l path room b) i (here_with ns here) ≡ through (here_with (with_named ns (counted_instance l.source i))) (item_with (instance_with l path room b) i here)
  item_frames (item.Declare d) here own other = value_with ns d.name d.value here
  item_frames (item.Gate g) here own other = gate_with ns g.kind g.at g.terminals here
  item_frames (item.Assign left right) here own other = assign_with ns left right here
  item_frames (item.Instance i) here own other = instance_by (definition_of l.source i.definition.text) i here own other

-- The item's name is the one that comes to the instances.
pub item_names : (l : Library) (path : List ℕ) (room : ℕ) (b : Body) (i : Item) (here next : Here) → is_apart here.scope.instances (counted_instance l.source i) ≡ true → item_with (instance_with l path room b) i here ≡ Ok next
    → next.scope.instances ≡ with_named here.scope.instances (counted_instance l.source i)
item_names l path room b i here next own is =
    subst (λ (r : Outcome Here). IfOk r (λ (h : Here). h.scope.instances ≡ with_named here.scope.instances (counted_instance l.source i))) is
    (has_them (with_named here.scope.instances (counted_instance l.source i)) (item_with (instance_with l path room b) i here) (item_frames l path room b here.scope.instances i here own own))
