-- An instance of a module that is joined stands well, inside and outside.
use Rattle.std.proofs.Common.{◌≡◌, ℕ, ◌+◌, ◌≤◌, ◌==◌, true, false, not, ◌||◌, List, [], ◌∷◌, ◌++◌, length, refl, sym, ◌∙◌, subst, arith, Option, Some, None, IfOk, IfSome, Ok, Err, if◌then◌else◌}
use Rattle.std.specs.List.{AllByRecursion}
use Rattle.design_cell.specs.Table.{Table}
use Rattle.netlist_grammar.specs.Whole.{IsName, IsExpr, IsNamed, IsItem, AreConnections, IsInstance}
use Rattle.netlist_grammar.specs.declared.tree.Word.{Word}
use Rattle.netlist_grammar.specs.declared.tree.Expr.{Expr}
use Rattle.netlist_grammar.specs.declared.tree.Connection.{Connection}
use Rattle.netlist_grammar.specs.declared.tree.NamedConnection.{NamedConnection}
use Rattle.netlist_grammar.specs.declared.tree.Connections.{Connections}
use Rattle.netlist_grammar.specs.declared.tree.Connections.TheVariants.{Positional, Named}
use Rattle.netlist_grammar.specs.declared.tree.NetKind.{NetKind}
use Rattle.netlist_grammar.specs.declared.tree.NetKind.TheVariants as kind
use Rattle.netlist_grammar.specs.declared.tree.InstanceItem.{InstanceItem}
use Rattle.netlist_grammar.specs.declared.tree.Module.{Module}
use Rattle.design_circuit.specs.declared.name.NamePart.{NamePart}
use Rattle.elab_nets.specs.declared.fault.ElabErr.TheVariants.{PortMismatch, Width}
use Rattle.elab_nets.specs.Outcome.{after, or_refuse}
use Rattle.elab_nets.specs.Ranges.{width_of}
use Rattle.elab_nets.specs.State.{net_count, part_of}
use Rattle.elab_names.specs.declared.scope.Entry.{Entry}
use Rattle.elab_names.specs.Sets.{has, is_among}
use Rattle.elab_names.specs.Scope.{Scope, entry_of, named_instance}
use Rattle.elab_names.specs.Here.{Here, here_of}
use Rattle.elab_names.specs.Names.{opened}
use Rattle.elab_bits.specs.declared.run.Lane.{Lane}
use Rattle.elab_bits.specs.declared.expression.Role.TheVariants.{Driven, Taken}
use Rattle.elab_bits.specs.Lanes.{lanes_in}
use Rattle.elab_bits.specs.Bits.{bits_of}
use Rattle.elab_bits.specs.Drive.{all_driven, fed}
use Rattle.elab_joins.specs.Connect.{fed_input, driven_output, connected_as, connected, all_positional, all_named, all_connected}
use Rattle.elab_joins.specs.Joined.{inner_scope, joined}
use Rattle.elab_tree.specs.Sound.{Within, Under, IsMade, Knows, StandsWell, Grows}
use Rattle.elab_tree.proofs.Steps.{also, there_or, chosen, still, Stays, stays_same, stays_both, stays_driven, grows_both, grows_more, within_under}
use Rattle.elab_tree.proofs.Lists.{all_by}
use Rattle.elab_tree.proofs.Knowing.{made_more, texts_behind, knows_child, knows_parent}
use Rattle.elab_tree.proofs.Naming.{with_instance, has_more, has_last, knows_instance, knows_fresh}
use Rattle.elab_tree.proofs.Names.{opened_stays}
use Rattle.elab_tree.proofs.Bits.{run_fits, HasBits, bits_stay, parts_of}
use Rattle.elab_tree.proofs.Driving.{all_drive, fed_drives}

-- ---- connections

-- The names of a scope stand for nets that are there.
pub record IsOpen (n : ℕ) (c : Scope) : Type 0 where
  pub nets : (name : List ℕ) (e : Entry) → entry_of c name ≡ Some e → IsMade n e

open_more : (n m : ℕ) (c : Scope) → n ≤ m → IsOpen n c → IsOpen m c
open_more n m c more is = record { nets = λ name e found. made_more e n m more (is.nets name e found) }

-- Behind a step they are there still.
open_later : (tables : List Table) (a b : Here) (c : Scope) → Stays tables Within a b → IsOpen (length a.state.names) c → IsOpen (length b.state.names) c
open_later tables a b c stays is = open_more _ _ c stays.keeps.grows.longer is

input_stays : (tables : List Table) (port : Entry) (e : Expr) (here : Here) → StandsWell tables here → IsExpr e → IfOk (fed_input port e here) (Stays tables Within here)
input_stays tables port e here well is =
    also _ _ (bits_of Taken e here) _ (bits_stay tables Taken e here well (parts_of e is)) (λ l bits.
    chosen _ (length l.0 == width_of port.range) _ _
    (λ _. stays_both tables Within here l.1 _ bits.stays (stays_driven tables Within l.1 (fed port.base l.0 l.1.state) bits.stays.well (fed_drives tables port.base l.0 l.1.state bits.stays.well.sound bits.fits)))
    (λ _. tt))

output_by : (tables : List Table) (port : Entry) (e : Expr) (here : Here) (l : List Lane × Here) → port.base + width_of port.range ≤ length here.state.names → HasBits tables here l
    → IfOk (if length l.0 == width_of port.range then after (all_driven l.0 (lanes_in e.at port.base (width_of port.range)) l.1.state) (λ s. Ok (here_of l.1.scope s)) else Err (Width e.at)) (Stays tables Within here)
output_by tables port e here l made bits =
    chosen _ (length l.0 == width_of port.range) _ _
    (λ _. also _ _ (all_driven l.0 (lanes_in e.at port.base (width_of port.range)) l.1.state) _
    (all_drive tables l.0 _ l.1.state bits.stays.well.sound (run_fits (length l.1.state.names) e.at port.base (width_of port.range) (let more = bits.stays.keeps.grows.longer in omega (arith, made, more)))) (λ s d.
    stays_both tables Within here l.1 _ bits.stays (stays_driven tables Within l.1 s bits.stays.well d)))
    (λ _. tt)

output_stays : (tables : List Table) (port : Entry) (e : Expr) (here : Here) → StandsWell tables here → IsExpr e → port.base + width_of port.range ≤ length here.state.names
    → IfOk (driven_output port e here) (Stays tables Within here)
output_stays tables port e here well is made =
    also _ _ (bits_of Driven e here) _ (bits_stay tables Driven e here well (parts_of e is)) (λ l bits. output_by tables port e here l made bits)

port_stays : (tables : List Table) (what : NetKind) (port : Entry) (e : Expr) (here : Here) → StandsWell tables here → IsExpr e → port.base + net_count what port.range ≤ length here.state.names
    → IfOk (connected_as what port e here) (Stays tables Within here)
port_stays tables kind.Input port e here well is made = input_stays tables port e here well is
port_stays tables kind.Output port e here well is made = output_stays tables port e here well is made
port_stays tables kind.Wire port e here well is made = stays_same tables Within here well
port_stays tables kind.Supply0 port e here well is made = stays_same tables Within here well
port_stays tables kind.Supply1 port e here well is made = stays_same tables Within here well
port_stays tables kind.Reg port e here well is made = stays_same tables Within here well

connection_stays : (tables : List Table) (inner : Scope) (name : List ℕ) (v : Option Expr) (here : Here) → StandsWell tables here → IfSome v IsExpr → IsOpen (length here.state.names) inner
    → IfOk (connected (entry_of inner name) v here) (Stays tables Within here)
connection_stays tables inner name v here well is known = by (entry_of inner name) refl v is
  where
    by : (o : Option Entry) → entry_of inner name ≡ o → (v : Option Expr) → IfSome v IsExpr → IfOk (connected o v here) (Stays tables Within here)
    by (Some port) at (Some e) is = port_stays tables port.what port e here well is (known.nets name port at)
    by (Some port) at None is = stays_same tables Within here well
    by None at v is = stays_same tables Within here well

positional_stay : (tables : List Table) (inner : Scope) (ports : List Word) (cs : List Connection) (here : Here) → StandsWell tables here → AllByRecursion (λ (c : Connection). IfSome c.value IsExpr) cs
    → IsOpen (length here.state.names) inner → IfOk (all_positional inner ports cs here) (Stays tables Within here)
positional_stay tables inner ports [] here well all known = stays_same tables Within here well
positional_stay tables inner [] (c ∷ cs) here well all known = tt
positional_stay tables inner (p ∷ ps) (c ∷ cs) here well all known =
    also _ _ (connected (entry_of inner p.text) c.value here) _ (connection_stays tables inner p.text c.value here well all.0 known) (λ h stays.
    still tables Within here h stays _ (positional_stay tables inner ps cs h stays.well all.1 (open_later tables here h inner stays known)))

named_stay : (tables : List Table) (inner : Scope) (ports : List Word) (seen : List (List ℕ)) (cs : List NamedConnection) (here : Here) → StandsWell tables here → AllByRecursion IsNamed cs
    → IsOpen (length here.state.names) inner → IfOk (all_named inner ports seen cs here) (Stays tables Within here)
named_stay tables inner ports seen [] here well all known = stays_same tables Within here well
named_stay tables inner ports seen (c ∷ cs) here well all known =
    chosen _ (has seen c.port.text || not (is_among ports c.port.text)) _ _ (λ _. tt) (λ _.
    also _ _ (connected (entry_of inner c.port.text) c.value here) _ (connection_stays tables inner c.port.text c.value here well all.0.value known) (λ h stays.
    still tables Within here h stays _ (named_stay tables inner ports (seen ++ c.port.text ∷ []) cs h stays.well all.1 (open_later tables here h inner stays known))))

connections_stay : (tables : List Table) (inner : Scope) (ports : List Word) (c : Connections) (here : Here) → StandsWell tables here → AreConnections c → IsOpen (length here.state.names) inner
    → IfOk (all_connected inner ports c here) (Stays tables Within here)
connections_stay tables inner ports (Positional cs) here well is known = positional_stay tables inner ports cs here well (all_by _ cs is) known
connections_stay tables inner ports (Named cs) here well is known = named_stay tables inner ports [] cs here well (all_by IsNamed cs is.1) known

-- ---- instances

-- What a joined instance is like: the module stands well, and the scope outside knows it by the instance's name.
pub record IsJoined (tables : List Table) (old : Here) (j : Scope × Here) : Type 0 where
  pub word : Word
  pub inner : StandsWell tables j.1
  pub inner_prefix : j.1.scope.prefix ≡ old.scope.prefix ++ part_of word ∷ []
  pub outer : Knows j.0 j.1.state.names
  pub prefix : j.0.prefix ≡ old.scope.prefix
  pub known : has j.0.instances word.text ≡ true
  pub instances : (name : List ℕ) → has old.scope.instances name ≡ true → has j.0.instances name ≡ true
  pub grows : Grows (Under old.scope.prefix) old.state.names j.1.state.names

-- What stands below an instance stands below the module.
under_instance : (prefix : List NamePart) (p : NamePart) (texts : List (List ℕ)) → Under (prefix ++ p ∷ []) texts → Under prefix texts
under_instance prefix p texts h = (p.text, h.0 ∷ h.1, h.2 ∙ texts_behind prefix p (h.0 ∷ h.1))

-- the module of an instance, before its declarations
abbrev unopened : Here → Word → Here
unopened here w = here_of (inner_scope here.scope.prefix w) here.state

unopened_well : (tables : List Table) (here : Here) (w : Word) → StandsWell tables here → IsName w → has here.scope.instances w.text ≡ false → StandsWell tables (unopened here w)
unopened_well tables here w well name new = record { sound = well.sound; knows = knows_fresh here.scope w here.state.names well.knows name new }

-- The scope outside, with the new instance, behind the declarations inside.
outside : (tables : List Table) (here : Here) (w : Word) (inner : Here) → StandsWell tables here → Stays tables Within (unopened here w) inner → StandsWell tables (here_of (with_instance w.text here.scope) inner.state)
outside tables here w inner well stays = record {
  sound = stays.well.sound;
  knows = knows_child (with_instance w.text here.scope) (part_of w) here.state.names inner.state.names (knows_instance here.scope w.text here.state.names well.knows) (has_last here.scope.instances w.text)
      (grows_more _ _ _ _ (within_under (here.scope.prefix ++ part_of w ∷ [])) stays.keeps.grows);
}

joined_by : (tables : List Table) (here : Here) (w : Word) (inner done : Here) → Stays tables Within (unopened here w) inner → Stays tables Within (here_of (with_instance w.text here.scope) inner.state) done
    → IsJoined tables here (done.scope, here_of inner.scope done.state)
joined_by tables here w inner done opened connected = record {
  word = w;
  inner = record { sound = connected.well.sound; knows = knows_parent inner.scope here.scope.prefix (part_of w) inner.state.names done.state.names opened.keeps.prefix opened.well.knows connected.keeps.grows };
  inner_prefix = opened.keeps.prefix;
  outer = connected.well.knows;
  prefix = connected.keeps.prefix;
  known = connected.keeps.instances w.text (has_last here.scope.instances w.text);
  instances = λ name there. connected.keeps.instances name (has_more here.scope.instances w.text name there);
  grows = grows_both (Under here.scope.prefix) here.state.names inner.state.names done.state.names
      (grows_more _ _ _ _ (λ texts h. under_instance here.scope.prefix (part_of w) texts (within_under (here.scope.prefix ++ part_of w ∷ []) texts h)) opened.keeps.grows)
      (grows_more _ _ _ _ (within_under here.scope.prefix) connected.keeps.grows);
}

-- the scope with a new instance, which it didn't have
pub record IsInstanceOf (w : Word) (old new : Scope) : Type 0 where
  pub scope : new ≡ with_instance w.text old
  pub fresh : has old.instances w.text ≡ false

named_is : (w : Word) (c : Scope) → IfOk (named_instance w c) (IsInstanceOf w c)
named_is w c = chosen _ (has c.instances w.text) _ _ (λ _. tt) (λ new. record { scope = refl; fresh = new })

word_stays : (tables : List Table) (i : InstanceItem) (m : Module) (here : Here) (w : Word) (outer : Scope) → StandsWell tables here → IsInstance i → AllByRecursion IsItem m.items → IsName w → IsInstanceOf w here.scope outer
    → IfOk (after (opened m.ports m.items (unopened here w)) (λ inner. after (all_connected inner.scope m.ports i.connections (here_of outer inner.state)) (λ done. Ok (done.scope, here_of inner.scope done.state)))) (IsJoined tables here)
word_stays tables i m here w outer well is all name at =
    also _ _ (opened m.ports m.items (unopened here w)) _ (opened_stays tables m.ports m.items (unopened here w) (unopened_well tables here w well name at.fresh) all) (λ inner stays.
    subst (λ (c : Scope). IfOk (after (all_connected inner.scope m.ports i.connections (here_of c inner.state)) (λ done. Ok (done.scope, here_of inner.scope done.state))) (IsJoined tables here)) (sym at.scope)
    (also _ _ (all_connected inner.scope m.ports i.connections (here_of (with_instance w.text here.scope) inner.state)) _
    (connections_stay tables inner.scope m.ports i.connections (here_of (with_instance w.text here.scope) inner.state) (outside tables here w inner well stays) is.connections (record { nets = stays.well.knows.nets })) (λ done kept.
    joined_by tables here w inner done stays kept)))

pub joined_stays : (tables : List Table) (i : InstanceItem) (m : Module) (here : Here) → StandsWell tables here → IsInstance i → AllByRecursion IsItem m.items → IfOk (joined i m here) (IsJoined tables here)
joined_stays tables i m here well is all =
    also _ _ (or_refuse i.name (PortMismatch i.definition.at)) _ (there_or IsName i.name _ is.name) (λ w name.
    also _ _ (named_instance w here.scope) _ (named_is w here.scope) (λ outer at. word_stays tables i m here w outer well is all name at))

-- Behind the items of the module the scope outside stands well.
pub filled_by : (tables : List Table) (old : Here) (j : Scope × Here) (done : Here) → IsJoined tables old j → Stays tables Under j.1 done → Stays tables Under old (here_of j.0 done.state)
filled_by tables old j done at stays = record {
  well = record { sound = stays.well.sound; knows = knows_child j.0 (part_of at.word) j.1.state.names done.state.names at.outer at.known (subst (λ (p : List NamePart). Grows (Under (p ++ part_of at.word ∷ [])) j.1.state.names done.state.names) (sym at.prefix) grows) };
  keeps = record {
    prefix = at.prefix;
    instances = at.instances;
    grows = grows_both (Under old.scope.prefix) old.state.names j.1.state.names done.state.names at.grows (grows_more _ _ _ _ (under_instance old.scope.prefix (part_of at.word)) grows);
  };
}
  where
    grows : Grows (Under (old.scope.prefix ++ part_of at.word ∷ [])) j.1.state.names done.state.names
    grows = subst (λ (p : List NamePart). Grows (Under p) j.1.state.names done.state.names) at.inner_prefix stays.keeps.grows
