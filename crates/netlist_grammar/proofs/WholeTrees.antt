-- Each tree of a text is whole: what the rules make sure of, rule by rule.
use Rattle.std.proofs.Common.{◌≡◌, ℕ, ◌<◌, List, [], ◌∷◌, ◌++◌, length, map, Bool, true, Some, None, All, refl, arith, length-append}
use Rattle.std.specs.Prelude.{IfSome}
use Rattle.std.proofs.lemmas.List.Elements.{All-nil, All-cons, All-append, All-map, All-weaker}
use Rattle.netlist_grammar.specs.Rules.{quote, OneName, Listed, Until, UntilStar, Attribute, Balanced, Delay, MayDelay, Bounds, MayRange, WireRange}
use Rattle.netlist_grammar.specs.Expressions.{Parts, Flat, Expression}
use Rattle.netlist_grammar.specs.Items.{NetName, OneGate, MayConnect, OneNamed, Connecting, OneInstance, OneAssign, OneItem, Items}
use Rattle.netlist_grammar.specs.Primitives.{MayStart, OutputPin, InputPin, InputPins, Pins, PinDeclare, PinDeclares}
use Rattle.netlist_grammar.specs.Primitives.{OneChange, OneSymbol, Entry, Entries, Row, Rows, OnePrimitive}
use Rattle.netlist_grammar.specs.Text.{Port, declare_port, Directed, DeclaredPort, DeclaredPorts, Head, OneModule, Text}
use Rattle.netlist_grammar.specs.Trees.{Range, declares, gate_of, connection_of, prim_declare}
use Rattle.netlist_grammar.specs.Source.{IsTree}
use Rattle.netlist_grammar.specs.Whole.{IsName, IsRange, IsPart, IsExpr, IsNamed, AreConnections, IsItem, IsModule, IsRow, IsPrimitive, IsWhole}
use Rattle.design_cell.specs.declared.row.RawRow.{RawRow}
use Rattle.design_cell.specs.declared.symbol.Symbol.{Symbol}
use Rattle.netlist_grammar.specs.declared.fixed.Fixed.{Fixed}
use Rattle.netlist_grammar.specs.declared.fixed.Fixed.TheVariants as fixed
use Rattle.netlist_grammar.specs.declared.tree.Word.{Word}
use Rattle.netlist_grammar.specs.declared.tree.Part.{Part}
use Rattle.netlist_grammar.specs.declared.tree.Expr.{Expr}
use Rattle.netlist_grammar.specs.declared.tree.NetKind.{NetKind}
use Rattle.netlist_grammar.specs.declared.tree.NetKind.TheVariants as net
use Rattle.netlist_grammar.specs.declared.tree.GateKind.{GateKind}
use Rattle.netlist_grammar.specs.declared.tree.Connection.{Connection}
use Rattle.netlist_grammar.specs.declared.tree.NamedConnection.{NamedConnection}
use Rattle.netlist_grammar.specs.declared.tree.Connections.{Connections}
use Rattle.netlist_grammar.specs.declared.tree.Item.{Item}
use Rattle.netlist_grammar.specs.declared.tree.Module.{Module}
use Rattle.netlist_grammar.specs.declared.tree.PrimKind.TheVariants.{Output, Input, Reg, Initial}
use Rattle.netlist_grammar.specs.declared.tree.PrimDeclare.{PrimDeclare}
use Rattle.netlist_grammar.specs.declared.tree.Primitive.{Primitive}
use Rattle.netlist_grammar.specs.declared.tree.Source.{Source}
use Rattle.netlist_grammar.specs.Lexemes.{named, TokenAt}
use Rattle.netlist_grammar.proofs.NameBytes.{has_bytes, Has, stream_has, int_small, literal_small}

-- ---- what is passed over

until_left : {f : Fixed} {ts rest : List TokenAt} → Until f ts rest → Has ts → Has rest
until_left Until.here h = h.1
until_left (Until.further e d) h = until_left d h.1

star_left : {ts rest : List TokenAt} → UntilStar ts rest → Has ts → Has rest
star_left UntilStar.here h = h.1.1
star_left (UntilStar.further e d) h = star_left d h.1
star_left (UntilStar.star e d) h = star_left d h.1

attribute_left : {ts rest : List TokenAt} → Attribute ts rest → Has ts → Has rest
attribute_left (Attribute.attribute d) h = star_left d h.1.1

balanced_left : {ts rest : List TokenAt} → Balanced ts rest → Has ts → Has rest
balanced_left Balanced.here h = h.1
balanced_left (Balanced.pair b c) h = balanced_left c (balanced_left b h.1)
balanced_left (Balanced.further e f b) h = balanced_left b h.1

delay_left : {ts rest : List TokenAt} → Delay ts rest → Has ts → Has rest
delay_left (Delay.whole e) h = h.1.1
delay_left (Delay.fraction e f) h = h.1.1.1.1
delay_left (Delay.tokens b) h = balanced_left b h.1.1

may_delay_left : {ts rest : List TokenAt} → MayDelay ts rest → Has ts → Has rest
may_delay_left MayDelay.none h = h
may_delay_left (MayDelay.some d) h = delay_left d h

-- ---- one and several

-- what is left has bytes, and what was read is so
record One {X : Type 0} (rest : List TokenAt) (P : X → Type 0) (x : X) : Type 0 where
  left : Has rest
  is : P x

-- and it is one at least
record Several {X : Type 0} (rest : List TokenAt) (P : X → Type 0) (xs : List X) : Type 0 where
  left : Has rest
  some : 0 < length xs
  all : All P xs

one : {X : Type 0} {rest : List TokenAt} (P : X → Type 0) (x : X) → Has rest → P x → Several rest P (x ∷ [])
one P x h k = record { left = h; some = omega arith; all = All-cons P x [] k (All-nil P) }

joined_several : {X : Type 0} {rest : List TokenAt} (P : X → Type 0) (xs ys : List X) → 0 < length xs → All P xs
    → Has rest → All P ys → Several rest P (xs ++ ys)
joined_several P xs ys some all h more = record { left = h; some = omega (arith, length-append xs ys); all = All-append P xs ys all more }

listed : {X : Type 0} (R : List TokenAt → List TokenAt → X → Type 0) (P : X → Type 0) → ((ts rest : List TokenAt) (x : X) → R ts rest x → Has ts → One rest P x)
    → {ts rest : List TokenAt} {xs : List X} → Listed R ts rest xs → Has ts → Several rest P xs
listed R P law (Listed.last {ts = ts} {rest = rest} {x = x} d) h = let o = law ts rest x d h in one P x o.left o.is
listed R P law (Listed.next {at = at} {ts = ts} {mid = mid} {x = x} {xs = xs} d l) h =
    let o = law ts (quote at fixed.Comma ∷ mid) x d h in
    let s = listed R P law l o.left.1 in
    record { left = s.left; some = omega arith; all = All-cons P x xs o.is s.all }

name_is : (w : Word) → has_bytes (named w.text w.escaped) ≡ true → IsName w
name_is w h = h

one_name : (ts rest : List TokenAt) (w : Word) → OneName ts rest w → Has ts → One rest IsName w
one_name ts rest w (OneName.one) h = record { left = h.1; is = name_is w h.0 }

names : {ts rest : List TokenAt} {ws : List Word} → Listed OneName ts rest ws → Has ts → Several rest IsName ws
names l h = listed OneName IsName one_name l h

-- ---- ranges

bounds_are : {ts rest : List TokenAt} {r : ℕ × ℕ} → Bounds ts rest r → Has ts → One rest IsRange (Some r)
bounds_are (Bounds.bounds {n = n} {m = m} {ds = ds} {es = es} e f) h = record { left = h.1.1.1.1.1; is = (int_small ds n e, int_small es m f) }

may_range : {ts rest : List TokenAt} {r : Range} → MayRange ts rest r → Has ts → One rest IsRange r
may_range MayRange.none h = record { left = h; is = tt }
may_range (MayRange.some b) h = bounds_are b h

wire_range : {had : Range} {ts rest : List TokenAt} {r : Range} → IsRange had → WireRange had ts rest r → Has ts → One rest IsRange r
wire_range is WireRange.plain h = record { left = h; is = is }
wire_range is (WireRange.range b) h = bounds_are b h
wire_range is WireRange.wire h = record { left = h.1; is = is }
wire_range is (WireRange.wire_range b) h = bounds_are b h.1

-- ---- expressions

abbrev Is : Part → Type 0
Is p = IsPart p.what

mutual
  parts_are : {ts rest : List TokenAt} {ps : List Part} → Parts ts rest ps → Has ts → Several rest Is ps
  parts_are (Parts.whole {w = w}) h = one Is _ h.1 (name_is w h.0)
  parts_are (Parts.bit {n = n} {w = w} {ds = ds} e) h = one Is _ h.1.1.1.1 (name_is w h.0, int_small ds n e)
  parts_are (Parts.slice {n = n} {m = m} {w = w} {ds = ds} {es = es} e f) h = one Is _ h.1.1.1.1.1.1 (name_is w h.0, int_small ds n e, int_small es m f)
  parts_are (Parts.literal {l = l} {ds = ds} e) h = one Is _ h.1 (literal_small ds l e)
  parts_are (Parts.braces d) h = let s = flat_are d h.1 in record { left = s.left.1; some = s.some; all = s.all }

  flat_are : {ts rest : List TokenAt} {ps : List Part} → Flat ts rest ps → Has ts → Several rest Is ps
  flat_are (Flat.last d) h = parts_are d h
  flat_are (Flat.next {ps = ps} {qs = qs} d l) h =
      let s = parts_are d h in
      let r = flat_are l s.left.1 in
      joined_several Is ps qs s.some s.all r.left r.all

expr_is : {ts rest : List TokenAt} {e : Expr} → Expression ts rest e → Has ts → One rest IsExpr e
expr_is (Expression.expression d) h = let s = parts_are d h in record { left = s.left; is = record { some = s.some; parts = s.all } }

-- ---- items

declared : (what : NetKind) (r : Range) (w : Word) → IsRange r → IsName w → IsItem (declares what r w)
declared what r w range n = record { name = n; range = range; value = tt }

all_declared : (what : NetKind) (r : Range) (ws : List Word) → IsRange r → All IsName ws → All IsItem (map (declares what r) ws)
all_declared what r ws range ns =
    All-map IsItem (declares what r) ws (All-weaker IsName (λ w. IsItem (declares what r w)) (λ w n. declared what r w range n) ws ns)

net_name : (what : NetKind) (r : Range) → IsRange r → (ts rest : List TokenAt) (i : Item) → NetName what r ts rest i → Has ts → One rest IsItem i
net_name what r range ts rest i (NetName.plain {w = w}) h = record { left = h.1; is = declared what r w range (name_is w h.0) }
net_name what r range ts rest i (NetName.valued {w = w} can d) h =
    let e = expr_is d h.1.1 in
    record { left = e.left; is = record { name = name_is w h.0; range = range; value = (can, e.is) } }

terminals : {kind : GateKind} {at : ℕ} {ts rest : List TokenAt} {es : List Expr} → Listed Expression ts rest es → Has ts → One rest IsItem (gate_of kind at es)
terminals l h = let s = listed Expression IsExpr (λ ts rest e d. expr_is d) l h in record { left = s.left; is = record { some = s.some; terminals = s.all } }

one_gate : (kind : GateKind) (at : ℕ) (ts rest : List TokenAt) (i : Item) → OneGate kind at ts rest i → Has ts → One rest IsItem i
one_gate kind at ts rest i (OneGate.plain l) h = let g = terminals l h.1 in record { left = g.left.1; is = g.is }
one_gate kind at ts rest i (OneGate.named l) h = let g = terminals l h.1.1 in record { left = g.left.1; is = g.is }

abbrev Connects : Connection → Type 0
Connects c = IfSome c.value IsExpr

may_connect : (ts rest : List TokenAt) (c : Connection) → MayConnect ts rest c → Has ts → One rest Connects c
may_connect ts rest c MayConnect.none h = record { left = h; is = tt }
may_connect ts rest c (MayConnect.some d) h = let e = expr_is d h in record { left = e.left; is = e.is }

one_named : (ts rest : List TokenAt) (c : NamedConnection) → OneNamed ts rest c → Has ts → One rest IsNamed c
one_named ts rest c (OneNamed.none {w = w}) h = record { left = h.1.1.1.1; is = record { port = name_is w h.1.0; value = tt } }
one_named ts rest c (OneNamed.some {w = w} d) h = let e = expr_is d h.1.1.1 in record { left = e.left.1; is = record { port = name_is w h.1.0; value = e.is } }

connecting : {ts rest : List TokenAt} {cs : Connections} → Connecting ts rest cs → Has ts → One rest AreConnections cs
connecting Connecting.nothing h = record { left = h; is = All-nil Connects }
connecting (Connecting.one {e = e} d) h = let x = expr_is d h in record { left = x.left; is = All-cons Connects (connection_of e) [] x.is (All-nil Connects) }
connecting (Connecting.several {p = p} {ts = ts} {mid = mid} {c = c} {cs = cs} d l) h =
    let first = may_connect ts (quote p fixed.Comma ∷ mid) c d h in
    let s = listed MayConnect Connects may_connect l first.left.1 in
    record { left = s.left; is = All-cons Connects c cs first.is s.all }
connecting (Connecting.named l) h = let s = listed OneNamed IsNamed one_named l h in record { left = s.left; is = (s.some, s.all) }

one_instance : (d : Word) → IsName d → (ts rest : List TokenAt) (i : Item) → OneInstance d ts rest i → Has ts → One rest IsItem i
one_instance d is ts rest i (OneInstance.plain c) h =
    let s = connecting c h.1 in record { left = s.left.1; is = record { definition = is; name = tt; connections = s.is } }
one_instance d is ts rest i (OneInstance.named {w = w} c) h =
    let s = connecting c h.1.1 in record { left = s.left.1; is = record { definition = is; name = name_is w h.0; connections = s.is } }

one_assign : (ts rest : List TokenAt) (i : Item) → OneAssign ts rest i → Has ts → One rest IsItem i
one_assign ts rest i (OneAssign.assign d e) h =
    let l = expr_is d h in let r = expr_is e l.left.1 in record { left = r.left; is = (l.is, r.is) }

-- the items that one item leaves
record Items_are (rest : List TokenAt) (is : List Item) : Type 0 where
  left : Has rest
  all : All IsItem is

behind : {q : ℕ} {f : Fixed} {rest : List TokenAt} {is : List Item} → Several (quote q f ∷ rest) IsItem is → Items_are rest is
behind s = record { left = s.left.1; all = s.all }

one_item : {ts rest : List TokenAt} {is : List Item} → OneItem ts rest is → Has ts → Items_are rest is
one_item (OneItem.attribute a) h = record { left = attribute_left a h; all = All-nil IsItem }
one_item (OneItem.directed {what = what} {r = r} {ws = ws} d w l) h =
    let range = wire_range tt w h.1 in
    let s = names l range.left in
    record { left = s.left.1; all = all_declared what r ws range.is s.all }
one_item (OneItem.nets {what = what} {r = r} n m d l) h =
    let range = may_range m h.1 in
    behind (listed (NetName what r) IsItem (net_name what r range.is) l (may_delay_left d range.left))
one_item (OneItem.regs {ws = ws} l) h = let s = names l h.1 in record { left = s.left.1; all = all_declared net.Reg None ws tt s.all }
one_item (OneItem.gates {p = p} {kind = kind} d l) h = behind (listed (OneGate kind p) IsItem (one_gate kind p) l (may_delay_left d h.1))
one_item (OneItem.instances {d = d} e m l) h = behind (listed (OneInstance d) IsItem (one_instance d (name_is d h.0)) l (may_delay_left m h.1))
one_item (OneItem.assigns m l) h = behind (listed OneAssign IsItem one_assign l (may_delay_left m h.1))
one_item (OneItem.specify d) h = record { left = until_left d h.1; all = All-nil IsItem }

all_items : {ts rest : List TokenAt} {is : List Item} → Items ts rest is → Has ts → Items_are rest is
all_items Items.none h = record { left = h; all = All-nil IsItem }
all_items (Items.more {is = is} {js = js} d l) h =
    let i = one_item d h in let r = all_items l i.left in record { left = r.left; all = All-append IsItem is js i.all r.all }

-- ---- modules

record IsPort (p : Port) : Type 0 where
  name : IsName p.name
  range : IsRange p.range

directed : {ts rest : List TokenAt} {p : Port} → Directed ts rest p → Has ts → One rest IsPort p
directed (Directed.directed {w = w} d r) h = let s = wire_range tt r h.1 in record { left = s.left.1; is = record { name = name_is w s.left.0; range = s.is } }

declared_port : {had : NetKind} {range : Range} {ts rest : List TokenAt} {p : Port} → IsRange range
    → DeclaredPort had range ts rest p → Has ts → One rest IsPort p
declared_port is (DeclaredPort.directed d) h = directed d h
declared_port is (DeclaredPort.undirected {w = w} r) h =
    let s = wire_range is r h in record { left = s.left.1; is = record { name = name_is w s.left.0; range = s.is } }

declared_ports : {had : NetKind} {range : Range} {ts rest : List TokenAt} {ps : List Port} → IsRange range
    → DeclaredPorts had range ts rest ps → Has ts → Several rest IsPort ps
declared_ports is (DeclaredPorts.last {p = p} d) h = let s = declared_port is d h in one IsPort p s.left s.is
declared_ports is (DeclaredPorts.next {p = p} {ps = ps} d l) h =
    let s = declared_port is d h in
    let r = declared_ports s.is.range l s.left.1 in
    record { left = r.left; some = omega arith; all = All-cons IsPort p ps s.is r.all }

-- the ports of a module and their declarations
record Head_is (rest : List TokenAt) (ws : List Word) (ds : List Item) : Type 0 where
  left : Has rest
  ports : All IsName ws
  declares : All IsItem ds

port_declared : (p : Port) → IsPort p → IsItem (declare_port p)
port_declared p is = declared p.what p.range p.name is.range is.name

head_is : {ts rest : List TokenAt} {ws : List Word} {ds : List Item} → Head ts rest ws ds → Has ts → Head_is rest ws ds
head_is Head.none h = record { left = h; ports = All-nil IsName; declares = All-nil IsItem }
head_is Head.empty h = record { left = h.1.1; ports = All-nil IsName; declares = All-nil IsItem }
head_is (Head.names l) h = let s = names l h.1 in record { left = s.left.1; ports = s.all; declares = All-nil IsItem }
head_is (Head.one_port {x = x} d) h =
    let s = directed d h.1 in
    record { left = s.left.1; ports = All-cons IsName x.name [] s.is.name (All-nil IsName); declares = All-cons IsItem (declare_port x) [] (port_declared x s.is) (All-nil IsItem) }
head_is (Head.ports {x = x} {xs = xs} d l) h =
    let s = directed d h.1 in
    let r = declared_ports s.is.range l s.left.1 in
    let have_names : All (λ (y : Port). IsName y.name) xs = All-weaker IsPort (λ y. IsName y.name) (λ y i. i.name) xs r.all in
    let are_declared : All (λ (y : Port). IsItem (declare_port y)) xs = All-weaker IsPort (λ y. IsItem (declare_port y)) port_declared xs r.all in
    record {
      left = r.left.1;
      ports = All-cons IsName x.name (map (λ (y : Port). y.name) xs) s.is.name (All-map IsName (λ (y : Port). y.name) xs have_names);
      declares = All-cons IsItem (declare_port x) (map declare_port xs) (port_declared x s.is) (All-map IsItem declare_port xs are_declared);
    }

module_is : {ts rest : List TokenAt} {m : Module} → OneModule ts rest m → Has ts → One rest IsModule m
module_is (OneModule.«module» {n = n} {ds = ds} {is = is} d l) h =
    let s = head_is d h.1.1 in
    let r = all_items l s.left.1 in
    record { left = r.left.1; is = record { name = name_is n h.1.0; ports = s.ports; items = All-append IsItem ds is s.declares r.all } }

-- ---- primitives

abbrev Declares : PrimDeclare → Type 0
Declares d = IsName d.name

abbrev Pin_declares : List TokenAt → List PrimDeclare → Type 0
Pin_declares rest ds = Has rest × All Declares ds

declares_one : (d : PrimDeclare) → Declares d → All Declares (d ∷ [])
declares_one d h = All-cons Declares d [] h (All-nil Declares)

may_start : {w : Word} {ts rest : List TokenAt} {ds : List PrimDeclare} → IsName w → MayStart w ts rest ds → Has ts → Pin_declares rest ds
may_start n MayStart.none h = (h, All-nil Declares)
may_start {w = w} n (MayStart.some {v = v} e) h = (h.1.1, declares_one (prim_declare (Initial v) w) n)

-- the first port, and what the port list declares of it
record Output_is (rest : List TokenAt) (w : Word) (ds : List PrimDeclare) : Type 0 where
  left : Has rest
  name : IsName w
  declares : All Declares ds

output_pin : {ts rest : List TokenAt} {w : Word} {ds : List PrimDeclare} → OutputPin ts rest w ds → Has ts → Output_is rest w ds
output_pin (OutputPin.plain {w = w} {ds = ds} s) h =
    let n = name_is w h.0 in
    let m = may_start n s h.1 in
    record { left = m.0; name = n; declares = All-cons Declares (prim_declare Output w) ds n m.1 }
output_pin (OutputPin.reg {w = w} {ds = ds} s) h =
    let n = name_is w h.1.0 in
    let m = may_start n s h.1.1 in
    record { left = m.0; name = n; declares = All-cons Declares (prim_declare Output w) (prim_declare Reg w ∷ ds) n (All-cons Declares (prim_declare Reg w) ds n m.1) }

input_pin : (ts rest : List TokenAt) (w : Word) → InputPin ts rest w → Has ts → One rest IsName w
input_pin ts rest w InputPin.plain h = record { left = h.1; is = name_is w h.0 }
input_pin ts rest w InputPin.input h = record { left = h.1.1; is = name_is w h.1.0 }

input_pins : {ts rest : List TokenAt} {ws : List Word} → InputPins ts rest ws → Has ts → Several rest IsName ws
input_pins (InputPins.one {w = w}) h = one IsName w h.1.1 (name_is w h.1.0)
input_pins (InputPins.more {w = w} {ws = ws} l) h =
    let s = listed InputPin IsName input_pin l h.1.1.1 in
    record { left = s.left; some = omega arith; all = All-cons IsName w ws (name_is w h.1.0) s.all }

inputs_declared : (ws : List Word) → All IsName ws → All Declares (map (prim_declare Input) ws)
inputs_declared ws ns = All-map Declares (prim_declare Input) ws ns

-- the ports, and what the port list declares of them
record Pins_are (rest : List TokenAt) (ws : List Word) (ds : List PrimDeclare) : Type 0 where
  left : Has rest
  some : 0 < length ws
  ports : All IsName ws
  declares : All Declares ds

pins_are : {ts rest : List TokenAt} {ws : List Word} {ds : List PrimDeclare} → Pins ts rest ws ds → Has ts → Pins_are rest ws ds
pins_are (Pins.names l) h = let s = names l h in record { left = s.left; some = s.some; ports = s.all; declares = All-nil Declares }
pins_are (Pins.declared {w = w} {ds = ds} {ws = ws} o i) h =
    let out = output_pin o h.1 in
    let s = input_pins i out.left.1 in
    record {
      left = s.left;
      some = omega arith;
      ports = All-cons IsName w ws out.name s.all;
      declares = All-append Declares ds (map (prim_declare Input) ws) out.declares (inputs_declared ws s.all);
    }

pin_declare : {ts rest : List TokenAt} {ds : List PrimDeclare} → PinDeclare ts rest ds → Has ts → Pin_declares rest ds
pin_declare (PinDeclare.output {w = w}) h = (h.1.1.1, declares_one (prim_declare Output w) (name_is w h.1.0))
pin_declare (PinDeclare.output_reg {w = w}) h =
    let n = name_is w h.1.1.0 in
    (h.1.1.1.1, All-cons Declares (prim_declare Output w) (prim_declare Reg w ∷ []) n (declares_one (prim_declare Reg w) n))
pin_declare (PinDeclare.reg {w = w}) h = (h.1.1.1, declares_one (prim_declare Reg w) (name_is w h.1.0))
pin_declare (PinDeclare.inputs {ws = ws} l) h = let s = names l h.1 in (s.left.1, inputs_declared ws s.all)
pin_declare (PinDeclare.initial {w = w} {v = v} e) h = (h.1.1.1.1.1, declares_one (prim_declare (Initial v) w) (name_is w h.1.0))

pin_declares : {ts rest : List TokenAt} {ds : List PrimDeclare} → PinDeclares ts rest ds → Has ts → Pin_declares rest ds
pin_declares PinDeclares.none h = (h, All-nil Declares)
pin_declares (PinDeclares.more {ds = ds} {es = es} d l) h =
    let s = pin_declare d h in let r = pin_declares l s.0 in (r.0, All-append Declares ds es s.1 r.1)

-- ---- tables

one_change : {ts rest : List TokenAt} {s : Symbol} → OneChange ts rest s → Has ts → Has rest
one_change (OneChange.joined e) h = h.1.1.1
one_change (OneChange.apart e f) h = h.1.1.1.1

one_symbol : {ts rest : List TokenAt} {s : Symbol} → OneSymbol ts rest s → Has ts → Has rest
one_symbol (OneSymbol.single e) h = h.1
one_symbol (OneSymbol.change c) h = one_change c h

entry_is : {ts rest : List TokenAt} {es : List Symbol} → Entry ts rest es → Has ts → Has rest × (0 < length es)
entry_is (Entry.bytes e) h = (h.1, omega arith)
entry_is (Entry.change c) h = (one_change c h, omega arith)

entries_are : {ts rest : List TokenAt} {es : List Symbol} → Entries ts rest es → Has ts → Has rest × (0 < length es)
entries_are (Entries.last e) h = entry_is e h
entries_are (Entries.next {es = es} {fs = fs} e l) h =
    let s = entry_is e h in
    let r = entries_are l s.0 in
    (r.0, omega (arith, s.1, length-append es fs))

row_is : {sequential : Bool} {ts rest : List TokenAt} {r : RawRow} → Row sequential ts rest r → Has ts → One rest (IsRow sequential) r
row_is (Row.combinational e o) h =
    let s = entries_are e h in record { left = (one_symbol o s.0.1).1; is = record { some = s.1; state = refl } }
row_is (Row.sequential e t o) h =
    let s = entries_are e h in record { left = (one_symbol o (one_symbol t s.0.1).1).1; is = record { some = s.1; state = refl } }

rows_are : {sequential : Bool} {ts rest : List TokenAt} {rs : List RawRow} → Rows sequential ts rest rs → Has ts → Several rest (IsRow sequential) rs
rows_are {sequential = sequential} (Rows.last {r = r} d) h = let s = row_is d h in one (IsRow sequential) r s.left s.is
rows_are {sequential = sequential} (Rows.next {r = r} {rs = rs} d l) h =
    let s = row_is d h in
    let t = rows_are l s.left in
    record { left = t.left; some = omega arith; all = All-cons (IsRow sequential) r rs s.is t.all }

primitive_is : {ts rest : List TokenAt} {p : Primitive} → OnePrimitive ts rest p → Has ts → One rest IsPrimitive p
primitive_is (OnePrimitive.primitive {n = n} {ds = ds} {es = es} p d r) h =
    let pins = pins_are p h.1.1.1 in
    let more = pin_declares d pins.left.1.1 in
    let rows = rows_are r more.0.1 in
    record {
      left = rows.left.1.1;
      is = record {
        name = name_is n h.1.0;
        some_ports = pins.some;
        ports = pins.ports;
        declarations = All-append Declares ds es pins.declares more.1;
        some_rows = rows.some;
        rows = rows.all;
      };
    }

-- ---- texts

text_is : {ts : List TokenAt} {tree : Source} → Text ts tree → Has ts → IsWhole tree
text_is Text.none h = record { modules = All-nil IsModule; primitives = All-nil IsPrimitive }
text_is (Text.attribute a d) h = text_is d (attribute_left a h)
text_is (Text.modules {m = m} {s = s} d l) h =
    let first = module_is d h in
    let rest = text_is l first.left in
    record { modules = All-cons IsModule m s.modules first.is rest.modules; primitives = rest.primitives }
text_is (Text.primitives {p = p} {s = s} d l) h =
    let first = primitive_is d h in
    let rest = text_is l first.left in
    record { modules = rest.modules; primitives = All-cons IsPrimitive p s.primitives first.is rest.primitives }

-- Each tree of a text is whole.
pub tree_is_whole : (text : List ℕ) (tree : Source) → IsTree text tree → IsWhole tree
tree_is_whole text tree is = text_is is.parsed (stream_has text is.left is.told)
