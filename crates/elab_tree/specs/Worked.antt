-- The definition worked by hand on small texts.
use Rattle.std.specs.Prelude.{◌≡◌, ℕ, true, false, Option, Some, None, List, [], ◌∷◌, Ok, Err, codes, map}
use Rattle.design_cell.specs.declared.gate.Gate.TheVariants.{And, Buf, Not}
use Rattle.design_cell.specs.declared.symbol.Symbol.TheVariants.{Single}
use Rattle.design_cell.specs.declared.value.Value.TheVariants.{X, One}
use Rattle.design_cell.specs.Table.{Table, table_of}
use Rattle.netlist_grammar.specs.declared.tree.Word.{Word}
use Rattle.netlist_grammar.specs.declared.tree.Expr.{Expr}
use Rattle.netlist_grammar.specs.declared.tree.GateKind.TheVariants.{Logic, Pullup}
use Rattle.netlist_grammar.specs.declared.tree.Connections.TheVariants.{Positional, Named}
use Rattle.netlist_grammar.specs.declared.tree.NetKind.TheVariants as kind
use Rattle.netlist_grammar.specs.declared.tree.Item.{Item}
use Rattle.netlist_grammar.specs.declared.tree.Item.TheVariants as item
use Rattle.netlist_grammar.specs.declared.tree.Module.{Module}
use Rattle.netlist_grammar.specs.declared.tree.Primitive.{Primitive}
use Rattle.netlist_grammar.specs.declared.tree.Source.{Source}
use Rattle.netlist_grammar.specs.Trees.{whole_part, bit_part, literal_part, expr_of, declares, gate_of, row_of}
use Rattle.netlist_grammar.specs.Trees.{instance_of, connection_of, named_of}
use Rattle.design_circuit.specs.Design.{Spelling, spelling_of}
use Rattle.design_circuit.specs.declared.design.Design.{Design}
use Rattle.design_circuit.specs.declared.design.Net.{Net}
use Rattle.design_circuit.specs.declared.design.Pin.TheVariants as pin
use Rattle.design_circuit.specs.declared.design.Table.TheVariants as table
use Rattle.design_circuit.specs.declared.design.Driver.{Driver}
use Rattle.design_circuit.specs.declared.design.Driver.TheVariants as driver
use Rattle.elab_nets.specs.declared.fault.ElabErr.TheVariants.{NoModule, SelfInstance, Width, TwoDrivers}
use Rattle.elab_nets.specs.Outcome.{Outcome, after}
use Rattle.elab_tree.specs.Library.{library_of}
use Rattle.elab_tree.specs.Elaborate.{design_of}

-- ---- texts

-- a name at a byte, and by itself
abbrev pub word : ℕ → List ℕ → Word
word at text = record { text = text; escaped = false; at = at }

abbrev pub name : ℕ → List ℕ → Expr
name at text = expr_of at (whole_part (word at text) ∷ [])

abbrev pub bit : ℕ → List ℕ → ℕ → Expr
bit at text index = expr_of at (bit_part (word at text) index ∷ [])

abbrev pub module_of : List ℕ → List Word → List Item → Module
module_of text ports items = record { name = word 0 text; ports = ports; items = items }

-- a primitive of which only the name counts
abbrev pub no_rows : List ℕ → Primitive
no_rows text = record { name = word 0 text; ports = []; declarations = []; rows = [] }

-- A source of these modules, and of a primitive p whose table is given.
abbrev pub source_of : List Module → Source
source_of modules = record { modules = modules; primitives = no_rows (codes "p") ∷ [] }

abbrev pub made_of : Table → List Module → List ℕ → Outcome Design
made_of table modules top = design_of (library_of (source_of modules) (table ∷ [])) top

-- a combinational primitive of two inputs, and a sequential one that takes 1 as the second rises: a row `? r : ? : 1`
abbrev pub gate_table : Table
gate_table = table_of false 2 [] X

abbrev pub rise_table : Table
rise_table = table_of true 2 (row_of (Single 63 ∷ Single 114 ∷ []) (Some (Single 63)) (Single 49) ∷ []) One

-- the drivers of a design's nets, and their names
abbrev pub drivers : Outcome Design → Outcome (List Driver)
drivers made = after made (λ (design : Design). Ok (map (λ (n : Net). n.driver) design.nets))

abbrev pub names : Outcome Design → Outcome (List Spelling)
names made = after made (λ (design : Design). Ok (map (λ (n : Net). spelling_of n.path) design.nets))

abbrev pub spelling : List (List ℕ) → Option ℕ → Spelling
spelling texts index = record { texts = texts; index = index }

-- ---- a module with an instance

-- module c(a, y); input a; output y; not n(y, a); endmodule
abbrev pub inverter : Module
inverter = module_of (codes "c") (word 9 (codes "a") ∷ word 12 (codes "y") ∷ [])
    (declares kind.Input None (word 22 (codes "a"))
    ∷ declares kind.Output None (word 32 (codes "y"))
    ∷ gate_of (Logic Not) 35 (name 41 (codes "y") ∷ name 44 (codes "a") ∷ [])
    ∷ [])

-- module t(p, q); input [1:0] p; output q; c i(.y(w), .a(p[0])); and g(q, w, p[1]); endmodule
abbrev pub above : Module
above = module_of (codes "t") (word 9 (codes "p") ∷ word 12 (codes "q") ∷ [])
    (declares kind.Input (Some (1, 0)) (word 28 (codes "p"))
    ∷ declares kind.Output None (word 38 (codes "q"))
    ∷ instance_of (word 41 (codes "c")) (Some (word 43 (codes "i")))
    (Named (named_of (word 46 (codes "y")) (Some (name 48 (codes "w")))
    ∷ named_of (word 53 (codes "a")) (Some (bit 55 (codes "p") 0))
    ∷ []))
    ∷ gate_of (Logic And) 63 (name 69 (codes "q") ∷ name 72 (codes "w") ∷ bit 75 (codes "p") 1 ∷ [])
    ∷ [])

-- p[1], p[0] and q come first; then i.a and i.y; then w, which the connection makes.
abbrev pub InstanceNames : Type 0
InstanceNames = names (made_of gate_table (inverter ∷ above ∷ []) (codes "t")) ≡ Ok
    (spelling (codes "p" ∷ []) (Some 1)
    ∷ spelling (codes "p" ∷ []) (Some 0)
    ∷ spelling (codes "q" ∷ []) None
    ∷ spelling (codes "i" ∷ codes "a" ∷ []) None
    ∷ spelling (codes "i" ∷ codes "y" ∷ []) None
    ∷ spelling (codes "w" ∷ []) None
    ∷ [])

-- i.a takes p[0], and w takes i.y.
abbrev pub InstanceDrivers : Type 0
InstanceDrivers = drivers (made_of gate_table (inverter ∷ above ∷ []) (codes "t")) ≡ Ok
    (driver.Input
    ∷ driver.Input
    ∷ driver.Cell (table.Gate And) (pin.Net 5 ∷ pin.Net 0 ∷ [])
    ∷ driver.Copy 1
    ∷ driver.Cell (table.Gate Not) (pin.Net 3 ∷ [])
    ∷ driver.Copy 4
    ∷ [])

-- No module has the name.
abbrev pub NoTop : Type 0
NoTop = drivers (made_of gate_table (inverter ∷ []) (codes "t")) ≡ Err (NoModule (codes "t"))

-- A primitive is no top.
abbrev pub PrimitiveTop : Type 0
PrimitiveTop = drivers (made_of gate_table (inverter ∷ []) (codes "p")) ≡ Err (NoModule (codes "p"))

-- ---- a module alone

abbrev pub alone : Table → List Word → List Item → Outcome (List Driver)
alone t ports items = drivers (made_of t (module_of (codes "t") ports items ∷ []) (codes "t"))

-- module t; t i(); endmodule
abbrev pub OfItself : Type 0
OfItself = alone gate_table [] (instance_of (word 10 (codes "t")) (Some (word 12 (codes "i"))) (Positional []) ∷ [])
    ≡ Err (SelfInstance (codes "t"))

-- buf b(y, a); buf c(y, a);
abbrev pub DrivenTwice : Type 0
DrivenTwice = alone gate_table []
    (gate_of (Logic Buf) 0 (name 6 (codes "y") ∷ name 9 (codes "a") ∷ [])
    ∷ gate_of (Logic Buf) 13 (name 19 (codes "y") ∷ name 22 (codes "a") ∷ [])
    ∷ [])
    ≡ Err (TwoDrivers 0 19)

-- reg r; buf b(y, r);
abbrev pub RegisterTerminal : Type 0
RegisterTerminal = alone gate_table []
    (declares kind.Reg None (word 4 (codes "r"))
    ∷ gate_of (Logic Buf) 7 (name 13 (codes "y") ∷ name 16 (codes "r") ∷ [])
    ∷ [])
    ≡ Ok (driver.Cell (table.Gate Buf) (pin.Dead ∷ []) ∷ [])

-- wire [0:1] v; supply1 s; wire u; assign v = 2'b10; pullup (w);
abbrev pub Constants : Type 0
Constants = alone gate_table []
    (declares kind.Wire (Some (0, 1)) (word 11 (codes "v"))
    ∷ declares kind.Supply1 None (word 22 (codes "s"))
    ∷ declares kind.Wire None (word 30 (codes "u"))
    ∷ item.Assign (name 40 (codes "v")) (expr_of 44 (literal_part 44 (2, 2) ∷ []))
    ∷ gate_of Pullup 51 (name 59 (codes "w") ∷ [])
    ∷ [])
    ≡ Ok (driver.Constant true
    ∷ driver.Constant false
    ∷ driver.Constant true
    ∷ driver.Undriven
    ∷ driver.Constant true
    ∷ [])

-- wire [0:1] v; assign v = 1'b0;
abbrev pub WidthsDiffer : Type 0
WidthsDiffer = alone gate_table []
    (declares kind.Wire (Some (0, 1)) (word 11 (codes "v"))
    ∷ item.Assign (name 21 (codes "v")) (expr_of 25 (literal_part 25 (1, 0) ∷ []))
    ∷ [])
    ≡ Err (Width 25)

-- p u(y, a, b); of a combinational primitive
abbrev pub instance_of_p : Item
instance_of_p = instance_of (word 0 (codes "p")) (Some (word 2 (codes "u")))
    (Positional (connection_of (name 4 (codes "y"))
    ∷ connection_of (name 7 (codes "a"))
    ∷ connection_of (name 10 (codes "b"))
    ∷ []))

abbrev pub PrimitiveCell : Type 0
PrimitiveCell = alone gate_table [] (instance_of_p ∷ [])
    ≡ Ok (driver.Cell (table.Udp 0) (pin.Net 1 ∷ pin.Net 2 ∷ []) ∷ driver.Undriven ∷ driver.Undriven ∷ [])

-- The same of a sequential one: its second pin is a clock, and it starts at 1.
abbrev pub PrimitiveRegister : Type 0
PrimitiveRegister = alone rise_table [] (instance_of_p ∷ [])
    ≡ Ok (driver.Register (record { udp = 0; pins = pin.Net 1 ∷ pin.Net 2 ∷ []; clocks = 2; start = One })
    ∷ driver.Undriven
    ∷ driver.Undriven
    ∷ [])
