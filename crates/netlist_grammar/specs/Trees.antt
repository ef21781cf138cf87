-- What is made of the lexemes of a text: its parts, under way and whole.
use Rattle.std.specs.Prelude.{ℕ, List, [], ◌∷◌, ◌++◌, map, Option, Some, None, Bool, true, false}
use Rattle.std.specs.List.{list_any}
use Rattle.design_cell.specs.declared.row.RawRow.{RawRow}
use Rattle.design_cell.specs.declared.symbol.Symbol.{Symbol}
use Rattle.design_cell.specs.declared.symbol.Symbol.TheVariants.{Single}
use Rattle.netlist_grammar.specs.declared.tree.Word.{Word}
use Rattle.netlist_grammar.specs.declared.tree.Part.{Part}
use Rattle.netlist_grammar.specs.declared.tree.PartKind.TheVariants as part_kind
use Rattle.netlist_grammar.specs.declared.tree.Expr.{Expr}
use Rattle.netlist_grammar.specs.declared.tree.GateKind.{GateKind}
use Rattle.netlist_grammar.specs.declared.tree.Connection.{Connection}
use Rattle.netlist_grammar.specs.declared.tree.NamedConnection.{NamedConnection}
use Rattle.netlist_grammar.specs.declared.tree.Connections.{Connections}
use Rattle.netlist_grammar.specs.declared.tree.NetKind.{NetKind}
use Rattle.netlist_grammar.specs.declared.tree.NetKind.TheVariants.{Wire}
use Rattle.netlist_grammar.specs.declared.tree.Item.{Item}
use Rattle.netlist_grammar.specs.declared.tree.Item.TheVariants as item
use Rattle.netlist_grammar.specs.declared.tree.Module.{Module}
use Rattle.netlist_grammar.specs.declared.tree.PrimKind.{PrimKind}
use Rattle.netlist_grammar.specs.declared.tree.PrimKind.TheVariants.{Reg}
use Rattle.netlist_grammar.specs.declared.tree.PrimDeclare.{PrimDeclare}
use Rattle.netlist_grammar.specs.declared.tree.Primitive.{Primitive}
use Rattle.netlist_grammar.specs.declared.tree.Source.{Source}

-- ---- expressions

abbrev pub whole_part : Word → Part
whole_part w = record { at = w.at; what = part_kind.Whole w }

abbrev pub bit_part : Word → ℕ → Part
bit_part w n = record { at = w.at; what = part_kind.Bit w n }

abbrev pub slice_part : Word → ℕ → ℕ → Part
slice_part w n m = record { at = w.at; what = part_kind.Slice w n m }

abbrev pub literal_part : ℕ → ℕ × ℕ → Part
literal_part at l = record { at = at; what = part_kind.Literal l.0 l.1 }

abbrev pub expr_of : ℕ → List Part → Expr
expr_of at ps = record { at = at; parts = ps }

-- ---- items

abbrev pub Range : Type 0
Range = Option (ℕ × ℕ)

abbrev pub declare_of : NetKind → Range → Word → Option Expr → Item
declare_of what range name value = item.Declare (record { what = what; range = range; name = name; value = value })

-- a declaration without a value
abbrev pub declares : NetKind → Range → Word → Item
declares what range name = declare_of what range name None

-- A wire may be given a value where it is declared.
abbrev pub takes_value : NetKind → Bool
takes_value Wire = true
takes_value _ = false

abbrev pub gate_of : GateKind → ℕ → List Expr → Item
gate_of kind at terminals = item.Gate (record { kind = kind; at = at; terminals = terminals })

abbrev pub instance_of : Word → Option Word → Connections → Item
instance_of definition name connections =
    item.Instance (record { definition = definition; name = name; connections = connections })

abbrev pub connection_of : Expr → Connection
connection_of e = record { at = e.at; value = Some e }

-- an empty connection, with the byte of the token after it
abbrev pub no_connection : ℕ → Connection
no_connection at = record { at = at; value = None }

abbrev pub named_of : Word → Option Expr → NamedConnection
named_of port value = record { port = port; value = value }

-- ---- primitives

abbrev pub prim_declare : PrimKind → Word → PrimDeclare
prim_declare what name = record { what = what; name = name }

abbrev pub is_reg : PrimKind → Bool
is_reg Reg = true
is_reg _ = false

-- A primitive is sequential exactly where it has `reg`.
abbrev pub is_sequential : List PrimDeclare → Bool
is_sequential declarations = list_any (λ (d : PrimDeclare). is_reg d.what) declarations

abbrev pub row_of : List Symbol → Option Symbol → Symbol → RawRow
row_of entries state output = record { entries = entries; state = state; output = output }

-- each byte a symbol by itself
abbrev pub singles : List ℕ → List Symbol
singles bytes = map (λ b. Single b) bytes

-- ---- texts

abbrev pub source_of : List Module → List Primitive → Source
source_of ms ps = record { modules = ms; primitives = ps }

abbrev pub nothing : Source
nothing = source_of [] []

-- what two texts, one after the other, stand for
abbrev pub joined : Source → Source → Source
joined a b = source_of (a.modules ++ b.modules) (a.primitives ++ b.primitives)

abbrev pub one_module : Module → Source
one_module m = source_of (m ∷ []) []

abbrev pub one_primitive : Primitive → Source
one_primitive p = source_of [] (p ∷ [])

-- ---- what is under way

-- what stands before a module, and the module as far as it is read
pub record Under : Type 0 where
  pub before : Source
  pub name : Word
  pub ports : List Word
  pub items : List Item

abbrev pub under : Source → Word → List Word → List Item → Under
under b n ps is = record { before = b; name = n; ports = ps; items = is }

abbrev pub with_item : Under → Item → Under
with_item u i = under u.before u.name u.ports (u.items ++ i ∷ [])

-- a port that is declared in the head
abbrev pub with_port : Under → NetKind → Range → Word → Under
with_port u what range w = under u.before u.name (u.ports ++ w ∷ []) (u.items ++ declares what range w ∷ [])

abbrev pub module_of : Under → Module
module_of u = record { name = u.name; ports = u.ports; items = u.items }

abbrev pub closed : Under → Source
closed u = joined u.before (one_module (module_of u))

-- what stands before a primitive, and the primitive as far as it is read
pub record Within : Type 0 where
  pub before : Source
  pub name : Word
  pub ports : List Word
  pub declarations : List PrimDeclare
  pub rows : List RawRow

abbrev pub within : Source → Word → List Word → List PrimDeclare → List RawRow → Within
within b n ps ds rs = record { before = b; name = n; ports = ps; declarations = ds; rows = rs }

abbrev pub with_declare : Within → PrimKind → Word → Within
with_declare p what w = within p.before p.name p.ports (p.declarations ++ prim_declare what w ∷ []) p.rows

-- a port that is declared in the port list
abbrev pub with_pin : Within → PrimKind → Word → Within
with_pin p what w = within p.before p.name (p.ports ++ w ∷ []) (p.declarations ++ prim_declare what w ∷ []) p.rows

abbrev pub with_row : Within → RawRow → Within
with_row p r = within p.before p.name p.ports p.declarations (p.rows ++ r ∷ [])

abbrev pub primitive_of : Within → Primitive
primitive_of p = record { name = p.name; ports = p.ports; declarations = p.declarations; rows = p.rows }

abbrev pub closed_primitive : Within → Source
closed_primitive p = joined p.before (one_primitive (primitive_of p))
