-- What each tree of a text has, whatever the text.
use Rattle.std.specs.Prelude.{◌≡◌, ℕ, List, ◌&&◌, if◌then◌else◌, ◌<◌, ◌≤◌, ◌^◌, length, All, Bool, IsTrue, is_some}
use Rattle.std.specs.Prelude.{Option, Some, None, IfSome}
use Rattle.std.specs.List.{list_all}
use Rattle.netlist_tokens.specs.Byte.{begins, is_letter, is_name_byte, is_printable}
use Rattle.design_cell.specs.declared.row.RawRow.{RawRow}
use Rattle.netlist_grammar.specs.Trees.{Range, takes_value, is_sequential}
use Rattle.netlist_grammar.specs.declared.tree.Word.{Word}
use Rattle.netlist_grammar.specs.declared.tree.Part.{Part}
use Rattle.netlist_grammar.specs.declared.tree.PartKind.{PartKind}
use Rattle.netlist_grammar.specs.declared.tree.PartKind.TheVariants.{Whole, Bit, Slice, Literal}
use Rattle.netlist_grammar.specs.declared.tree.Expr.{Expr}
use Rattle.netlist_grammar.specs.declared.tree.GateItem.{GateItem}
use Rattle.netlist_grammar.specs.declared.tree.Connection.{Connection}
use Rattle.netlist_grammar.specs.declared.tree.NamedConnection.{NamedConnection}
use Rattle.netlist_grammar.specs.declared.tree.Connections.{Connections}
use Rattle.netlist_grammar.specs.declared.tree.Connections.TheVariants.{Positional, Named}
use Rattle.netlist_grammar.specs.declared.tree.InstanceItem.{InstanceItem}
use Rattle.netlist_grammar.specs.declared.tree.Declare.{Declare}
use Rattle.netlist_grammar.specs.declared.tree.Item.{Item}
use Rattle.netlist_grammar.specs.declared.tree.Item.TheVariants as item
use Rattle.netlist_grammar.specs.declared.tree.Module.{Module}
use Rattle.netlist_grammar.specs.declared.tree.PrimDeclare.{PrimDeclare}
use Rattle.netlist_grammar.specs.declared.tree.Primitive.{Primitive}
use Rattle.netlist_grammar.specs.declared.tree.Source.{Source}

-- A name is plain, a letter or `_` with letters, digits, `_` and `$` after it, or escaped, one or more printable bytes
-- (IEEE 1364-2005, clause 3.7).
abbrev pub is_name : List ℕ → Bool → Bool
is_name text escaped =
    if escaped then begins is_printable text && list_all is_printable text else begins is_letter text
    && list_all is_name_byte text

abbrev pub IsName : Word → Type 0
IsName w = IsTrue (is_name w.text w.escaped)

-- An index is below 2^31.
abbrev pub IsIndex : ℕ → Type 0
IsIndex n = n < 2147483648

abbrev pub IsRange : Range → Type 0
IsRange None = Unit {0}
IsRange (Some r) = IsIndex r.0 × IsIndex r.1

-- A literal has 1 to 128 bits, and its value fits.
pub record IsLiteral (size value : ℕ) : Type 0 where
  pub some : 1 ≤ size
  pub few : size ≤ 128
  pub fits : value < 2 ^ size

abbrev pub IsPart : PartKind → Type 0
IsPart (Whole w) = IsName w
IsPart (Bit w n) = IsName w × IsIndex n
IsPart (Slice w n m) = IsName w × IsIndex n × IsIndex m
IsPart (Literal size value) = IsLiteral size value

-- An expression has a part at least.
pub record IsExpr (e : Expr) : Type 0 where
  pub some : 0 < length e.parts
  pub parts : All (λ (p : Part). IsPart p.what) e.parts

-- Only a wire is given a value.
abbrev pub IsValue : Bool → Option Expr → Type 0
IsValue can None = Unit {0}
IsValue can (Some e) = IsTrue can × IsExpr e

pub record IsDeclare (d : Declare) : Type 0 where
  pub name : IsName d.name
  pub range : IsRange d.range
  pub value : IsValue (takes_value d.what) d.value

-- A gate has a terminal at least.
pub record IsGate (g : GateItem) : Type 0 where
  pub some : 0 < length g.terminals
  pub terminals : All IsExpr g.terminals

pub record IsNamed (c : NamedConnection) : Type 0 where
  pub port : IsName c.port
  pub value : IfSome c.value IsExpr

-- By position there may be no connection, and a connection may be empty.
abbrev pub AreConnections : Connections → Type 0
AreConnections (Positional cs) = All (λ (c : Connection). IfSome c.value IsExpr) cs
AreConnections (Named cs) = (0 < length cs) × All IsNamed cs

pub record IsInstance (i : InstanceItem) : Type 0 where
  pub definition : IsName i.definition
  pub name : IfSome i.name IsName
  pub connections : AreConnections i.connections

abbrev pub IsItem : Item → Type 0
IsItem (item.Declare d) = IsDeclare d
IsItem (item.Gate g) = IsGate g
IsItem (item.Instance i) = IsInstance i
IsItem (item.Assign left right) = IsExpr left × IsExpr right

pub record IsModule (m : Module) : Type 0 where
  pub name : IsName m.name
  pub ports : All IsName m.ports
  pub items : All IsItem m.items

-- A row has an entry at least, and a symbol for the state exactly in a sequential primitive.
pub record IsRow (sequential : Bool) (r : RawRow) : Type 0 where
  pub some : 0 < length r.entries
  pub state : is_some r.state ≡ sequential

-- A primitive has a port and a row at least.
pub record IsPrimitive (p : Primitive) : Type 0 where
  pub name : IsName p.name
  pub some_ports : 0 < length p.ports
  pub ports : All IsName p.ports
  pub declarations : All (λ (d : PrimDeclare). IsName d.name) p.declarations
  pub some_rows : 0 < length p.rows
  pub rows : All (IsRow (is_sequential p.declarations)) p.rows

pub record IsWhole (tree : Source) : Type 0 where
  pub modules : All IsModule tree.modules
  pub primitives : All IsPrimitive tree.primitives
