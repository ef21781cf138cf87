-- The rules of items (IEEE 1364-2005, annexes A.2 to A.4 and A.7).
use Rattle.std.specs.Prelude.{◌≡◌, ℕ, List, [], ◌∷◌, ◌++◌, map, true, false, Some, None}
use Rattle.netlist_grammar.specs.Lexemes.{gate, named as named_lexeme, TokenAt, token_at, is_left_out}
use Rattle.netlist_grammar.specs.Trees.{Range, declares, declare_of, gate_of, instance_of, connection_of, no_connection}
use Rattle.netlist_grammar.specs.Trees.{named_of, takes_value}
use Rattle.netlist_grammar.specs.Rules.{quote, name, OneName, Listed, Until, Attribute, MayDelay, MayRange, WireRange}
use Rattle.netlist_grammar.specs.Expressions.{Expression}
use Rattle.netlist_grammar.specs.declared.fixed.Fixed.{Fixed}
use Rattle.netlist_grammar.specs.declared.fixed.Fixed.TheVariants as fixed
use Rattle.netlist_grammar.specs.declared.tree.Word.{Word}
use Rattle.netlist_grammar.specs.declared.tree.Expr.{Expr}
use Rattle.netlist_grammar.specs.declared.tree.GateKind.{GateKind}
use Rattle.netlist_grammar.specs.declared.tree.Connection.{Connection}
use Rattle.netlist_grammar.specs.declared.tree.NamedConnection.{NamedConnection}
use Rattle.netlist_grammar.specs.declared.tree.Connections.{Connections}
use Rattle.netlist_grammar.specs.declared.tree.Connections.TheVariants.{Positional, Named}
use Rattle.netlist_grammar.specs.declared.tree.NetKind.{NetKind}
use Rattle.netlist_grammar.specs.declared.tree.NetKind.TheVariants as net
use Rattle.netlist_grammar.specs.declared.tree.Item.{Item}
use Rattle.netlist_grammar.specs.declared.tree.Item.TheVariants as item

-- dir = 'input' | 'output'
pub data Direction : Fixed → NetKind → Type 0 where
  input : Direction fixed.Input net.Input
  output : Direction fixed.Output net.Output

-- net = 'wire' | 'tri' | 'supply0' | 'supply1'
pub data Net : Fixed → NetKind → Type 0 where
  wire : Net fixed.Wire net.Wire
  tri : Net fixed.Tri net.Wire
  supply0 : Net fixed.Supply0 net.Supply0
  supply1 : Net fixed.Supply1 net.Supply1

-- name [ '=' expr ], with '=' for 'wire' and 'tri' alone
pub data NetName (what : NetKind) (r : Range) : List TokenAt → List TokenAt → Item → Type 0 where
  plain : {w : Word} {ts : List TokenAt} → NetName what r (name w ∷ ts) ts (declares what r w)
  valued : {p : ℕ} {w : Word} {ts rest : List TokenAt} {e : Expr} → takes_value what ≡ true → Expression ts rest e
      → NetName what r (name w ∷ quote p fixed.Equals ∷ ts) rest (declare_of what r w (Some e))

-- [ name ] '(' expr { ',' expr } ')'
pub data OneGate (kind : GateKind) (at : ℕ) : List TokenAt → List TokenAt → Item → Type 0 where
  plain : {p q : ℕ} {ts rest : List TokenAt} {es : List Expr} → Listed Expression ts (quote q fixed.Close ∷ rest) es
      → OneGate kind at (quote p fixed.Open ∷ ts) rest (gate_of kind at es)
  named : {p q : ℕ} {w : Word} {ts rest : List TokenAt} {es : List Expr}
      → Listed Expression ts (quote q fixed.Close ∷ rest) es
      → OneGate kind at (name w ∷ quote p fixed.Open ∷ ts) rest (gate_of kind at es)

-- [ expr ]
pub data MayConnect : List TokenAt → List TokenAt → Connection → Type 0 where
  none : {t : TokenAt} {ts : List TokenAt} → MayConnect (t ∷ ts) (t ∷ ts) (no_connection t.at)
  some : {ts rest : List TokenAt} {e : Expr} → Expression ts rest e → MayConnect ts rest (connection_of e)

-- '.' name '(' [ expr ] ')'
pub data OneNamed : List TokenAt → List TokenAt → NamedConnection → Type 0 where
  none : {p q r : ℕ} {w : Word} {ts : List TokenAt}
      → OneNamed (quote p fixed.Dot ∷ name w ∷ quote q fixed.Open ∷ quote r fixed.Close ∷ ts) ts (named_of w None)
  some : {p q r : ℕ} {w : Word} {ts rest : List TokenAt} {e : Expr} → Expression ts (quote r fixed.Close ∷ rest) e
      → OneNamed (quote p fixed.Dot ∷ name w ∷ quote q fixed.Open ∷ ts) rest (named_of w (Some e))

-- Nothing, or [ expr ] { ',' [ expr ] }, or named { ',' named }. Nothing between the parentheses is no connection, and
-- not an empty one.
pub data Connecting : List TokenAt → List TokenAt → Connections → Type 0 where
  nothing : {ts : List TokenAt} → Connecting ts ts (Positional [])
  one : {ts rest : List TokenAt} {e : Expr} → Expression ts rest e
      → Connecting ts rest (Positional (connection_of e ∷ []))
  several : {p : ℕ} {ts mid rest : List TokenAt} {c : Connection} {cs : List Connection}
      → MayConnect ts (quote p fixed.Comma ∷ mid) c → Listed MayConnect mid rest cs
      → Connecting ts rest (Positional (c ∷ cs))
  named : {ts rest : List TokenAt} {cs : List NamedConnection} → Listed OneNamed ts rest cs
      → Connecting ts rest (Named cs)

-- [ name ] '(' [ conns ] ')'
pub data OneInstance (d : Word) : List TokenAt → List TokenAt → Item → Type 0 where
  plain : {p q : ℕ} {ts rest : List TokenAt} {cs : Connections} → Connecting ts (quote q fixed.Close ∷ rest) cs
      → OneInstance d (quote p fixed.Open ∷ ts) rest (instance_of d None cs)
  named : {p q : ℕ} {w : Word} {ts rest : List TokenAt} {cs : Connections}
      → Connecting ts (quote q fixed.Close ∷ rest) cs
      → OneInstance d (name w ∷ quote p fixed.Open ∷ ts) rest (instance_of d (Some w) cs)

-- expr '=' expr
pub data OneAssign : List TokenAt → List TokenAt → Item → Type 0 where
  assign : {p : ℕ} {ts mid rest : List TokenAt} {l r : Expr} → Expression ts (quote p fixed.Equals ∷ mid) l
      → Expression mid rest r → OneAssign ts rest (item.Assign l r)

-- An item leaves one or more items of the tree, and attributes and specify blocks leave none:
-- attr  |  dir [ 'wire' ] [ range ] name { ',' name } ';'  |  net [ range ] [ delay ] dname { ',' dname } ';'
-- |  'reg' name { ',' name } ';'  |  kind [ delay ] ginst { ',' ginst } ';'  |  name [ delay ] inst { ',' inst } ';'
-- |  'assign' [ delay ] expr '=' expr { ',' expr '=' expr } ';'
-- |  'specify' tokens 'endspecify'
pub data OneItem : List TokenAt → List TokenAt → List Item → Type 0 where
  attribute : {ts rest : List TokenAt} → Attribute ts rest → OneItem ts rest []
  directed : {p q : ℕ} {f : Fixed} {what : NetKind} {r : Range} {ts mid rest : List TokenAt} {ws : List Word}
      → Direction f what → WireRange None ts mid r
      → Listed OneName mid (quote q fixed.Semi ∷ rest) ws → OneItem (quote p f ∷ ts) rest (map (declares what r) ws)
  nets : {p q : ℕ} {f : Fixed} {what : NetKind} {r : Range} {ts mid from rest : List TokenAt} {is : List Item}
      → Net f what → MayRange ts mid r → MayDelay mid from
      → Listed (NetName what r) from (quote q fixed.Semi ∷ rest) is → OneItem (quote p f ∷ ts) rest is
  regs : {p q : ℕ} {ts rest : List TokenAt} {ws : List Word} → Listed OneName ts (quote q fixed.Semi ∷ rest) ws
      → OneItem (quote p fixed.Reg ∷ ts) rest (map (declares net.Reg None) ws)
  gates : {p q : ℕ} {kind : GateKind} {ts mid rest : List TokenAt} {is : List Item} → MayDelay ts mid
      → Listed (OneGate kind p) mid (quote q fixed.Semi ∷ rest) is
      → OneItem (token_at p (gate kind) ∷ ts) rest is
  instances : {q : ℕ} {d : Word} {ts mid rest : List TokenAt} {is : List Item}
      → is_left_out (named_lexeme d.text d.escaped) ≡ false → MayDelay ts mid
      → Listed (OneInstance d) mid (quote q fixed.Semi ∷ rest) is → OneItem (name d ∷ ts) rest is
  assigns : {p q : ℕ} {ts mid rest : List TokenAt} {is : List Item} → MayDelay ts mid
      → Listed OneAssign mid (quote q fixed.Semi ∷ rest) is → OneItem (quote p fixed.Assign ∷ ts) rest is
  specify : {p : ℕ} {ts rest : List TokenAt} → Until fixed.Endspecify ts rest
      → OneItem (quote p fixed.Specify ∷ ts) rest []

-- { item }
pub data Items : List TokenAt → List TokenAt → List Item → Type 0 where
  none : {ts : List TokenAt} → Items ts ts []
  more : {ts mid rest : List TokenAt} {is js : List Item} → OneItem ts mid is → Items mid rest js
      → Items ts rest (is ++ js)
