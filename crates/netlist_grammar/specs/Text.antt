-- The rules of modules and of a whole text (IEEE 1364-2005, annex A.1).
use Rattle.std.specs.Prelude.{ℕ, List, [], ◌∷◌, ◌++◌, map, None}
use Rattle.netlist_grammar.specs.Lexemes.{TokenAt}
use Rattle.netlist_grammar.specs.Trees.{Range, declares, nothing, joined, one_module, one_primitive}
use Rattle.netlist_grammar.specs.Rules.{quote, name, OneName, Listed, Attribute, WireRange}
use Rattle.netlist_grammar.specs.Items.{Direction, Items}
use Rattle.netlist_grammar.specs.Primitives.{OnePrimitive}
use Rattle.netlist_grammar.specs.declared.fixed.Fixed.{Fixed}
use Rattle.netlist_grammar.specs.declared.fixed.Fixed.TheVariants as fixed
use Rattle.netlist_grammar.specs.declared.tree.Word.{Word}
use Rattle.netlist_grammar.specs.declared.tree.NetKind.{NetKind}
use Rattle.netlist_grammar.specs.declared.tree.Item.{Item}
use Rattle.netlist_grammar.specs.declared.tree.Module.{Module}
use Rattle.netlist_grammar.specs.declared.tree.Primitive.{Primitive}
use Rattle.netlist_grammar.specs.declared.tree.Source.{Source}

-- a port that is declared in the head of its module
pub record Port : Type 0 where
  pub what : NetKind
  pub range : Range
  pub name : Word

abbrev pub port_of : NetKind → Range → Word → Port
port_of what range name = record { what = what; range = range; name = name }

abbrev pub declare_port : Port → Item
declare_port p = declares p.what p.range p.name

-- dir [ 'wire' ] [ range ] name
pub data Directed : List TokenAt → List TokenAt → Port → Type 0 where
  directed : {p : ℕ} {f : Fixed} {what : NetKind} {r : Range} {w : Word} {ts rest : List TokenAt} → Direction f what
      → WireRange None ts (name w ∷ rest) r
      → Directed (quote p f ∷ ts) rest (port_of what r w)

-- [ dir ] [ 'wire' ] [ range ] name: a port without a direction has that of the one before it, and also its range where
-- it has none of its own
pub data DeclaredPort (had : NetKind) (range : Range) : List TokenAt → List TokenAt → Port → Type 0 where
  directed : {ts rest : List TokenAt} {p : Port} → Directed ts rest p → DeclaredPort had range ts rest p
  undirected : {r : Range} {w : Word} {ts rest : List TokenAt} → WireRange range ts (name w ∷ rest) r
      → DeclaredPort had range ts rest (port_of had r w)

-- aport { ',' aport }, after a port of that direction and range
pub data DeclaredPorts : NetKind → Range → List TokenAt → List TokenAt → List Port → Type 0 where
  last : {had : NetKind} {range : Range} {ts rest : List TokenAt} {p : Port} → DeclaredPort had range ts rest p
      → DeclaredPorts had range ts rest (p ∷ [])
  next : {at : ℕ} {had : NetKind} {range : Range} {ts mid rest : List TokenAt} {p : Port} {ps : List Port}
      → DeclaredPort had range ts (quote at fixed.Comma ∷ mid) p
      → DeclaredPorts p.what p.range mid rest ps → DeclaredPorts had range ts rest (p ∷ ps)

-- The head of a module, its ports and what it declares of them:
-- [ '(' [ name { ',' name }  |  aport { ',' aport } ] ')' ], where the first aport has a direction
pub data Head : List TokenAt → List TokenAt → List Word → List Item → Type 0 where
  none : {ts : List TokenAt} → Head ts ts [] []
  empty : {p q : ℕ} {ts : List TokenAt} → Head (quote p fixed.Open ∷ quote q fixed.Close ∷ ts) ts [] []
  names : {p q : ℕ} {ts rest : List TokenAt} {ws : List Word} → Listed OneName ts (quote q fixed.Close ∷ rest) ws
      → Head (quote p fixed.Open ∷ ts) rest ws []
  one_port : {p q : ℕ} {ts rest : List TokenAt} {x : Port} → Directed ts (quote q fixed.Close ∷ rest) x
      → Head (quote p fixed.Open ∷ ts) rest (x.name ∷ []) (declare_port x ∷ [])
  ports : {p q r : ℕ} {ts mid rest : List TokenAt} {x : Port} {xs : List Port}
      → Directed ts (quote q fixed.Comma ∷ mid) x → DeclaredPorts x.what x.range mid (quote r fixed.Close ∷ rest) xs
      → Head (quote p fixed.Open ∷ ts) rest (x.name ∷ map (λ (y : Port). y.name) xs)
      (declare_port x ∷ map declare_port xs)

-- 'module' name [ '(' [ ports ] ')' ] ';' { item } 'endmodule'
pub data OneModule : List TokenAt → List TokenAt → Module → Type 0 where
  «module» : {p r s : ℕ} {n : Word} {ts mid rest : List TokenAt} {ps : List Word} {ds is : List Item}
      → Head ts (quote r fixed.Semi ∷ mid) ps ds
      → Items mid (quote s fixed.Endmodule ∷ rest) is
      → OneModule (quote p fixed.Module ∷ name n ∷ ts) rest (record { name = n; ports = ps; items = ds ++ is })

-- A text of the grammar, and the tree that it stands for: { attr | module | primitive }
pub data Text : List TokenAt → Source → Type 0 where
  none : Text [] nothing
  attribute : {ts rest : List TokenAt} {s : Source} → Attribute ts rest → Text rest s → Text ts s
  modules : {ts rest : List TokenAt} {m : Module} {s : Source} → OneModule ts rest m → Text rest s
      → Text ts (joined (one_module m) s)
  primitives : {ts rest : List TokenAt} {p : Primitive} {s : Source} → OnePrimitive ts rest p → Text rest s
      → Text ts (joined (one_primitive p) s)
