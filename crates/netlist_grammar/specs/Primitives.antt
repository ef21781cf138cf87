-- The rules of user-defined primitives (IEEE 1364-2005, clause 8 and annex A.5).
use Rattle.std.specs.Prelude.{◌≡◌, ℕ, List, [], ◌∷◌, ◌++◌, map, Bool, true, false, Some, None}
use Rattle.design_cell.specs.declared.value.Value.{Value}
use Rattle.design_cell.specs.declared.row.RawRow.{RawRow}
use Rattle.design_cell.specs.declared.symbol.Symbol.{Symbol}
use Rattle.design_cell.specs.declared.symbol.Symbol.TheVariants.{Single, Change}
use Rattle.netlist_grammar.specs.Lexemes.{TokenAt, symbols_of}
use Rattle.netlist_grammar.specs.Numbers.{bit_of}
use Rattle.netlist_grammar.specs.Trees.{prim_declare, is_sequential, row_of, singles}
use Rattle.netlist_grammar.specs.Rules.{quote, name, digits, OneName, Listed}
use Rattle.netlist_grammar.specs.declared.fixed.Fixed.TheVariants as fixed
use Rattle.netlist_grammar.specs.declared.tree.Word.{Word}
use Rattle.netlist_grammar.specs.declared.tree.PrimKind.TheVariants.{Output, Input, Reg, Initial}
use Rattle.netlist_grammar.specs.declared.tree.PrimDeclare.{PrimDeclare}
use Rattle.netlist_grammar.specs.declared.tree.Primitive.{Primitive}

-- [ '=' bit ], the start of that name
pub data MayStart (w : Word) : List TokenAt → List TokenAt → List PrimDeclare → Type 0 where
  none : {ts : List TokenAt} → MayStart w ts ts []
  some : {p q : ℕ} {v : Value} {ds : List ℕ} {ts : List TokenAt} → bit_of ds ≡ Some v
      → MayStart w (quote p fixed.Equals ∷ digits q ds ∷ ts) ts (prim_declare (Initial v) w ∷ [])

-- [ 'reg' ] name [ '=' bit ]
pub data OutputPin : List TokenAt → List TokenAt → Word → List PrimDeclare → Type 0 where
  plain : {w : Word} {ts rest : List TokenAt} {ds : List PrimDeclare} → MayStart w ts rest ds
      → OutputPin (name w ∷ ts) rest w (prim_declare Output w ∷ ds)
  reg : {p : ℕ} {w : Word} {ts rest : List TokenAt} {ds : List PrimDeclare} → MayStart w ts rest ds
      → OutputPin (quote p fixed.Reg ∷ name w ∷ ts) rest w (prim_declare Output w ∷ prim_declare Reg w ∷ ds)

-- [ 'input' ] name
pub data InputPin : List TokenAt → List TokenAt → Word → Type 0 where
  plain : {w : Word} {ts : List TokenAt} → InputPin (name w ∷ ts) ts w
  input : {p : ℕ} {w : Word} {ts : List TokenAt} → InputPin (quote p fixed.Input ∷ name w ∷ ts) ts w

-- 'input' name { ',' [ 'input' ] name }
pub data InputPins : List TokenAt → List TokenAt → List Word → Type 0 where
  one : {p : ℕ} {w : Word} {ts : List TokenAt} → InputPins (quote p fixed.Input ∷ name w ∷ ts) ts (w ∷ [])
  more : {p q : ℕ} {w : Word} {ts rest : List TokenAt} {ws : List Word} → Listed InputPin ts rest ws
      → InputPins (quote p fixed.Input ∷ name w ∷ quote q fixed.Comma ∷ ts) rest (w ∷ ws)

-- The ports and what the port list declares of them:
-- name { ',' name }  |  'output' [ 'reg' ] name [ '=' bit ] ',' 'input' name { ',' [ 'input' ] name }
pub data Pins : List TokenAt → List TokenAt → List Word → List PrimDeclare → Type 0 where
  names : {ts rest : List TokenAt} {ws : List Word} → Listed OneName ts rest ws → Pins ts rest ws []
  declared : {p q : ℕ} {w : Word} {ts mid rest : List TokenAt} {ds : List PrimDeclare} {ws : List Word}
      → OutputPin ts (quote q fixed.Comma ∷ mid) w ds → InputPins mid rest ws
      → Pins (quote p fixed.Output ∷ ts) rest (w ∷ ws) (ds ++ map (prim_declare Input) ws)

-- 'output' [ 'reg' ] name ';'  |  'reg' name ';'  |  'input' name { ',' name } ';'  |  'initial' name '=' bit ';'
pub data PinDeclare : List TokenAt → List TokenAt → List PrimDeclare → Type 0 where
  output : {p q : ℕ} {w : Word} {ts : List TokenAt}
      → PinDeclare (quote p fixed.Output ∷ name w ∷ quote q fixed.Semi ∷ ts) ts (prim_declare Output w ∷ [])
  output_reg : {p q r : ℕ} {w : Word} {ts : List TokenAt}
      → PinDeclare (quote p fixed.Output ∷ quote q fixed.Reg ∷ name w ∷ quote r fixed.Semi ∷ ts) ts
      (prim_declare Output w ∷ prim_declare Reg w ∷ [])
  reg : {p q : ℕ} {w : Word} {ts : List TokenAt}
      → PinDeclare (quote p fixed.Reg ∷ name w ∷ quote q fixed.Semi ∷ ts) ts (prim_declare Reg w ∷ [])
  inputs : {p q : ℕ} {ts rest : List TokenAt} {ws : List Word} → Listed OneName ts (quote q fixed.Semi ∷ rest) ws
      → PinDeclare (quote p fixed.Input ∷ ts) rest (map (prim_declare Input) ws)
  initial : {p q r s : ℕ} {w : Word} {v : Value} {ds : List ℕ} {ts : List TokenAt} → bit_of ds ≡ Some v
      → PinDeclare (quote p fixed.Initial ∷ name w ∷ quote q fixed.Equals ∷ digits r ds ∷ quote s fixed.Semi ∷ ts) ts
      (prim_declare (Initial v) w ∷ [])

-- { pdecl }
pub data PinDeclares : List TokenAt → List TokenAt → List PrimDeclare → Type 0 where
  none : {ts : List TokenAt} → PinDeclares ts ts []
  more : {ts mid rest : List TokenAt} {ds es : List PrimDeclare} → PinDeclare ts mid ds → PinDeclares mid rest es
      → PinDeclares ts rest (ds ++ es)

-- '(' two symbols, in one or two tokens, ')'
pub data OneChange : List TokenAt → List TokenAt → Symbol → Type 0 where
  joined : {p q v w : ℕ} {t : TokenAt} {ts : List TokenAt} → symbols_of t.what ≡ v ∷ w ∷ []
      → OneChange (quote p fixed.Open ∷ t ∷ quote q fixed.Close ∷ ts) ts (Change v w)
  apart : {p q v w : ℕ} {t u : TokenAt} {ts : List TokenAt} → symbols_of t.what ≡ v ∷ [] → symbols_of u.what ≡ w ∷ []
      → OneChange (quote p fixed.Open ∷ t ∷ u ∷ quote q fixed.Close ∷ ts) ts (Change v w)

-- one symbol
pub data OneSymbol : List TokenAt → List TokenAt → Symbol → Type 0 where
  single : {b : ℕ} {t : TokenAt} {ts : List TokenAt} → symbols_of t.what ≡ b ∷ [] → OneSymbol (t ∷ ts) ts (Single b)
  change : {ts rest : List TokenAt} {s : Symbol} → OneChange ts rest s → OneSymbol ts rest s

-- the symbols of one token, each byte a symbol by itself, or a change
pub data Entry : List TokenAt → List TokenAt → List Symbol → Type 0 where
  bytes : {b : ℕ} {bs : List ℕ} {t : TokenAt} {ts : List TokenAt} → symbols_of t.what ≡ b ∷ bs
      → Entry (t ∷ ts) ts (singles (b ∷ bs))
  change : {ts rest : List TokenAt} {s : Symbol} → OneChange ts rest s → Entry ts rest (s ∷ [])

-- symbol { symbol }
pub data Entries : List TokenAt → List TokenAt → List Symbol → Type 0 where
  last : {ts rest : List TokenAt} {es : List Symbol} → Entry ts rest es → Entries ts rest es
  next : {ts mid rest : List TokenAt} {es fs : List Symbol} → Entry ts mid es → Entries mid rest fs
      → Entries ts rest (es ++ fs)

-- symbol { symbol } ':' [ symbol ':' ] symbol ';', with the middle part exactly in a sequential primitive
pub data Row : Bool → List TokenAt → List TokenAt → RawRow → Type 0 where
  combinational : {p q : ℕ} {ts mid rest : List TokenAt} {es : List Symbol} {o : Symbol}
      → Entries ts (quote p fixed.Colon ∷ mid) es → OneSymbol mid (quote q fixed.Semi ∷ rest) o
      → Row false ts rest (row_of es None o)
  sequential : {p q r : ℕ} {ts mid from rest : List TokenAt} {es : List Symbol} {s o : Symbol}
      → Entries ts (quote p fixed.Colon ∷ mid) es → OneSymbol mid (quote q fixed.Colon ∷ from) s
      → OneSymbol from (quote r fixed.Semi ∷ rest) o → Row true ts rest (row_of es (Some s) o)

-- row { row }
pub data Rows (sequential : Bool) : List TokenAt → List TokenAt → List RawRow → Type 0 where
  last : {ts rest : List TokenAt} {r : RawRow} → Row sequential ts rest r → Rows sequential ts rest (r ∷ [])
  next : {ts mid rest : List TokenAt} {r : RawRow} {rs : List RawRow} → Row sequential ts mid r
      → Rows sequential mid rest rs → Rows sequential ts rest (r ∷ rs)

-- 'primitive' name '(' pports ')' ';' { pdecl } 'table' row { row } 'endtable' 'endprimitive'
pub data OnePrimitive : List TokenAt → List TokenAt → Primitive → Type 0 where
  primitive : {p q r s t u v : ℕ} {n : Word} {ts mid from rest : List TokenAt} {ws : List Word} {ds es : List
      PrimDeclare} {rs : List RawRow}
      → Pins ts (quote r fixed.Close ∷ quote s fixed.Semi ∷ mid) ws ds → PinDeclares mid (quote t fixed.Table ∷ from) es
      → Rows (is_sequential (ds ++ es)) from (quote u fixed.Endtable ∷ quote v fixed.Endprimitive ∷ rest) rs
      → OnePrimitive (quote p fixed.Primitive ∷ name n ∷ quote q fixed.Open ∷ ts) rest
      (record { name = n; ports = ws; declarations = ds ++ es; rows = rs })
