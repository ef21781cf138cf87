-- What the machine reads to the end is in the grammar.
use Rattle.std.proofs.Common.{◌≡◌, ℕ, zero, suc, Bool, true, false, cond, ◌⊎◌, inl, inr, List, [], ◌∷◌, ◌++◌, Option}
use Rattle.std.proofs.Common.{Some, None, Ok, Err, refl, sym, subst, ◌∙◌, append_assoc}
use Rattle.std.specs.Prelude.{map}
use Rattle.std.proofs.lemmas.List.{append-nil}
use Rattle.design_cell.specs.declared.row.RawRow.{RawRow}
use Rattle.design_cell.specs.declared.symbol.Symbol.{Symbol}
use Rattle.design_cell.specs.declared.symbol.Symbol.TheVariants.{Change}
use Rattle.design_cell.specs.declared.value.Value.{Value}
use Rattle.netlist_grammar.specs.Numbers.{int_of, bit_of, literal_of}
use Rattle.netlist_grammar.specs.Lexemes.{Lexeme, gate, named, TokenAt, token_at, ending, is_fixed, gate_kind_of}
use Rattle.netlist_grammar.specs.Lexemes.{named_word, int_at, bit_at, literal_at, symbols_of, is_left_out}
use Rattle.netlist_grammar.specs.Trees.{Range, whole_part, bit_part, slice_part, expr_of, declares, declare_of}
use Rattle.netlist_grammar.specs.Trees.{gate_of, instance_of, connection_of, named_of, nothing, joined, one_module}
use Rattle.netlist_grammar.specs.Trees.{one_primitive, prim_declare, is_sequential, row_of, takes_value, Under}
use Rattle.netlist_grammar.specs.Trees.{under, with_item, with_port, closed, Within, within, with_declare, with_pin}
use Rattle.netlist_grammar.specs.Trees.{with_row, closed_primitive}
use Rattle.netlist_grammar.specs.Machine.{State, State as at, Place, Ranged, Delayed, Context, Column, Next, on}
use Rattle.netlist_grammar.specs.Machine.{on_some, on_bytes, on_one_byte, on_few_bytes, then_run, run, step, finish}
use Rattle.netlist_grammar.specs.Machine.{finish_top, expr_step, after_expr, net_name_step, port_step}
use Rattle.netlist_grammar.specs.Machine.{gate_name_step, instance_name_step, after_delay_step, after_delay}
use Rattle.netlist_grammar.specs.Machine.{leave_delay, after_range, after_attr, after_symbol, row_step}
use Rattle.netlist_grammar.specs.Machine.Place.{at_top, in_module}
use Rattle.netlist_grammar.specs.Machine.Ranged.{port_range, declared_range, net_range}
use Rattle.netlist_grammar.specs.Machine.Delayed.{net_delay, gate_delay, instance_delay, assign_delay}
use Rattle.netlist_grammar.specs.Machine.Context.{terminal, left, right, declared, connected, connected_to}
use Rattle.netlist_grammar.specs.Machine.Column.{entry, state, output}
use Rattle.netlist_grammar.specs.Rules.{quote, name, digits, OneName, Listed, Until, UntilStar, Attribute, Balanced}
use Rattle.netlist_grammar.specs.Rules.{Delay, MayDelay, Bounds, MayRange, WireRange}
use Rattle.netlist_grammar.specs.Expressions.{Parts, Flat, Expression}
use Rattle.netlist_grammar.specs.Items.{Direction, Net, NetName, OneGate, MayConnect, OneNamed, Connecting, OneInstance, OneAssign, OneItem, Items}
use Rattle.netlist_grammar.specs.Primitives.{MayStart, OutputPin, InputPin, InputPins, Pins, PinDeclare, PinDeclares}
use Rattle.netlist_grammar.specs.Primitives.{OneChange, OneSymbol, Entry, Entries, Row, Rows, OnePrimitive}
use Rattle.netlist_grammar.specs.Text.{Port, declare_port, Directed, DeclaredPort, DeclaredPorts, Head, OneModule, Text}
use Rattle.netlist_grammar.specs.declared.fixed.Fixed.{Fixed}
use Rattle.netlist_grammar.specs.declared.fixed.Fixed.TheVariants as fixed
use Rattle.netlist_grammar.specs.declared.refusal.ParseErr.{ParseErr}
use Rattle.netlist_grammar.specs.declared.tree.Word.{Word}
use Rattle.netlist_grammar.specs.declared.tree.Part.{Part}
use Rattle.netlist_grammar.specs.declared.tree.Expr.{Expr}
use Rattle.netlist_grammar.specs.declared.tree.GateKind.{GateKind}
use Rattle.netlist_grammar.specs.declared.tree.Connection.{Connection}
use Rattle.netlist_grammar.specs.declared.tree.NamedConnection.{NamedConnection}
use Rattle.netlist_grammar.specs.declared.tree.Connections.TheVariants.{Positional, Named}
use Rattle.netlist_grammar.specs.declared.tree.NetKind.{NetKind}
use Rattle.netlist_grammar.specs.declared.tree.NetKind.TheVariants as net
use Rattle.netlist_grammar.specs.declared.tree.Item.{Item}
use Rattle.netlist_grammar.specs.declared.tree.Item.TheVariants as item
use Rattle.netlist_grammar.specs.declared.tree.Module.{Module}
use Rattle.netlist_grammar.specs.declared.tree.PrimKind.TheVariants.{Output, Input, Reg, Initial}
use Rattle.netlist_grammar.specs.declared.tree.PrimDeclare.{PrimDeclare}
use Rattle.netlist_grammar.specs.declared.tree.Primitive.{Primitive}
use Rattle.netlist_grammar.specs.declared.tree.Source.{Source}
use Rattle.netlist_grammar.proofs.Found.{found_fixed, found_gate, found_name, Digits, found_int, found_bit, found_literal}
use Rattle.netlist_grammar.proofs.Follows.{joined_assoc}

-- ---- what may still come, from each state

-- the token f, and then what K says
data Then (f : Fixed) (K : List TokenAt → Type 0) : List TokenAt → Type 0 where
  then : {p : ℕ} {ts : List TokenAt} → K ts → Then f K (quote p f ∷ ts)

data ThenName (K : Word → List TokenAt → Type 0) : List TokenAt → Type 0 where
  then_name : {w : Word} {ts : List TokenAt} → K w ts → ThenName K (name w ∷ ts)

data ThenInt (K : ℕ → List TokenAt → Type 0) : List TokenAt → Type 0 where
  then_int : {p n : ℕ} {ds : List ℕ} {ts : List TokenAt} → int_of ds ≡ Some n → K n ts → ThenInt K (digits p ds ∷ ts)

data ThenBit (K : Value → List TokenAt → Type 0) : List TokenAt → Type 0 where
  then_bit : {p : ℕ} {v : Value} {ds : List ℕ} {ts : List TokenAt} → bit_of ds ≡ Some v → K v ts → ThenBit K (digits p ds ∷ ts)

-- a token of one symbol
data ThenByte (K : ℕ → List TokenAt → Type 0) : List TokenAt → Type 0 where
  then_byte : {b : ℕ} {t : TokenAt} {ts : List TokenAt} → symbols_of t.what ≡ b ∷ [] → K b ts → ThenByte K (t ∷ ts)

-- a token of two symbols
data ThenPair (K : ℕ → ℕ → List TokenAt → Type 0) : List TokenAt → Type 0 where
  then_pair : {b c : ℕ} {t : TokenAt} {ts : List TokenAt} → symbols_of t.what ≡ b ∷ c ∷ [] → K b c ts → ThenPair K (t ∷ ts)

-- a phrase and the token f after it
record Phrase {X : Type 0} (P : List TokenAt → List TokenAt → X → Type 0) (f : Fixed) (K : X → List TokenAt → Type 0) (ts : List TokenAt) : Type 0 where
  place : ℕ
  value : X
  rest : List TokenAt
  parsed : P ts (quote place f ∷ rest) value
  after : K value rest

phrase : {X : Type 0} {P : List TokenAt → List TokenAt → X → Type 0} {f : Fixed} {K : X → List TokenAt → Type 0} {ts : List TokenAt} (p : ℕ) (x : X) (r : List TokenAt)
    → P ts (quote p f ∷ r) x → K x r → Phrase P f K ts
phrase p x r a b = record { place = p; value = x; rest = r; parsed = a; after = b }

-- a phrase, and what K says after it
record Simple {X : Type 0} (P : List TokenAt → List TokenAt → X → Type 0) (K : X → List TokenAt → Type 0) (ts : List TokenAt) : Type 0 where
  value : X
  rest : List TokenAt
  parsed : P ts rest value
  after : K value rest

simple : {X : Type 0} {P : List TokenAt → List TokenAt → X → Type 0} {K : X → List TokenAt → Type 0} {ts : List TokenAt} (x : X) (r : List TokenAt)
    → P ts r x → K x r → Simple P K ts
simple x r a b = record { value = x; rest = r; parsed = a; after = b }

-- a phrase that stands for nothing
record Passed (P : List TokenAt → List TokenAt → Type 0) (K : List TokenAt → Type 0) (ts : List TokenAt) : Type 0 where
  rest : List TokenAt
  parsed : P ts rest
  after : K rest

passed : {P : List TokenAt → List TokenAt → Type 0} {K : List TokenAt → Type 0} {ts : List TokenAt} (r : List TokenAt) → P ts r → K r → Passed P K ts
passed r a b = record { rest = r; parsed = a; after = b }

abbrev with_items : Under → List Item → Under
with_items u js = under u.before u.name u.ports (u.items ++ js)

abbrev with_ports : Under → List Port → Under
with_ports u xs = under u.before u.name (u.ports ++ map (λ (y : Port). y.name) xs) (u.items ++ map declare_port xs)

abbrev with_declares : Within → List PrimDeclare → Within
with_declares p es = within p.before p.name p.ports (p.declarations ++ es) p.rows

abbrev with_inputs : Within → List Word → Within
with_inputs p ws = within p.before p.name (p.ports ++ ws) (p.declarations ++ map (prim_declare Input) ws) p.rows

abbrev with_rows : Within → List RawRow → Within
with_rows p rs = within p.before p.name p.ports p.declarations (p.rows ++ rs)

-- what stands after the entries of a row
data RowTail : Bool → List Symbol → List TokenAt → List TokenAt → RawRow → Type 0 where
  combinational : {q : ℕ} {ts rest : List TokenAt} {es : List Symbol} {o : Symbol}
      → OneSymbol ts (quote q fixed.Semi ∷ rest) o → RowTail false es ts rest (row_of es None o)
  sequential : {q r : ℕ} {ts mid rest : List TokenAt} {es : List Symbol} {s o : Symbol}
      → OneSymbol ts (quote q fixed.Colon ∷ mid) s → OneSymbol mid (quote r fixed.Semi ∷ rest) o
      → RowTail true es ts rest (row_of es (Some s) o)

joined_nothing : (b : Source) → joined b nothing ≡ b
joined_nothing b = rw (append-nil b.modules, append-nil b.primitives) refl

module _ (tree : Source) where
  record FTop (b : Source) (ts : List TokenAt) : Type 0 where
    others : Source
    parsed : Text ts others
    all : tree ≡ joined b others

  -- ---- items

  abbrev FUnder : Under → List TokenAt → Type 0
  FUnder u ts = Phrase Items fixed.Endmodule (λ js rest. FTop (closed (with_items u js)) rest) ts

  -- a list of items and its semicolon
  abbrev FList : (List TokenAt → List TokenAt → Item → Type 0) → Under → List TokenAt → Type 0
  FList R u ts = Phrase (Listed R) fixed.Semi (λ js rest. FUnder (with_items u js) rest) ts

  -- after one item of a list
  abbrev FAfter : (List TokenAt → List TokenAt → Item → Type 0) → Under → List TokenAt → Type 0
  FAfter R u ts = Then fixed.Comma (FList R u) ts ⊎ Then fixed.Semi (FUnder u) ts

  -- declared names
  abbrev FNames : Under → NetKind → Range → List TokenAt → Type 0
  FNames u what r ts = Phrase (Listed OneName) fixed.Semi (λ ws rest. FUnder (with_items u (map (declares what r) ws)) rest) ts

  abbrev FAfterNames : Under → NetKind → Range → List TokenAt → Type 0
  FAfterNames u what r ts = Then fixed.Comma (FNames u what r) ts ⊎ Then fixed.Semi (FUnder u) ts

  -- an optional delay
  abbrev FDelayed : (List TokenAt → Type 0) → List TokenAt → Type 0
  FDelayed K ts = Passed MayDelay K ts

  abbrev FPlace : Place → List TokenAt → Type 0
  FPlace (at_top b) ts = FTop b ts
  FPlace (in_module u) ts = FUnder u ts

  abbrev FStar : Place → List TokenAt → Type 0
  FStar k ts = Passed UntilStar (FPlace k) ts

  -- after a star of an attribute
  abbrev FAfterStar : Place → List TokenAt → Type 0
  FAfterStar k ts = Passed (λ ts rest. (p : ℕ) → UntilStar (quote p fixed.Star ∷ ts) rest) (FPlace k) ts

  -- ---- the head of a module

  abbrev FHeadEnd : Under → List TokenAt → Type 0
  FHeadEnd u ts = Then fixed.Semi (FUnder u) ts

  abbrev FPort : Source → Word → List Word → List TokenAt → Type 0
  FPort b n ps ts = Phrase (Listed OneName) fixed.Close (λ qs rest. FHeadEnd (under b n (ps ++ qs) []) rest) ts

  abbrev FAfterPort : Source → Word → List Word → List TokenAt → Type 0
  FAfterPort b n ps ts = Then fixed.Comma (FPort b n ps) ts ⊎ Then fixed.Close (FHeadEnd (under b n ps [])) ts

  abbrev FDeclaredPort : Under → NetKind → Range → List TokenAt → Type 0
  FDeclaredPort u what r ts = Phrase (DeclaredPorts what r) fixed.Close (λ xs rest. FHeadEnd (with_ports u xs) rest) ts

  abbrev FAfterDeclaredPort : Under → NetKind → Range → List TokenAt → Type 0
  FAfterDeclaredPort u what r ts = Then fixed.Comma (FDeclaredPort u what r) ts ⊎ Then fixed.Close (FHeadEnd u) ts

  abbrev FPortName : Under → NetKind → Range → List TokenAt → Type 0
  FPortName u what r ts = ThenName (λ w. FAfterDeclaredPort (with_port u what r w) what r) ts

  -- after '['
  abbrev FRange : (Range → List TokenAt → Type 0) → List TokenAt → Type 0
  FRange K ts = ThenInt (λ a. Then fixed.Colon (ThenInt (λ b. Then fixed.SquareClose (K (Some (a, b)))))) ts

  abbrev FPortWire : Under → NetKind → Range → List TokenAt → Type 0
  FPortWire u what r ts = Then fixed.SquareOpen (FRange (FPortName u what)) ts ⊎ FPortName u what r ts

  abbrev FPortDirection : Under → NetKind → Range → List TokenAt → Type 0
  FPortDirection u what r ts = Then fixed.Wire (FPortWire u what r) ts ⊎ FPortWire u what r ts

  abbrev FFirstPort : Source → Word → List TokenAt → Type 0
  FFirstPort b n ts =
      Then fixed.Close (FHeadEnd (under b n [] [])) ts
      ⊎ (Then fixed.Input (FPortDirection (under b n [] []) net.Input None) ts
      ⊎ (Then fixed.Output (FPortDirection (under b n [] []) net.Output None) ts
      ⊎ FPort b n [] ts))

  abbrev FAfterName : Source → Word → List TokenAt → Type 0
  FAfterName b n ts = Then fixed.Open (FFirstPort b n) ts ⊎ Then fixed.Semi (FUnder (under b n [] [])) ts

  -- ---- expressions

  abbrev FExpr : (Expr → List TokenAt → Type 0) → List TokenAt → Type 0
  FExpr K ts = Simple Expression K ts

  abbrev FTerminals : Under → GateKind → ℕ → List Expr → List TokenAt → Type 0
  FTerminals u kind p es ts = Phrase (Listed Expression) fixed.Close (λ fs rest. FAfter (OneGate kind p) (with_item u (gate_of kind p (es ++ fs))) rest) ts

  abbrev FPositions : Under → Word → Option Word → List Connection → List TokenAt → Type 0
  FPositions u d n cs ts =
      Phrase (Listed MayConnect) fixed.Close (λ es rest. FAfter (OneInstance d) (with_item u (instance_of d n (Positional (cs ++ es)))) rest) ts

  abbrev FByName : Under → Word → Option Word → List NamedConnection → List TokenAt → Type 0
  FByName u d n cs ts = Phrase (Listed OneNamed) fixed.Close (λ es rest. FAfter (OneInstance d) (with_item u (instance_of d n (Named (cs ++ es)))) rest) ts

  abbrev FAfterNamed : Under → Word → Option Word → List NamedConnection → List TokenAt → Type 0
  FAfterNamed u d n cs ts = Then fixed.Comma (FByName u d n cs) ts ⊎ Then fixed.Close (FAfter (OneInstance d) (with_item u (instance_of d n (Named cs)))) ts

  abbrev FAfterWhole : Context → Expr → List TokenAt → Type 0
  FAfterWhole (terminal u kind p es) e ts =
      Then fixed.Comma (FTerminals u kind p (es ++ e ∷ [])) ts ⊎ Then fixed.Close (FAfter (OneGate kind p) (with_item u (gate_of kind p (es ++ e ∷ [])))) ts
  FAfterWhole (left u) e ts = Then fixed.Equals (FExpr (λ r rest. FAfter OneAssign (with_item u (item.Assign e r)) rest)) ts
  FAfterWhole (right u l) e ts = FAfter OneAssign (with_item u (item.Assign l e)) ts
  FAfterWhole (declared u what r w) e ts = FAfter (NetName what r) (with_item u (declare_of what r w (Some e))) ts
  FAfterWhole (connected u d n cs) e ts = Then fixed.Comma (FPositions u d n (cs ++ connection_of e ∷ [])) ts
      ⊎ Then fixed.Close (FAfter (OneInstance d) (with_item u (instance_of d n (Positional (cs ++ connection_of e ∷ []))))) ts
  FAfterWhole (connected_to u d n cs p) e ts = Then fixed.Close (FAfterNamed u d n (cs ++ named_of p (Some e) ∷ [])) ts

  abbrev FAfterPart : Context → ℕ → ℕ → List Part → List TokenAt → Type 0
  FAfterPart k p zero ps ts = FAfterWhole k (expr_of p ps) ts
  FAfterPart k p (suc d) ps ts =
      Then fixed.BraceClose (FAfterPart k p d ps) ts ⊎ Then fixed.Comma (Phrase Flat fixed.BraceClose (λ qs rest. FAfterPart k p d (ps ++ qs) rest)) ts

  abbrev FParts : Context → ℕ → ℕ → List Part → List TokenAt → Type 0
  FParts k p d ps ts = Simple Parts (λ qs rest. FAfterPart k p d (ps ++ qs) rest) ts

  abbrev FAfterIndex : Context → ℕ → ℕ → List Part → Word → ℕ → List TokenAt → Type 0
  FAfterIndex k p d ps w n ts =
      Then fixed.SquareClose (FAfterPart k p d (ps ++ bit_part w n ∷ [])) ts
      ⊎ Then fixed.Colon (ThenInt (λ m. Then fixed.SquareClose (FAfterPart k p d (ps ++ slice_part w n m ∷ [])))) ts

  abbrev FAfterPartName : Context → ℕ → ℕ → List Part → Word → List TokenAt → Type 0
  FAfterPartName k p d ps w ts = Then fixed.SquareOpen (ThenInt (FAfterIndex k p d ps w)) ts ⊎ FAfterPart k p d (ps ++ whole_part w ∷ []) ts

  -- after the '(' of a named connection
  abbrev FValue : Under → Word → Option Word → List NamedConnection → Word → List TokenAt → Type 0
  FValue u d n cs p ts = Then fixed.Close (FAfterNamed u d n (cs ++ named_of p None ∷ [])) ts ⊎ FExpr (FAfterWhole (connected_to u d n cs p)) ts

  abbrev FConnectionPort : Under → Word → Option Word → List NamedConnection → List TokenAt → Type 0
  FConnectionPort u d n cs ts = ThenName (λ p. Then fixed.Open (FValue u d n cs p)) ts

  abbrev FConnections : Under → Word → Option Word → List TokenAt → Type 0
  FConnections u d n ts = Phrase Connecting fixed.Close (λ cs rest. FAfter (OneInstance d) (with_item u (instance_of d n cs)) rest) ts

  -- ---- delays and ranges

  abbrev FAfterDelay : Delayed → List TokenAt → Type 0
  FAfterDelay (net_delay u what r) ts = FList (NetName what r) u ts
  FAfterDelay (gate_delay u kind p) ts = FList (OneGate kind p) u ts
  FAfterDelay (instance_delay u d) ts = FList (OneInstance d) u ts
  FAfterDelay (assign_delay u) ts = FList OneAssign u ts

  abbrev FLeave : Delayed → ℕ → List TokenAt → Type 0
  FLeave k zero ts = FAfterDelay k ts
  FLeave k (suc d) ts = Passed Balanced (FLeave k d) ts

  abbrev FDelayNumber : Delayed → List TokenAt → Type 0
  FDelayNumber k ts = Then fixed.Dot (ThenInt (λ m. FAfterDelay k)) ts ⊎ FAfterDelay k ts

  abbrev FDelay : Delayed → List TokenAt → Type 0
  FDelay k ts = Then fixed.Open (Passed Balanced (FAfterDelay k)) ts ⊎ ThenInt (λ n. FDelayNumber k) ts

  abbrev FNetRanged : Under → NetKind → Range → List TokenAt → Type 0
  FNetRanged u what r ts = FDelayed (FList (NetName what r) u) ts

  abbrev FAfterRange : Ranged → Range → List TokenAt → Type 0
  FAfterRange (port_range u what) r ts = FPortName u what r ts
  FAfterRange (declared_range u what) r ts = FNames u what r ts
  FAfterRange (net_range u what) r ts = FNetRanged u what r ts

  abbrev FDirectionWire : Under → NetKind → List TokenAt → Type 0
  FDirectionWire u what ts = Then fixed.SquareOpen (FRange (FNames u what)) ts ⊎ FNames u what None ts

  abbrev FDirection : Under → NetKind → List TokenAt → Type 0
  FDirection u what ts = Then fixed.Wire (FDirectionWire u what) ts ⊎ FDirectionWire u what ts

  abbrev FNetKind : Under → NetKind → List TokenAt → Type 0
  FNetKind u what ts = Simple MayRange (λ r rest. FNetRanged u what r rest) ts

  abbrev FAfterNet : Under → NetKind → Range → Word → List TokenAt → Type 0
  FAfterNet u what r w ts =
      FAfter (NetName what r) (with_item u (declares what r w)) ts ⊎ ((takes_value what ≡ true) × Then fixed.Equals (FExpr (FAfterWhole (declared u what r w))) ts)

  -- ---- primitives

  abbrev FEnd : Within → List TokenAt → Type 0
  FEnd p ts = Then fixed.Endtable (Then fixed.Endprimitive (FTop (closed_primitive p))) ts

  abbrev FRows : Within → List TokenAt → Type 0
  FRows p ts = Simple (Rows (is_sequential p.declarations)) (λ rs rest. FEnd (with_rows p rs) rest) ts

  abbrev FInRows : Within → List TokenAt → Type 0
  FInRows p ts = FRows p ts ⊎ FEnd p ts

  abbrev FRowEnd : Within → List Symbol → Option Symbol → Symbol → List TokenAt → Type 0
  FRowEnd p es s o ts = Then fixed.Semi (FInRows (with_row p (row_of es s o))) ts

  abbrev FRowOutput : Within → List Symbol → Option Symbol → List TokenAt → Type 0
  FRowOutput p es s ts = Simple OneSymbol (λ o rest. FRowEnd p es s o rest) ts

  abbrev FAfterState : Within → List Symbol → Symbol → List TokenAt → Type 0
  FAfterState p es s ts = Then fixed.Colon (FRowOutput p es (Some s)) ts

  abbrev FRowState : Within → List Symbol → List TokenAt → Type 0
  FRowState p es ts = Simple OneSymbol (λ s rest. FAfterState p es s rest) ts

  abbrev FTail : Within → List Symbol → List TokenAt → Type 0
  FTail p es ts = Simple (RowTail (is_sequential p.declarations) es) (λ r rest. FInRows (with_row p r) rest) ts

  abbrev FInRow : Within → List Symbol → List TokenAt → Type 0
  FInRow p es ts = Then fixed.Colon (FTail p es) ts ⊎ Simple Entries (λ fs rest. Then fixed.Colon (FTail p (es ++ fs)) rest) ts

  abbrev FAfterSymbol : Column → Symbol → List TokenAt → Type 0
  FAfterSymbol (entry p es) s ts = FInRow p (es ++ s ∷ []) ts
  FAfterSymbol (state p es) s ts = FAfterState p es s ts
  FAfterSymbol (output p es st) s ts = FRowEnd p es st s ts

  abbrev FChangeClose : Column → ℕ → ℕ → List TokenAt → Type 0
  FChangeClose k v w ts = Then fixed.Close (FAfterSymbol k (Change v w)) ts

  abbrev FChangeFirst : Column → List TokenAt → Type 0
  FChangeFirst k ts = ThenByte (λ v. ThenByte (λ w. FChangeClose k v w)) ts ⊎ ThenPair (FChangeClose k) ts

  abbrev FPrimitive : Within → List TokenAt → Type 0
  FPrimitive p ts = Phrase PinDeclares fixed.Table (λ es rest. FRows (with_declares p es) rest) ts

  abbrev FDeclaredSemi : Within → List TokenAt → Type 0
  FDeclaredSemi p ts = Then fixed.Semi (FPrimitive p) ts

  abbrev FInputDeclared : Within → List TokenAt → Type 0
  FInputDeclared p ts = Phrase (Listed OneName) fixed.Semi (λ ws rest. FPrimitive (with_declares p (map (prim_declare Input) ws)) rest) ts

  abbrev FInitialBit : Within → Word → List TokenAt → Type 0
  FInitialBit p w ts = ThenBit (λ v. FDeclaredSemi (with_declare p (Initial v) w)) ts

  abbrev FPin : Source → Word → List Word → List TokenAt → Type 0
  FPin b n ps ts = Phrase (Listed OneName) fixed.Close (λ qs rest. FDeclaredSemi (within b n (ps ++ qs) [] []) rest) ts

  abbrev FInputPin : Within → List TokenAt → Type 0
  FInputPin p ts = Phrase (Listed InputPin) fixed.Close (λ ws rest. FDeclaredSemi (with_inputs p ws) rest) ts

  abbrev FAfterInput : Within → List TokenAt → Type 0
  FAfterInput p ts = Then fixed.Comma (FInputPin p) ts ⊎ Then fixed.Close (FDeclaredSemi p) ts

  abbrev FInputName : Within → List TokenAt → Type 0
  FInputName p ts = ThenName (λ w. FAfterInput (with_pin p Input w)) ts

  abbrev FFirstInput : Within → List TokenAt → Type 0
  FFirstInput p ts = Then fixed.Input (FInputName p) ts

  abbrev FOutputBit : Within → Word → List TokenAt → Type 0
  FOutputBit p w ts = ThenBit (λ v. Then fixed.Comma (FFirstInput (with_declare p (Initial v) w))) ts

  abbrev FAfterOutput : Within → Word → List TokenAt → Type 0
  FAfterOutput p w ts = Then fixed.Equals (FOutputBit p w) ts ⊎ Then fixed.Comma (FFirstInput p) ts

  abbrev FOutputName : Source → Word → List TokenAt → Type 0
  FOutputName b n ts = ThenName (λ w. FAfterOutput (with_declare (with_pin (within b n [] [] []) Output w) Reg w) w) ts

  abbrev FOutputPin : Source → Word → List TokenAt → Type 0
  FOutputPin b n ts = Then fixed.Reg (FOutputName b n) ts ⊎ ThenName (λ w. FAfterOutput (with_pin (within b n [] [] []) Output w) w) ts

  abbrev FFirstPin : Source → Word → List TokenAt → Type 0
  FFirstPin b n ts = Then fixed.Output (FOutputPin b n) ts ⊎ FPin b n [] ts

  abbrev From : State → List TokenAt → Type 0
  From (at.top b) ts = FTop b ts
  From (at.attr_open k) ts = Then fixed.Star (FStar k) ts
  From (at.in_attr k) ts = FStar k ts
  From (at.attr_star k) ts = FAfterStar k ts
  From (at.module_name b) ts = ThenName (FAfterName b) ts
  From (at.after_name b n) ts = FAfterName b n ts
  From (at.first_port b n) ts = FFirstPort b n ts
  From (at.port b n ps) ts = FPort b n ps ts
  From (at.after_port b n ps) ts = FAfterPort b n ps ts
  From (at.port_direction u what r) ts = FPortDirection u what r ts
  From (at.port_wire u what r) ts = FPortWire u what r ts
  From (at.port_name u what r) ts = FPortName u what r ts
  From (at.after_declared_port u what r) ts = FAfterDeclaredPort u what r ts
  From (at.declared_port u what r) ts = FDeclaredPort u what r ts
  From (at.head_end u) ts = FHeadEnd u ts
  From (at.in_items u) ts = FUnder u ts
  From (at.range_first k) ts = FRange (FAfterRange k) ts
  From (at.range_colon k a) ts = Then fixed.Colon (ThenInt (λ b. Then fixed.SquareClose (FAfterRange k (Some (a, b))))) ts
  From (at.range_second k a) ts = ThenInt (λ b. Then fixed.SquareClose (FAfterRange k (Some (a, b)))) ts
  From (at.range_close k a b) ts = Then fixed.SquareClose (FAfterRange k (Some (a, b))) ts
  From (at.delay k) ts = FDelay k ts
  From (at.delay_number k) ts = FDelayNumber k ts
  From (at.delay_fraction k) ts = ThenInt (λ m. FAfterDelay k) ts
  From (at.in_delay k d) ts = Passed Balanced (FLeave k d) ts
  From (at.direction u what) ts = FDirection u what ts
  From (at.direction_wire u what) ts = FDirectionWire u what ts
  From (at.declared_name u what r) ts = FNames u what r ts
  From (at.after_declared u what r) ts = FAfterNames u what r ts
  From (at.net_kind u what) ts = FNetKind u what ts
  From (at.net_ranged u what r) ts = FNetRanged u what r ts
  From (at.net_name u what r) ts = FList (NetName what r) u ts
  From (at.after_net u what r w) ts = FAfterNet u what r w ts
  From (at.gate_kind u kind p) ts = FDelayed (FList (OneGate kind p) u) ts
  From (at.gate_name u kind p) ts = FList (OneGate kind p) u ts
  From (at.gate_open u kind p) ts = Then fixed.Open (FTerminals u kind p []) ts
  From (at.after_gate u kind p) ts = FAfter (OneGate kind p) u ts
  From (at.definition u d) ts = FDelayed (FList (OneInstance d) u) ts
  From (at.instance_name u d) ts = FList (OneInstance d) u ts
  From (at.instance_open u d n) ts = Then fixed.Open (FConnections u d n) ts
  From (at.connections u d n) ts = FConnections u d n ts
  From (at.connection u d n cs) ts = FPositions u d n cs ts
  From (at.connection_dot u d n cs) ts = FByName u d n cs ts
  From (at.connection_port u d n cs) ts = FConnectionPort u d n cs ts
  From (at.connection_open u d n cs p) ts = Then fixed.Open (FValue u d n cs p) ts
  From (at.connection_value u d n cs p) ts = FValue u d n cs p ts
  From (at.after_connection u d n cs) ts = FAfterNamed u d n cs ts
  From (at.after_instance u d) ts = FAfter (OneInstance d) u ts
  From (at.assign u) ts = FDelayed (FList OneAssign u) ts
  From (at.expr_start k) ts = FExpr (FAfterWhole k) ts
  From (at.expr k p d ps) ts = FParts k p d ps ts
  From (at.after_part_name k p d ps w) ts = FAfterPartName k p d ps w ts
  From (at.select k p d ps w) ts = ThenInt (FAfterIndex k p d ps w) ts
  From (at.after_index k p d ps w n) ts = FAfterIndex k p d ps w n ts
  From (at.select_end k p d ps w n) ts = ThenInt (λ m. Then fixed.SquareClose (FAfterPart k p d (ps ++ slice_part w n m ∷ []))) ts
  From (at.select_close k p d ps w n m) ts = Then fixed.SquareClose (FAfterPart k p d (ps ++ slice_part w n m ∷ [])) ts
  From (at.after_part k p d ps) ts = FAfterPart k p d ps ts
  From (at.in_specify u) ts = Passed (Until fixed.Endspecify) (FUnder u) ts
  From (at.primitive_name b) ts = ThenName (λ w. Then fixed.Open (FFirstPin b w)) ts
  From (at.primitive_open b n) ts = Then fixed.Open (FFirstPin b n) ts
  From (at.first_pin b n) ts = FFirstPin b n ts
  From (at.pin b n ps) ts = FPin b n ps ts
  From (at.after_pin b n ps) ts = Then fixed.Comma (FPin b n ps) ts ⊎ Then fixed.Close (FDeclaredSemi (within b n ps [] [])) ts
  From (at.output_pin b n) ts = FOutputPin b n ts
  From (at.output_name b n) ts = FOutputName b n ts
  From (at.after_output p w) ts = FAfterOutput p w ts
  From (at.output_bit p w) ts = FOutputBit p w ts
  From (at.output_comma p) ts = Then fixed.Comma (FFirstInput p) ts
  From (at.first_input p) ts = FFirstInput p ts
  From (at.input_name p) ts = FInputName p ts
  From (at.input_pin p) ts = FInputPin p ts
  From (at.after_input p) ts = FAfterInput p ts
  From (at.primitive_head_end p) ts = FDeclaredSemi p ts
  From (at.in_primitive p) ts = FPrimitive p ts
  From (at.output_declared p) ts =
      Then fixed.Reg (ThenName (λ w. FDeclaredSemi (with_declare (with_declare p Output w) Reg w))) ts ⊎ ThenName (λ w. FDeclaredSemi (with_declare p Output w)) ts
  From (at.output_reg p) ts = ThenName (λ w. FDeclaredSemi (with_declare (with_declare p Output w) Reg w)) ts
  From (at.reg_declared p) ts = ThenName (λ w. FDeclaredSemi (with_declare p Reg w)) ts
  From (at.input_declared p) ts = FInputDeclared p ts
  From (at.after_input_declared p) ts = Then fixed.Comma (FInputDeclared p) ts ⊎ Then fixed.Semi (FPrimitive p) ts
  From (at.initial_declared p) ts = ThenName (λ w. Then fixed.Equals (FInitialBit p w)) ts
  From (at.initial_equals p w) ts = Then fixed.Equals (FInitialBit p w) ts
  From (at.initial_bit p w) ts = FInitialBit p w ts
  From (at.declared_semi p) ts = FDeclaredSemi p ts
  From (at.first_row p) ts = FRows p ts
  From (at.in_rows p) ts = FInRows p ts
  From (at.in_row p es) ts = FInRow p es ts
  From (at.change_first k) ts = FChangeFirst k ts
  From (at.change_second k v) ts = ThenByte (λ w. FChangeClose k v w) ts
  From (at.change_close k v w) ts = FChangeClose k v w ts
  From (at.row_state p es) ts = FRowState p es ts
  From (at.after_state p es s) ts = FAfterState p es s ts
  From (at.row_output p es s) ts = FRowOutput p es s ts
  From (at.after_output_symbol p es s o) ts = FRowEnd p es s o ts
  From (at.primitive_end p) ts = Then fixed.Endprimitive (FTop (closed_primitive p)) ts

  abbrev FromNext : Next → List TokenAt → Type 0
  FromNext (Ok s) ts = From s ts
  FromNext (Err e) ts = ⊥

  -- ---- tests back

  on_else_at : (G : TokenAt → Type 0) (f : Fixed) (t : TokenAt) (s : State) (other : Next) (ts : List TokenAt)
      → (From s ts → G (quote t.at f)) → (is_fixed f t.what ≡ false → FromNext other ts → G t)
      → (b : Bool) → is_fixed f t.what ≡ b → FromNext (cond b (Ok s) other) ts → G t
  on_else_at G f t s other ts x y true e h = subst (λ (l : Lexeme). G (record { at = t.at; what = l })) (found_fixed f t.what e) (x h)
  on_else_at G f t s other ts x y false e h = y e h

  on_else : (G : TokenAt → Type 0) (f : Fixed) (t : TokenAt) (s : State) (other : Next) (ts : List TokenAt)
      → (From s ts → G (quote t.at f)) → (is_fixed f t.what ≡ false → FromNext other ts → G t)
      → FromNext (on f t s other) ts → G t
  on_else G f t s other ts x y h = on_else_at G f t s other ts x y (is_fixed f t.what) refl h

  on_from : (G : TokenAt → Type 0) (f : Fixed) (t : TokenAt) (s : State) (other : Next) (ts : List TokenAt)
      → (From s ts → G (quote t.at f)) → (FromNext other ts → G t) → FromNext (on f t s other) ts → G t
  on_from G f t s other ts x y h = on_else_at G f t s other ts x (λ e. y) (is_fixed f t.what) refl h

  -- the same, where what is shown doesn't name the token
  on_from_g : (f : Fixed) (t : TokenAt) (s : State) (other : Next) (ts : List TokenAt) (G : Type 0)
      → (quote t.at f ≡ t → From s ts → G) → (FromNext other ts → G) → FromNext (on f t s other) ts → G
  on_from_g f t s other ts G x y h = on_else_at (λ u. u ≡ t → G) f t s other ts (λ z e. x e z) (λ e z r. y z) (is_fixed f t.what) refl h refl

  name_is : (t : TokenAt) (w : Word) → named_word t ≡ Some w → name w ≡ t
  name_is t w e = let f = found_name t.at t.what w e in rw (f.1, f.0) refl

  name_at_from : (G : TokenAt → Type 0) (t : TokenAt) (f : Word → State) (other : Next) (ts : List TokenAt)
      → ((w : Word) → name w ≡ t → From (f w) ts → G (name w)) → (FromNext other ts → G t)
      → (o : Option Word) → named_word t ≡ o → FromNext (on_some o f other) ts → G t
  name_at_from G t f other ts x y (Some w) e h = subst G (name_is t w e) (x w (name_is t w e) h)
  name_at_from G t f other ts x y None e h = y h

  name_from_is : (G : TokenAt → Type 0) (t : TokenAt) (f : Word → State) (other : Next) (ts : List TokenAt)
      → ((w : Word) → name w ≡ t → From (f w) ts → G (name w)) → (FromNext other ts → G t)
      → FromNext (on_some (named_word t) f other) ts → G t
  name_from_is G t f other ts x y h = name_at_from G t f other ts x y (named_word t) refl h

  name_from : (G : TokenAt → Type 0) (t : TokenAt) (f : Word → State) (other : Next) (ts : List TokenAt)
      → ((w : Word) → From (f w) ts → G (name w)) → (FromNext other ts → G t)
      → FromNext (on_some (named_word t) f other) ts → G t
  name_from G t f other ts x y h = name_at_from G t f other ts (λ w e. x w) y (named_word t) refl h

  number_at_from : {X : Type 0} (of : List ℕ → Option X) (reads : Lexeme → Option X)
      → ((l : Lexeme) (x : X) → reads l ≡ Some x → Digits of l x)
      → (G : TokenAt → Type 0) (t : TokenAt) (f : X → State) (other : Next)
      (ts : List TokenAt) → ((ds : List ℕ) (x : X) → of ds ≡ Some x → From (f x) ts → G (digits t.at ds)) → (FromNext other ts → G t) → (o : Option X) → reads t.what ≡ o → FromNext (on_some o f other) ts → G t
  number_at_from of reads found G t f other ts x y (Some v) e h =
      let d = found t.what v e in subst (λ (l : Lexeme). G (record { at = t.at; what = l })) d.is (x d.text v d.value h)
  number_at_from of reads found G t f other ts x y None e h = y h

  int_from : (G : TokenAt → Type 0) (t : TokenAt) (f : ℕ → State) (other : Next) (ts : List TokenAt)
      → ((ds : List ℕ) (n : ℕ) → int_of ds ≡ Some n → From (f n) ts → G (digits t.at ds)) → (FromNext other ts → G t)
      → FromNext (on_some (int_at t.what) f other) ts → G t
  int_from G t f other ts x y h = number_at_from int_of int_at found_int G t f other ts x y (int_at t.what) refl h

  bit_from : (G : TokenAt → Type 0) (t : TokenAt) (f : Value → State) (other : Next) (ts : List TokenAt)
      → ((ds : List ℕ) (v : Value) → bit_of ds ≡ Some v → From (f v) ts → G (digits t.at ds))
      → (FromNext other ts → G t)
      → FromNext (on_some (bit_at t.what) f other) ts → G t
  bit_from G t f other ts x y h = number_at_from bit_of bit_at found_bit G t f other ts x y (bit_at t.what) refl h

  literal_from : (G : TokenAt → Type 0) (t : TokenAt) (f : ℕ × ℕ → State) (other : Next) (ts : List TokenAt)
      → ((ds : List ℕ) (l : ℕ × ℕ) → literal_of ds ≡ Some l → From (f l) ts → G (digits t.at ds))
      → (FromNext other ts → G t)
      → FromNext (on_some (literal_at t.what) f other) ts → G t
  literal_from G t f other ts x y h = number_at_from literal_of literal_at found_literal G t f other ts x y (literal_at t.what) refl h

  gate_at_from : (G : TokenAt → Type 0) (t : TokenAt) (f : GateKind → State) (other : Next) (ts : List TokenAt)
      → ((k : GateKind) → From (f k) ts → G (token_at t.at (gate k))) → (FromNext other ts → G t)
      → (o : Option GateKind) → gate_kind_of t.what ≡ o → FromNext (on_some o f other) ts → G t
  gate_at_from G t f other ts x y (Some k) e h = subst (λ (l : Lexeme). G (record { at = t.at; what = l })) (found_gate t.what k e) (x k h)
  gate_at_from G t f other ts x y None e h = y h

  gate_from : (G : TokenAt → Type 0) (t : TokenAt) (f : GateKind → State) (other : Next) (ts : List TokenAt)
      → ((k : GateKind) → From (f k) ts → G (token_at t.at (gate k))) → (FromNext other ts → G t)
      → FromNext (on_some (gate_kind_of t.what) f other) ts → G t
  gate_from G t f other ts x y h = gate_at_from G t f other ts x y (gate_kind_of t.what) refl h

  bytes_from : (G : Type 0) (l : List ℕ) (f : ℕ → List ℕ → State) (other : Next) (ts : List TokenAt)
      → ((b : ℕ) (bs : List ℕ) → l ≡ b ∷ bs → From (f b bs) ts → G) → (FromNext other ts → G)
      → FromNext (on_bytes l f other) ts → G
  bytes_from G [] f other ts x y h = y h
  bytes_from G (b ∷ bs) f other ts x y h = x b bs refl h

  byte_from : (G : Type 0) (l : List ℕ) (f : ℕ → State) (other : Next) (ts : List TokenAt)
      → ((b : ℕ) → l ≡ b ∷ [] → From (f b) ts → G) → (FromNext other ts → G) → FromNext (on_one_byte l f other) ts → G
  byte_from G [] f other ts x y h = y h
  byte_from G (b ∷ []) f other ts x y h = x b refl h
  byte_from G (b ∷ c ∷ bs) f other ts x y h = y h

  few_from : (G : Type 0) (l : List ℕ) (f : ℕ → State) (g : ℕ → ℕ → State) (other : Next) (ts : List TokenAt)
      → ((b : ℕ) → l ≡ b ∷ [] → From (f b) ts → G) → ((b c : ℕ) → l ≡ b ∷ c ∷ [] → From (g b c) ts → G)
      → (FromNext other ts → G) → FromNext (on_few_bytes l f g other) ts → G
  few_from G [] f g other ts x z y h = y h
  few_from G (b ∷ []) f g other ts x z y h = x b refl h
  few_from G (b ∷ c ∷ []) f g other ts x z y h = z b c refl h
  few_from G (b ∷ c ∷ d ∷ bs) f g other ts x z y h = y h

  -- a test that only refuses
  unless_from : (G : Type 0) (b : Bool) (e : ParseErr) (other : Next) (ts : List TokenAt)
      → (b ≡ false → FromNext other ts → G) → FromNext (cond b (Err e) other) ts → G
  unless_from G true e other ts y h = absurd h
  unless_from G false e other ts y h = y refl h

  -- a test with two outcomes
  when_from : (G : Type 0) (b : Bool) (one other : Next) (ts : List TokenAt) → (b ≡ true → FromNext one ts → G)
      → (FromNext other ts → G) → FromNext (cond b one other) ts → G
  when_from G true one other ts x y h = x refl h
  when_from G false one other ts x y h = y h

  -- ---- rules, from their last token to their first: expressions

  flat_back : {ts rest : List TokenAt} {qs : List Part} (k : Context) (p d : ℕ) (ps : List Part) → Parts ts rest qs
      → FAfterPart k p (suc d) (ps ++ qs) rest
      → Phrase Flat fixed.BraceClose (λ rs rest. FAfterPart k p d (ps ++ rs) rest) ts
  flat_back k p d ps e (inl (Then.then x)) = phrase _ _ _ (Flat.last e) x
  flat_back k p d ps e (inr (Then.then q)) = phrase _ _ _ (Flat.next e q.parsed) (rw append_assoc at q.after)

  braces_back : {q : ℕ} {ts : List TokenAt} (k : Context) (p d : ℕ) (ps : List Part) → FParts k p (suc d) ps ts → FParts k p d ps (quote q fixed.BraceOpen ∷ ts)
  braces_back k p d ps x = let q = flat_back k p d ps x.parsed x.after in simple _ _ (Parts.braces q.parsed) q.after

  part_back : {w : Word} {ts : List TokenAt} (k : Context) (p d : ℕ) (ps : List Part) → FAfterPartName k p d ps w ts → FParts k p d ps (name w ∷ ts)
  part_back k p d ps (inl (Then.then (ThenInt.then_int e (inl (Then.then x))))) = simple _ _ (Parts.bit e) x
  part_back k p d ps (inl (Then.then (ThenInt.then_int e (inr (Then.then (ThenInt.then_int f (Then.then x))))))) = simple _ _ (Parts.slice e f) x
  part_back k p d ps (inr x) = simple _ _ Parts.whole x

  expr_step_back : (k : Context) (p d : ℕ) (ps : List Part) (t : TokenAt) (ts : List TokenAt) → FromNext (expr_step k p d ps t) ts → FParts k p d ps (t ∷ ts)
  expr_step_back k p d ps t ts h =
      let G : TokenAt → Type 0 = λ t. FParts k p d ps (t ∷ ts) in
      on_from G fixed.BraceOpen t _ _ ts (λ x. braces_back k p d ps x)
      (name_from G t _ _ ts (λ w x. part_back k p d ps x)
      (λ h. literal_from (λ t. FParts k p d ps (t ∷ ts)) t _ _ ts (λ ds l e x. simple _ _ (Parts.literal e) x) absurd h)) h

  expr_start_back : (k : Context) (t : TokenAt) (ts : List TokenAt) → FromNext (expr_step k t.at 0 [] t) ts → FExpr (FAfterWhole k) (t ∷ ts)
  expr_start_back k t ts h = let x = expr_step_back k t.at 0 [] t ts h in simple _ _ (Expression.expression x.parsed) x.after

  -- ---- lists of items

  item_back : {ts mid : List TokenAt} {js : List Item} (u : Under) → OneItem ts mid js → FUnder (with_items u js) mid → FUnder u ts
  item_back u i p = phrase _ _ _ (Items.more i p.parsed) (rw append_assoc at p.after)

  no_item_back : {ts mid : List TokenAt} (u : Under) → OneItem ts mid [] → FUnder u mid → FUnder u ts
  no_item_back u i p = phrase _ _ _ (Items.more i p.parsed) p.after

  list_back : (R : List TokenAt → List TokenAt → Item → Type 0) {ts rest : List TokenAt} {i : Item} (u : Under)
      → R ts rest i → FAfter R (with_item u i) rest → FList R u ts
  list_back R u r (inl (Then.then p)) = phrase _ _ _ (Listed.next r p.parsed) (rw append_assoc at p.after)
  list_back R u r (inr (Then.then x)) = phrase _ _ _ (Listed.last r) x

  names_back : {w : Word} {ts : List TokenAt} (u : Under) (what : NetKind) (r : Range)
      → FAfterNames (with_item u (declares what r w)) what r ts → FNames u what r (name w ∷ ts)
  names_back u what r (inl (Then.then p)) = phrase _ _ _ (Listed.next OneName.one p.parsed) (rw append_assoc at p.after)
  names_back u what r (inr (Then.then x)) = phrase _ _ _ (Listed.last OneName.one) x

  direction_back : {q : ℕ} {ts : List TokenAt} (u : Under) (f : Fixed) (what : NetKind) → Direction f what → FDirection u what ts → FUnder u (quote q f ∷ ts)
  direction_back u f what d (inl (Then.then (inl (Then.then (ThenInt.then_int e (Then.then (ThenInt.then_int g (Then.then p)))))))) =
      item_back u (OneItem.directed d (WireRange.wire_range (Bounds.bounds e g)) p.parsed) p.after
  direction_back u f what d (inl (Then.then (inr p))) = item_back u (OneItem.directed d WireRange.wire p.parsed) p.after
  direction_back u f what d (inr (inl (Then.then (ThenInt.then_int e (Then.then (ThenInt.then_int g (Then.then p))))))) =
      item_back u (OneItem.directed d (WireRange.range (Bounds.bounds e g)) p.parsed) p.after
  direction_back u f what d (inr (inr p)) = item_back u (OneItem.directed d WireRange.plain p.parsed) p.after

  net_back : {q : ℕ} {ts : List TokenAt} (u : Under) (f : Fixed) (what : NetKind) → Net f what → FNetKind u what ts → FUnder u (quote q f ∷ ts)
  net_back u f what n x = let l = x.after.after in item_back u (OneItem.nets n x.parsed x.after.parsed l.parsed) l.after

  valued_back : {w : Word} {ts : List TokenAt} (u : Under) (what : NetKind) (r : Range) → takes_value what ≡ true
      → Then fixed.Equals (FExpr (FAfterWhole (declared u what r w))) ts → FList (NetName what r) u (name w ∷ ts)
  valued_back u what r e (Then.then x) = list_back (NetName what r) u (NetName.valued e x.parsed) x.after

  after_net_back : {w : Word} {ts : List TokenAt} (u : Under) (what : NetKind) (r : Range) → FAfterNet u what r w ts → FList (NetName what r) u (name w ∷ ts)
  after_net_back u what r (inl a) = list_back (NetName what r) u NetName.plain a
  after_net_back u what r (inr y) = valued_back u what r y.0 y.1

  net_name_step_back : (u : Under) (what : NetKind) (r : Range) (t : TokenAt) (ts : List TokenAt)
      → FromNext (net_name_step u what r t) ts → FList (NetName what r) u (t ∷ ts)
  net_name_step_back u what r t ts h = name_from (λ t. FList (NetName what r) u (t ∷ ts)) t _ _ ts (λ w x. after_net_back u what r x) absurd h

  -- ---- gates, instances and assignments

  term_back : {ts rest : List TokenAt} {e : Expr} (u : Under) (kind : GateKind) (p : ℕ) (es : List Expr)
      → Expression ts rest e → FAfterWhole (terminal u kind p es) e rest → FTerminals u kind p es ts
  term_back u kind p es e (inl (Then.then q)) = phrase _ _ _ (Listed.next e q.parsed) (rw append_assoc at q.after)
  term_back u kind p es e (inr (Then.then x)) = phrase _ _ _ (Listed.last e) x

  terminals_back : {ts : List TokenAt} (u : Under) (kind : GateKind) (p : ℕ) (es : List Expr)
      → FExpr (FAfterWhole (terminal u kind p es)) ts → FTerminals u kind p es ts
  terminals_back u kind p es x = term_back u kind p es x.parsed x.after

  named_gate_back : {w : Word} {ts : List TokenAt} (u : Under) (kind : GateKind) (p : ℕ)
      → Then fixed.Open (FTerminals u kind p []) ts → FList (OneGate kind p) u (name w ∷ ts)
  named_gate_back u kind p (Then.then x) = list_back (OneGate kind p) u (OneGate.named x.parsed) x.after

  gate_name_step_back : (u : Under) (kind : GateKind) (p : ℕ) (t : TokenAt) (ts : List TokenAt)
      → FromNext (gate_name_step u kind p t) ts → FList (OneGate kind p) u (t ∷ ts)
  gate_name_step_back u kind p t ts h =
      let G : TokenAt → Type 0 = λ t. FList (OneGate kind p) u (t ∷ ts) in
      on_from G fixed.Open t _ _ ts (λ x. let y = terminals_back u kind p [] x in list_back (OneGate kind p) u (OneGate.plain y.parsed) y.after)
      (name_from G t _ _ ts (λ w x. named_gate_back u kind p x) absurd) h

  position_back : {ts rest : List TokenAt} {c : Connection} (u : Under) (d : Word) (n : Option Word) (cs : List Connection) → MayConnect ts rest c
      → Then fixed.Comma (FPositions u d n (cs ++ c ∷ [])) rest ⊎ Then fixed.Close (FAfter (OneInstance d) (with_item u (instance_of d n (Positional (cs ++ c ∷ []))))) rest → FPositions u d n cs ts
  position_back u d n cs m (inl (Then.then q)) = phrase _ _ _ (Listed.next m q.parsed) (rw append_assoc at q.after)
  position_back u d n cs m (inr (Then.then x)) = phrase _ _ _ (Listed.last m) x

  first_position_back : {ts rest : List TokenAt} {e : Expr} (u : Under) (d : Word) (n : Option Word)
      → Expression ts rest e → FAfterWhole (connected u d n []) e rest → FConnections u d n ts
  first_position_back u d n e (inl (Then.then q)) = phrase _ _ _ (Connecting.several (MayConnect.some e) q.parsed) q.after
  first_position_back u d n e (inr (Then.then x)) = phrase _ _ _ (Connecting.one e) x

  named_back : {ts rest : List TokenAt} {c : NamedConnection} (u : Under) (d : Word) (n : Option Word) (cs : List NamedConnection)
      → OneNamed ts rest c → FAfterNamed u d n (cs ++ c ∷ []) rest → FByName u d n cs ts
  named_back u d n cs o (inl (Then.then q)) = phrase _ _ _ (Listed.next o q.parsed) (rw append_assoc at q.after)
  named_back u d n cs o (inr (Then.then x)) = phrase _ _ _ (Listed.last o) x

  some_named_back : {p q : ℕ} {w : Word} {ts rest : List TokenAt} {e : Expr} (u : Under) (d : Word) (n : Option Word) (cs : List NamedConnection)
      → Expression ts rest e → FAfterWhole (connected_to u d n cs w) e rest
      → FByName u d n cs (quote p fixed.Dot ∷ name w ∷ quote q fixed.Open ∷ ts)
  some_named_back u d n cs e (Then.then a) = named_back u d n cs (OneNamed.some e) a

  by_name_back : {p : ℕ} {ts : List TokenAt} (u : Under) (d : Word) (n : Option Word) (cs : List NamedConnection)
      → FConnectionPort u d n cs ts → FByName u d n cs (quote p fixed.Dot ∷ ts)
  by_name_back u d n cs (ThenName.then_name (Then.then (inl (Then.then a)))) = named_back u d n cs OneNamed.none a
  by_name_back u d n cs (ThenName.then_name (Then.then (inr x))) = some_named_back u d n cs x.parsed x.after

  named_instance_back : {w : Word} {ts : List TokenAt} (u : Under) (d : Word)
      → Then fixed.Open (FConnections u d (Some w)) ts → FList (OneInstance d) u (name w ∷ ts)
  named_instance_back u d (Then.then x) = list_back (OneInstance d) u (OneInstance.named x.parsed) x.after

  instance_name_step_back : (u : Under) (d : Word) (t : TokenAt) (ts : List TokenAt) → FromNext (instance_name_step u d t) ts → FList (OneInstance d) u (t ∷ ts)
  instance_name_step_back u d t ts h =
      let G : TokenAt → Type 0 = λ t. FList (OneInstance d) u (t ∷ ts) in
      on_from G fixed.Open t _ _ ts (λ x. list_back (OneInstance d) u (OneInstance.plain x.parsed) x.after)
      (name_from G t _ _ ts (λ w x. named_instance_back u d x) absurd) h

  left_back : {ts rest : List TokenAt} {l : Expr} (u : Under) → Expression ts rest l → FAfterWhole (left u) l rest → FList OneAssign u ts
  left_back u e (Then.then y) = list_back OneAssign u (OneAssign.assign e y.parsed) y.after

  assigns_back : {ts : List TokenAt} (u : Under) → FExpr (FAfterWhole (left u)) ts → FList OneAssign u ts
  assigns_back u x = left_back u x.parsed x.after

  -- ---- after a part

  after_expr_back : (k : Context) (p d : ℕ) (ps : List Part) (t : TokenAt) (ts : List TokenAt)
      → FromNext (after_expr k p d ps t) ts → FAfterPart k p d ps (t ∷ ts)
  after_expr_back k p (suc d) ps t ts h =
      on_from (λ t. FAfterPart k p (suc d) ps (t ∷ ts)) fixed.Comma t _ _ ts (λ x. inr (Then.then (flat_back k p d ps x.parsed x.after)))
      (on_from (λ t. FAfterPart k p (suc d) ps (t ∷ ts)) fixed.BraceClose t _ _ ts (λ x. inl (Then.then x)) absurd) h
  after_expr_back (terminal u kind q es) p zero ps t ts h =
      let G : TokenAt → Type 0 = λ t. FAfterWhole (terminal u kind q es) (expr_of p ps) (t ∷ ts) in
      on_from G fixed.Comma t _ _ ts (λ x. inl (Then.then (terminals_back u kind q (es ++ expr_of p ps ∷ []) x))) (on_from G fixed.Close t _ _ ts (λ x. inr (Then.then x)) absurd) h
  after_expr_back (left u) p zero ps t ts h = on_from (λ t. FAfterWhole (left u) (expr_of p ps) (t ∷ ts)) fixed.Equals t _ _ ts (λ x. Then.then x) absurd h
  after_expr_back (right u l) p zero ps t ts h =
      let G : TokenAt → Type 0 = λ t. FAfterWhole (right u l) (expr_of p ps) (t ∷ ts) in
      on_from G fixed.Comma t _ _ ts (λ x. inl (Then.then (assigns_back (with_item u (item.Assign l (expr_of p ps))) x))) (on_from G fixed.Semi t _ _ ts (λ x. inr (Then.then x)) absurd) h
  after_expr_back (declared u what r w) p zero ps t ts h =
      let G : TokenAt → Type 0 = λ t. FAfterWhole (declared u what r w) (expr_of p ps) (t ∷ ts) in
      on_from G fixed.Comma t _ _ ts (λ x. inl (Then.then x)) (on_from G fixed.Semi t _ _ ts (λ x. inr (Then.then x)) absurd) h
  after_expr_back (connected u d n cs) p zero ps t ts h =
      let G : TokenAt → Type 0 = λ t. FAfterWhole (connected u d n cs) (expr_of p ps) (t ∷ ts) in
      on_from G fixed.Comma t _ _ ts (λ x. inl (Then.then x)) (on_from G fixed.Close t _ _ ts (λ x. inr (Then.then x)) absurd) h
  after_expr_back (connected_to u d n cs w) p zero ps t ts h =
      on_from (λ t. FAfterWhole (connected_to u d n cs w) (expr_of p ps) (t ∷ ts)) fixed.Close t _ _ ts (λ x. Then.then x) absurd h

  -- ---- delays, ranges and attributes

  delay_back : {p : ℕ} {ts : List TokenAt} (k : Delayed) → FDelay k ts → Passed MayDelay (FAfterDelay k) (quote p fixed.Hash ∷ ts)
  delay_back k (inl (Then.then b)) = passed _ (MayDelay.some (Delay.tokens b.parsed)) b.after
  delay_back k (inr (ThenInt.then_int e (inl (Then.then (ThenInt.then_int f a))))) = passed _ (MayDelay.some (Delay.fraction e f)) a
  delay_back k (inr (ThenInt.then_int e (inr a))) = passed _ (MayDelay.some (Delay.whole e)) a

  after_delay_step_back : (k : Delayed) (t : TokenAt) (ts : List TokenAt) → FromNext (after_delay_step k t) ts → FAfterDelay k (t ∷ ts)
  after_delay_step_back (net_delay u what r) t ts h = net_name_step_back u what r t ts h
  after_delay_step_back (gate_delay u kind p) t ts h = gate_name_step_back u kind p t ts h
  after_delay_step_back (instance_delay u d) t ts h = instance_name_step_back u d t ts h
  after_delay_step_back (assign_delay u) t ts h = assigns_back u (expr_start_back (left u) t ts h)

  after_delay_is : (k : Delayed) (ts : List TokenAt) → From (after_delay k) ts → FAfterDelay k ts
  after_delay_is (net_delay u what r) ts h = h
  after_delay_is (gate_delay u kind p) ts h = h
  after_delay_is (instance_delay u d) ts h = h
  after_delay_is (assign_delay u) ts h = assigns_back u h

  leave_is : (k : Delayed) (d : ℕ) (ts : List TokenAt) → From (leave_delay k d) ts → FLeave k d ts
  leave_is k zero ts h = after_delay_is k ts h
  leave_is k (suc d) ts h = h

  pair_back : {p : ℕ} {ts : List TokenAt} (k : Delayed) (d : ℕ) → Passed Balanced (FLeave k (suc d)) ts → Passed Balanced (FLeave k d) (quote p fixed.Open ∷ ts)
  pair_back k d x = let y = x.after in passed _ (Balanced.pair x.parsed y.parsed) y.after

  after_range_is : (k : Ranged) (r : Range) (ts : List TokenAt) → From (after_range k r) ts → FAfterRange k r ts
  after_range_is (port_range u what) r ts h = h
  after_range_is (declared_range u what) r ts h = h
  after_range_is (net_range u what) r ts h = h

  after_attr_is : (k : Place) (ts : List TokenAt) → From (after_attr k) ts → FPlace k ts
  after_attr_is (at_top b) ts h = h
  after_attr_is (in_module u) ts h = h

  -- ---- the head of a module

  port_back : {w : Word} {ts : List TokenAt} (b : Source) (n : Word) (ps : List Word) → FAfterPort b n (ps ++ w ∷ []) ts → FPort b n ps (name w ∷ ts)
  port_back b n ps (inl (Then.then p)) = phrase _ _ _ (Listed.next OneName.one p.parsed) (rw append_assoc at p.after)
  port_back b n ps (inr (Then.then x)) = phrase _ _ _ (Listed.last OneName.one) x

  declared_port_back : {ts rest : List TokenAt} {x : Port} (u : Under) (what : NetKind) (had : Range) → DeclaredPort what had ts rest x
      → FAfterDeclaredPort (with_port u x.what x.range x.name) x.what x.range rest → FDeclaredPort u what had ts
  declared_port_back u what had d (inl (Then.then p)) = phrase _ _ _ (DeclaredPorts.next d p.parsed) (rw (append_assoc, append_assoc) at p.after)
  declared_port_back u what had d (inr (Then.then y)) = phrase _ _ _ (DeclaredPorts.last d) y

  -- a port after what may be left out before it
  record Tail (u : Under) (what : NetKind) (had : Range) (ts : List TokenAt) : Type 0 where
    range : Range
    word : Word
    rest : List TokenAt
    parsed : WireRange had ts (name word ∷ rest) range
    after : FAfterDeclaredPort (with_port u what range word) what range rest

  wired_of : {p : ℕ} {ts : List TokenAt} (u : Under) (what : NetKind) (had : Range) → FPortWire u what had ts → Tail u what had (quote p fixed.Wire ∷ ts)
  wired_of u what had (inl (Then.then (ThenInt.then_int e (Then.then (ThenInt.then_int f (Then.then (ThenName.then_name x))))))) =
      record { range = _; word = _; rest = _; parsed = WireRange.wire_range (Bounds.bounds e f); after = x }
  wired_of u what had (inr (ThenName.then_name x)) = record { range = _; word = _; rest = _; parsed = WireRange.wire; after = x }

  tail_of : {ts : List TokenAt} (u : Under) (what : NetKind) (had : Range) → FPortDirection u what had ts → Tail u what had ts
  tail_of u what had (inl (Then.then x)) = wired_of u what had x
  tail_of u what had (inr (inl (Then.then (ThenInt.then_int e (Then.then (ThenInt.then_int f (Then.then (ThenName.then_name x)))))))) =
      record { range = _; word = _; rest = _; parsed = WireRange.range (Bounds.bounds e f); after = x }
  tail_of u what had (inr (inr (ThenName.then_name x))) = record { range = _; word = _; rest = _; parsed = WireRange.plain; after = x }

  directed_back : {p : ℕ} {ts : List TokenAt} (u : Under) (what' : NetKind) (had : Range) (f : Fixed) (what : NetKind)
      → Direction f what → FPortDirection u what None ts → FDeclaredPort u what' had (quote p f ∷ ts)
  directed_back u what' had f what d x =
      let t = tail_of u what None x in
      declared_port_back u what' had (DeclaredPort.directed (Directed.directed d t.parsed)) t.after

  undirected_back : {ts : List TokenAt} (u : Under) (what : NetKind) (had : Range) → FPortDirection u what had ts → FDeclaredPort u what had ts
  undirected_back u what had x = let t = tail_of u what had x in declared_port_back u what had (DeclaredPort.undirected t.parsed) t.after

  port_step_back : (u : Under) (what : NetKind) (r : Range) (t : TokenAt) (ts : List TokenAt)
      → FromNext (port_step u what r t) ts → FPortDirection u what r (t ∷ ts)
  port_step_back u what r t ts h =
      let G : TokenAt → Type 0 = λ t. FPortDirection u what r (t ∷ ts) in
      on_from G fixed.Wire t _ _ ts (λ x. inl (Then.then x))
      (on_from G fixed.SquareOpen t _ _ ts (λ x. inr (inl (Then.then x)))
      (name_from G t _ _ ts (λ w x. inr (inr (ThenName.then_name x))) absurd)) h

  -- a head, its semicolon, and the items after it
  record FHead (b : Source) (n : Word) (ts : List TokenAt) : Type 0 where
    place : ℕ
    ports : List Word
    items : List Item
    rest : List TokenAt
    parsed : Head ts (quote place fixed.Semi ∷ rest) ports items
    after : FUnder (under b n ports items) rest

  head_of_more : {p q r : ℕ} {ts mid rest : List TokenAt} {x : Port} {xs : List Port} (b : Source) (n : Word)
      → Directed ts (quote p fixed.Comma ∷ mid) x → DeclaredPorts x.what x.range mid (quote r fixed.Close ∷ rest) xs
      → FHeadEnd (with_ports (with_port (under b n [] []) x.what x.range x.name) xs) rest → FHead b n (quote q fixed.Open ∷ ts)
  head_of_more b n d l (Then.then y) = record { place = _; ports = _; items = _; rest = _; parsed = Head.ports d l; after = y }

  head_of_ports : {q : ℕ} {ts rest : List TokenAt} {x : Port} (b : Source) (n : Word) → Directed ts rest x
      → FAfterDeclaredPort (with_port (under b n [] []) x.what x.range x.name) x.what x.range rest
      → FHead b n (quote q fixed.Open ∷ ts)
  head_of_ports b n d (inl (Then.then p)) = head_of_more b n d p.parsed p.after
  head_of_ports b n d (inr (Then.then (Then.then y))) = record { place = _; ports = _; items = _; rest = _; parsed = Head.one_port d; after = y }

  head_of_direction : {p q : ℕ} {ts : List TokenAt} (b : Source) (n : Word) (f : Fixed) (what : NetKind)
      → Direction f what → FPortDirection (under b n [] []) what None ts
      → FHead b n (quote q fixed.Open ∷ quote p f ∷ ts)
  head_of_direction b n f what d x = let t = tail_of (under b n [] []) what None x in head_of_ports b n (Directed.directed d t.parsed) t.after

  head_of_names : {p q : ℕ} {ts rest : List TokenAt} {ws : List Word} (b : Source) (n : Word)
      → Listed OneName ts (quote p fixed.Close ∷ rest) ws → FHeadEnd (under b n ws []) rest
      → FHead b n (quote q fixed.Open ∷ ts)
  head_of_names b n l (Then.then y) = record { place = _; ports = _; items = _; rest = _; parsed = Head.names l; after = y }

  head_of : {ts : List TokenAt} (b : Source) (n : Word) → FAfterName b n ts → FHead b n ts
  head_of b n (inl (Then.then (inl (Then.then (Then.then y))))) = record { place = _; ports = _; items = _; rest = _; parsed = Head.empty; after = y }
  head_of b n (inl (Then.then (inr (inl (Then.then x))))) = head_of_direction b n fixed.Input net.Input Direction.input x
  head_of b n (inl (Then.then (inr (inr (inl (Then.then x)))))) = head_of_direction b n fixed.Output net.Output Direction.output x
  head_of b n (inl (Then.then (inr (inr (inr p))))) = head_of_names b n p.parsed p.after
  head_of b n (inr (Then.then y)) = record { place = _; ports = _; items = _; rest = _; parsed = Head.none; after = y }

  module_back : {p : ℕ} {ts : List TokenAt} (b : Source) → ThenName (FAfterName b) ts → FTop b (quote p fixed.Module ∷ ts)
  module_back b (ThenName.then_name {w = w} x) =
      let d = head_of b w x in
      let m : Module = record { name = w; ports = d.ports; items = d.items ++ d.after.value } in
      let top = d.after.after in
      record { others = joined (one_module m) top.others; parsed = Text.modules (OneModule.«module» d.parsed d.after.parsed) top.parsed; all = top.all ∙ joined_assoc b (one_module m) top.others }

  -- ---- the head of a primitive

  pin_back : {w : Word} {ts : List TokenAt} (b : Source) (n : Word) (ps : List Word) → From (at.after_pin b n (ps ++ w ∷ [])) ts → FPin b n ps (name w ∷ ts)
  pin_back b n ps (inl (Then.then p)) = phrase _ _ _ (Listed.next OneName.one p.parsed) (rw append_assoc at p.after)
  pin_back b n ps (inr (Then.then x)) = phrase _ _ _ (Listed.last OneName.one) x

  input_pin_back : {w : Word} {ts rest : List TokenAt} (p : Within) → InputPin ts rest w → FAfterInput (with_pin p Input w) rest → FInputPin p ts
  input_pin_back p i (inl (Then.then l)) = phrase _ _ _ (Listed.next i l.parsed) (rw (append_assoc, append_assoc) at l.after)
  input_pin_back p i (inr (Then.then s)) = phrase _ _ _ (Listed.last i) s

  named_input_back : {q : ℕ} {ts : List TokenAt} (p : Within) → FInputName p ts → FInputPin p (quote q fixed.Input ∷ ts)
  named_input_back p (ThenName.then_name a) = input_pin_back p InputPin.input a

  inputs_of : {ts : List TokenAt} (p : Within) → FFirstInput p ts → Phrase InputPins fixed.Close (λ ws rest. FDeclaredSemi (with_inputs p ws) rest) ts
  inputs_of p (Then.then (ThenName.then_name (inl (Then.then l)))) = phrase _ _ _ (InputPins.more l.parsed) (rw (append_assoc, append_assoc) at l.after)
  inputs_of p (Then.then (ThenName.then_name (inr (Then.then s)))) = phrase _ _ _ InputPins.one s

  -- the ports of a primitive, what is declared of them, and what stands after them
  record FPins (b : Source) (n : Word) (ts : List TokenAt) : Type 0 where
    close : ℕ
    semi : ℕ
    ports : List Word
    declarations : List PrimDeclare
    rest : List TokenAt
    parsed : Pins ts (quote close fixed.Close ∷ quote semi fixed.Semi ∷ rest) ports declarations
    after : FPrimitive (within b n ports declarations []) rest

  pins_behind : {p q c : ℕ} {w : Word} {ts mid rest : List TokenAt} {ds : List PrimDeclare} {ws : List Word} (b : Source) (n : Word)
      → OutputPin ts (quote q fixed.Comma ∷ mid) w ds → InputPins mid (quote c fixed.Close ∷ rest) ws
      → FDeclaredSemi (with_inputs (within b n (w ∷ []) ds []) ws) rest → FPins b n (quote p fixed.Output ∷ ts)
  pins_behind b n o i (Then.then y) = record { close = _; semi = _; ports = _; declarations = _; rest = _; parsed = Pins.declared o i; after = y }

  pins_from : {p q : ℕ} {w : Word} {ts mid : List TokenAt} {ds : List PrimDeclare} (b : Source) (n : Word)
      → OutputPin ts (quote q fixed.Comma ∷ mid) w ds → FFirstInput (within b n (w ∷ []) ds []) mid
      → FPins b n (quote p fixed.Output ∷ ts)
  pins_from {w = w} {ds = ds} b n o f = let i = inputs_of (within b n (w ∷ []) ds []) f in pins_behind b n o i.parsed i.after

  pins_of_names : {c : ℕ} {ts rest : List TokenAt} {ws : List Word} (b : Source) (n : Word)
      → Listed OneName ts (quote c fixed.Close ∷ rest) ws → FDeclaredSemi (within b n ws [] []) rest → FPins b n ts
  pins_of_names b n l (Then.then y) = record { close = _; semi = _; ports = _; declarations = _; rest = _; parsed = Pins.names l; after = y }

  pins_of : {ts : List TokenAt} (b : Source) (n : Word) → FFirstPin b n ts → FPins b n ts
  pins_of b n (inl (Then.then (inl (Then.then (ThenName.then_name (inl (Then.then (ThenBit.then_bit e (Then.then f))))))))) =
      pins_from b n (OutputPin.reg (MayStart.some e)) f
  pins_of b n (inl (Then.then (inl (Then.then (ThenName.then_name (inr (Then.then f))))))) = pins_from b n (OutputPin.reg MayStart.none) f
  pins_of b n (inl (Then.then (inr (ThenName.then_name (inl (Then.then (ThenBit.then_bit e (Then.then f)))))))) =
      pins_from b n (OutputPin.plain (MayStart.some e)) f
  pins_of b n (inl (Then.then (inr (ThenName.then_name (inr (Then.then f)))))) = pins_from b n (OutputPin.plain MayStart.none) f
  pins_of b n (inr x) = pins_of_names b n x.parsed x.after

  -- ---- the declarations of a primitive

  pin_declare_back : {ts mid : List TokenAt} {ds : List PrimDeclare} (p : Within) → PinDeclare ts mid ds → FPrimitive (with_declares p ds) mid → FPrimitive p ts
  pin_declare_back p d x = phrase _ _ _ (PinDeclares.more d x.parsed) (rw append_assoc at x.after)

  output_declared_back : {q : ℕ} {ts : List TokenAt} (p : Within) → From (at.output_declared p) ts → FPrimitive p (quote q fixed.Output ∷ ts)
  output_declared_back p (inl (Then.then (ThenName.then_name (Then.then y)))) = pin_declare_back p PinDeclare.output_reg (rw append_assoc at y)
  output_declared_back p (inr (ThenName.then_name (Then.then y))) = pin_declare_back p PinDeclare.output y

  reg_declared_back : {q : ℕ} {ts : List TokenAt} (p : Within) → From (at.reg_declared p) ts → FPrimitive p (quote q fixed.Reg ∷ ts)
  reg_declared_back p (ThenName.then_name (Then.then y)) = pin_declare_back p PinDeclare.reg y

  initial_declared_back : {q : ℕ} {ts : List TokenAt} (p : Within) → From (at.initial_declared p) ts → FPrimitive p (quote q fixed.Initial ∷ ts)
  initial_declared_back p (ThenName.then_name (Then.then (ThenBit.then_bit e (Then.then y)))) = pin_declare_back p (PinDeclare.initial e) y

  input_declared_back : {w : Word} {ts : List TokenAt} (p : Within)
      → From (at.after_input_declared (with_declare p Input w)) ts → FInputDeclared p (name w ∷ ts)
  input_declared_back p (inl (Then.then l)) = phrase _ _ _ (Listed.next OneName.one l.parsed) (rw append_assoc at l.after)
  input_declared_back p (inr (Then.then y)) = phrase _ _ _ (Listed.last OneName.one) y

  table_back : {q : ℕ} {ts : List TokenAt} (p : Within) → FRows p ts → FPrimitive p (quote q fixed.Table ∷ ts)
  table_back p x = phrase _ _ _ PinDeclares.none (rw append-nil x)

  -- ---- rows

  change_back : {q : ℕ} {ts : List TokenAt} (k : Column) → FChangeFirst k ts → Simple OneChange (FAfterSymbol k) (quote q fixed.Open ∷ ts)
  change_back k (inl (ThenByte.then_byte e (ThenByte.then_byte f (Then.then x)))) = simple _ _ (OneChange.apart e f) x
  change_back k (inr (ThenPair.then_pair e (Then.then x))) = simple _ _ (OneChange.joined e) x

  after_symbol_is : (k : Column) (s : Symbol) (ts : List TokenAt) → From (after_symbol k s) ts → FAfterSymbol k s ts
  after_symbol_is (entry p es) s ts h = h
  after_symbol_is (state p es) s ts h = h
  after_symbol_is (output p es st) s ts h = h

  entry_back : {ts mid : List TokenAt} {fs : List Symbol} (p : Within) (es : List Symbol) → Entry ts mid fs → FInRow p (es ++ fs) mid → FInRow p es ts
  entry_back p es e (inl c) = inr (simple _ _ (Entries.last e) c)
  entry_back p es e (inr x) = inr (simple _ _ (Entries.next e x.parsed) (rw append_assoc at x.after))

  row_of_tail : {c : ℕ} {q : Bool} {ts mid rest : List TokenAt} {es : List Symbol} {r : RawRow}
      → Entries ts (quote c fixed.Colon ∷ mid) es → RowTail q es mid rest r → Row q ts rest r
  row_of_tail e (RowTail.combinational o) = Row.combinational e o
  row_of_tail e (RowTail.sequential s o) = Row.sequential e s o

  rows_back : {ts mid : List TokenAt} {r : RawRow} (p : Within) → Row (is_sequential p.declarations) ts mid r → FInRows (with_row p r) mid → FRows p ts
  rows_back p r (inl more) = simple _ _ (Rows.next r more.parsed) (rw append_assoc at more.after)
  rows_back p r (inr x) = simple _ _ (Rows.last r) x

  entries_back : {ts mid : List TokenAt} {es : List Symbol} (p : Within) → Entries ts mid es → Then fixed.Colon (FTail p es) mid → FRows p ts
  entries_back p e (Then.then t) = rows_back p (row_of_tail e t.parsed) t.after

  row_back : {ts mid : List TokenAt} {fs : List Symbol} (p : Within) → Entry ts mid fs → FInRow p fs mid → FRows p ts
  row_back p e (inl c) = entries_back p (Entries.last e) c
  row_back p e (inr x) = entries_back p (Entries.next e x.parsed) x.after

  row_step_back : (G : Type 0) (p : Within) (t : TokenAt) (other : Next) (ts : List TokenAt) → (FRows p (t ∷ ts) → G)
      → (FromNext other ts → G) → FromNext (row_step p t other) ts → G
  row_step_back G p t other ts x y h =
      bytes_from G (symbols_of t.what) _ _ ts (λ b bs e r. x (row_back p (Entry.bytes e) r))
      (λ h. on_from_g fixed.Open t _ _ ts G (λ q c. let d = change_back {q = t.at} (entry p []) c in x (subst (λ t. FRows p (t ∷ ts)) q (row_back p (Entry.change d.parsed) d.after))) y h) h

  output_tail : {ts rest : List TokenAt} {o : Symbol} (p : Within) (es : List Symbol)
      → is_sequential p.declarations ≡ false → OneSymbol ts rest o → FRowEnd p es None o rest → FTail p es ts
  output_tail {ts = ts} p es z s (Then.then y) =
      subst (λ q. Simple (RowTail q es) (λ r rest. FInRows (with_row p r) rest) ts) (sym z) (simple _ _ (RowTail.combinational s) y)

  state_end : {ts mid rest : List TokenAt} {s o : Symbol} {q : ℕ} (p : Within) (es : List Symbol)
      → is_sequential p.declarations ≡ true → OneSymbol ts (quote q fixed.Colon ∷ mid) s → OneSymbol mid rest o
      → FRowEnd p es (Some s) o rest → FTail p es ts
  state_end {ts = ts} p es z s o (Then.then y) =
      subst (λ q. Simple (RowTail q es) (λ r rest. FInRows (with_row p r) rest) ts) (sym z) (simple _ _ (RowTail.sequential s o) y)

  state_tail : {ts rest : List TokenAt} {s : Symbol} (p : Within) (es : List Symbol)
      → is_sequential p.declarations ≡ true → OneSymbol ts rest s → FAfterState p es s rest → FTail p es ts
  state_tail p es z s (Then.then x) = state_end p es z s x.parsed x.after

  tail_at : (p : Within) (es : List Symbol) (ts : List TokenAt) (q : Bool) → is_sequential p.declarations ≡ q
      → From (cond q (at.row_state p es) (at.row_output p es None)) ts → FTail p es ts
  tail_at p es ts true z x = state_tail p es z x.parsed x.after
  tail_at p es ts false z x = output_tail p es z x.parsed x.after

  primitive_end_back : {p q : ℕ} {b : Source} {n : Word} {ts from rest : List TokenAt} {ws : List Word} {ds es : List PrimDeclare} {rs : List RawRow} {close semi table : ℕ} {mid : List TokenAt}
      → Pins ts (quote close fixed.Close ∷ quote semi fixed.Semi ∷ mid) ws ds → PinDeclares mid (quote table fixed.Table ∷ from) es → Rows (is_sequential (ds ++ es)) from rest rs
      → FEnd (within b n ws (ds ++ es) rs) rest → FTop b (quote p fixed.Primitive ∷ name n ∷ quote q fixed.Open ∷ ts)
  primitive_end_back {b = b} {n = n} {ws = ws} {ds = ds} {es = es} {rs = rs} i d r (Then.then (Then.then top)) =
      let m : Primitive = record { name = n; ports = ws; declarations = ds ++ es; rows = rs } in
      record { others = joined (one_primitive m) top.others; parsed = Text.primitives (OnePrimitive.primitive i d r) top.parsed; all = top.all ∙ joined_assoc b (one_primitive m) top.others }

  primitive_back : {p : ℕ} {ts : List TokenAt} (b : Source) → ThenName (λ w. Then fixed.Open (FFirstPin b w)) ts → FTop b (quote p fixed.Primitive ∷ ts)
  primitive_back b (ThenName.then_name {w = w} (Then.then x)) =
      let i = pins_of b w x in
      let d = i.after in
      let r = d.after in
      primitive_end_back i.parsed d.parsed r.parsed r.after

  attribute_back : {ts : List TokenAt} (q : ℕ) (k : Place) → Then fixed.Star (FStar k) ts → FPlace k (quote q fixed.Open ∷ ts)
  attribute_back q (at_top b) (Then.then x) =
      let top = x.after in
      record { others = top.others; parsed = Text.attribute (Attribute.attribute x.parsed) top.parsed; all = top.all }
  attribute_back q (in_module u) (Then.then x) = no_item_back u (OneItem.attribute (Attribute.attribute x.parsed)) x.after

  ranged_net_back : {q : ℕ} {ts : List TokenAt} (u : Under) (what : NetKind)
      → From (at.range_first (net_range u what)) ts → FNetKind u what (quote q fixed.SquareOpen ∷ ts)
  ranged_net_back u what (ThenInt.then_int e (Then.then (ThenInt.then_int f (Then.then x)))) = simple _ _ (MayRange.some (Bounds.bounds e f)) x

  instance_back : {ts : List TokenAt} (u : Under) (d : Word) → is_left_out (named d.text d.escaped) ≡ false
      → FDelayed (FList (OneInstance d) u) ts → FUnder u (name d ∷ ts)
  instance_back u d e x = let l = x.after in item_back u (OneItem.instances e x.parsed l.parsed) l.after

  -- ---- one step back

  back : (s : State) (t : TokenAt) (ts : List TokenAt) → FromNext (step s t) ts → From s (t ∷ ts)
  back (at.top b) t ts h =
      on_from (λ t. From (at.top b) (t ∷ ts)) fixed.Module t _ _ ts (λ x. module_back b x) (on_from (λ t. From (at.top b) (t ∷ ts)) fixed.Primitive t _ _ ts (λ x. primitive_back b x) (on_from (λ t. From (at.top b) (t ∷ ts)) fixed.Open t _ _ ts (λ x. attribute_back t.at (at_top b) x) (absurd))) h
  back (at.attr_open k) t ts h = on_from (λ t. From (at.attr_open k) (t ∷ ts)) fixed.Star t _ _ ts (λ x. Then.then x) (absurd) h
  back (at.in_attr k) t ts h =
      on_else (λ t. FStar k (t ∷ ts)) fixed.Star t _ _ ts (λ x. passed _ (x.parsed t.at) x.after) (λ e x. passed _ (UntilStar.further e x.parsed) x.after) h
  back (at.attr_star k) t ts h =
      on_else (λ t. FAfterStar k (t ∷ ts)) fixed.Close t _ _ ts (λ x. passed _ (λ p. UntilStar.here) (after_attr_is k ts x))
      (λ e. on_else (λ t. FAfterStar k (t ∷ ts)) fixed.Star t _ _ ts (λ x. passed _ (λ p. UntilStar.star refl (x.parsed t.at)) x.after)
      (λ f x. passed _ (λ p. UntilStar.star e (UntilStar.further f x.parsed)) x.after)) h
  back (at.module_name b) t ts h = name_from (λ t. From (at.module_name b) (t ∷ ts)) t _ _ ts (λ w x. ThenName.then_name x) (absurd) h
  back (at.after_name b n) t ts h =
      on_from (λ t. From (at.after_name b n) (t ∷ ts)) fixed.Open t _ _ ts (λ x. inl (Then.then x)) (on_from (λ t. From (at.after_name b n) (t ∷ ts)) fixed.Semi t _ _ ts (λ x. inr (Then.then x)) (absurd)) h
  back (at.first_port b n) t ts h =
      on_from (λ t. From (at.first_port b n) (t ∷ ts)) fixed.Close t _ _ ts (λ x. inl (Then.then x)) (on_from (λ t. From (at.first_port b n) (t ∷ ts)) fixed.Input t _ _ ts (λ x. inr (inl (Then.then x))) (on_from (λ t. From (at.first_port b n) (t ∷ ts)) fixed.Output t _ _ ts (λ x. inr (inr (inl (Then.then x)))) (name_from (λ t. From (at.first_port b n) (t ∷ ts)) t _ _ ts (λ w x. inr (inr (inr (port_back b n [] x)))) (absurd)))) h
  back (at.port b n ps) t ts h = name_from (λ t. From (at.port b n ps) (t ∷ ts)) t _ _ ts (λ w x. port_back b n ps x) (absurd) h
  back (at.after_port b n ps) t ts h =
      on_from (λ t. From (at.after_port b n ps) (t ∷ ts)) fixed.Comma t _ _ ts (λ x. inl (Then.then x)) (on_from (λ t. From (at.after_port b n ps) (t ∷ ts)) fixed.Close t _ _ ts (λ x. inr (Then.then x)) (absurd)) h
  back (at.port_direction u what r) t ts h = port_step_back u what r t ts h
  back (at.port_wire u what r) t ts h =
      on_from (λ t. From (at.port_wire u what r) (t ∷ ts)) fixed.SquareOpen t _ _ ts (λ x. inl (Then.then x)) (name_from (λ t. From (at.port_wire u what r) (t ∷ ts)) t _ _ ts (λ w x. inr (ThenName.then_name x)) (absurd)) h
  back (at.port_name u what r) t ts h = name_from (λ t. From (at.port_name u what r) (t ∷ ts)) t _ _ ts (λ w x. ThenName.then_name x) (absurd) h
  back (at.after_declared_port u what r) t ts h =
      on_from (λ t. From (at.after_declared_port u what r) (t ∷ ts)) fixed.Comma t _ _ ts (λ x. inl (Then.then x)) (on_from (λ t. From (at.after_declared_port u what r) (t ∷ ts)) fixed.Close t _ _ ts (λ x. inr (Then.then x)) (absurd)) h
  back (at.declared_port u what r) t ts h =
      on_from (λ t. From (at.declared_port u what r) (t ∷ ts)) fixed.Input t _ _ ts (λ x. directed_back u what r fixed.Input net.Input Direction.input x) (on_from (λ t. From (at.declared_port u what r) (t ∷ ts)) fixed.Output t _ _ ts (λ x. directed_back u what r fixed.Output net.Output Direction.output x) (λ y. undirected_back u what r (port_step_back u what r t ts y))) h
  back (at.head_end u) t ts h = on_from (λ t. From (at.head_end u) (t ∷ ts)) fixed.Semi t _ _ ts (λ x. Then.then x) (absurd) h
  back (at.in_items u) t ts h =
      let G : TokenAt → Type 0 = λ t. FUnder u (t ∷ ts) in
      on_from G fixed.Endmodule t _ _ ts (λ x. phrase _ _ _ Items.none (rw append-nil x))
      (on_from G fixed.Open t _ _ ts (λ x. attribute_back t.at (in_module u) x)
      (on_from G fixed.Input t _ _ ts (λ x. direction_back u fixed.Input net.Input Direction.input x)
      (on_from G fixed.Output t _ _ ts (λ x. direction_back u fixed.Output net.Output Direction.output x)
      (on_from G fixed.Wire t _ _ ts (λ x. net_back u fixed.Wire net.Wire Net.wire x)
      (on_from G fixed.Tri t _ _ ts (λ x. net_back u fixed.Tri net.Wire Net.tri x)
      (on_from G fixed.Supply0 t _ _ ts (λ x. net_back u fixed.Supply0 net.Supply0 Net.supply0 x)
      (on_from G fixed.Supply1 t _ _ ts (λ x. net_back u fixed.Supply1 net.Supply1 Net.supply1 x)
      (on_from G fixed.Reg t _ _ ts (λ x. item_back u (OneItem.regs x.parsed) x.after)
      (on_from G fixed.Assign t _ _ ts (λ x. let l = x.after in item_back u (OneItem.assigns x.parsed l.parsed) l.after)
      (on_from G fixed.Specify t _ _ ts (λ x. no_item_back u (OneItem.specify x.parsed) x.after)
      (gate_from G t _ _ ts (λ kind x. let l = x.after in item_back u (OneItem.gates x.parsed l.parsed) l.after)
      (λ h. unless_from (FUnder u (t ∷ ts)) (is_left_out t.what) _ _ ts (λ e h. name_from_is G t _ _ ts (λ w z x. instance_back u w (subst (λ u. is_left_out u.what ≡ false) (sym z) e) x) absurd h) h)))))))))))) h
  back (at.range_first k) t ts h = int_from (λ t. From (at.range_first k) (t ∷ ts)) t _ _ ts (λ ds n e x. ThenInt.then_int e x) (absurd) h
  back (at.range_colon k a) t ts h = on_from (λ t. From (at.range_colon k a) (t ∷ ts)) fixed.Colon t _ _ ts (λ x. Then.then x) (absurd) h
  back (at.range_second k a) t ts h = int_from (λ t. From (at.range_second k a) (t ∷ ts)) t _ _ ts (λ ds n e x. ThenInt.then_int e x) (absurd) h
  back (at.range_close k a b) t ts h =
      on_from (λ t. From (at.range_close k a b) (t ∷ ts)) fixed.SquareClose t _ _ ts (λ x. Then.then (after_range_is k (Some (a, b)) ts x)) (absurd) h
  back (at.delay k) t ts h =
      on_from (λ t. From (at.delay k) (t ∷ ts)) fixed.Open t _ _ ts (λ x. inl (Then.then x)) (int_from (λ t. From (at.delay k) (t ∷ ts)) t _ _ ts (λ ds n e x. inr (ThenInt.then_int e x)) (absurd)) h
  back (at.delay_number k) t ts h =
      on_from (λ t. From (at.delay_number k) (t ∷ ts)) fixed.Dot t _ _ ts (λ x. inl (Then.then x)) (λ y. inr (after_delay_step_back k t ts y)) h
  back (at.delay_fraction k) t ts h =
      int_from (λ t. From (at.delay_fraction k) (t ∷ ts)) t _ _ ts (λ ds n e x. ThenInt.then_int e (after_delay_is k ts x)) (absurd) h
  back (at.in_delay k d) t ts h =
      on_else (λ t. Passed Balanced (FLeave k d) (t ∷ ts)) fixed.Close t _ _ ts (λ x. passed _ Balanced.here (leave_is k d ts x))
      (λ e. on_else (λ t. Passed Balanced (FLeave k d) (t ∷ ts)) fixed.Open t _ _ ts (λ x. pair_back k d x) (λ f x. passed _ (Balanced.further e f x.parsed) x.after)) h
  back (at.direction u what) t ts h =
      on_from (λ t. From (at.direction u what) (t ∷ ts)) fixed.Wire t _ _ ts (λ x. inl (Then.then x)) (on_from (λ t. From (at.direction u what) (t ∷ ts)) fixed.SquareOpen t _ _ ts (λ x. inr (inl (Then.then x))) (name_from (λ t. From (at.direction u what) (t ∷ ts)) t _ _ ts (λ w x. inr (inr (names_back u what None x))) (absurd))) h
  back (at.direction_wire u what) t ts h =
      on_from (λ t. From (at.direction_wire u what) (t ∷ ts)) fixed.SquareOpen t _ _ ts (λ x. inl (Then.then x)) (name_from (λ t. From (at.direction_wire u what) (t ∷ ts)) t _ _ ts (λ w x. inr (names_back u what None x)) (absurd)) h
  back (at.declared_name u what r) t ts h = name_from (λ t. From (at.declared_name u what r) (t ∷ ts)) t _ _ ts (λ w x. names_back u what r x) (absurd) h
  back (at.after_declared u what r) t ts h =
      on_from (λ t. From (at.after_declared u what r) (t ∷ ts)) fixed.Comma t _ _ ts (λ x. inl (Then.then x)) (on_from (λ t. From (at.after_declared u what r) (t ∷ ts)) fixed.Semi t _ _ ts (λ x. inr (Then.then x)) (absurd)) h
  back (at.net_kind u what) t ts h =
      on_from (λ t. From (at.net_kind u what) (t ∷ ts)) fixed.SquareOpen t _ _ ts (λ x. ranged_net_back u what x) (on_from (λ t. From (at.net_kind u what) (t ∷ ts)) fixed.Hash t _ _ ts (λ x. simple _ _ MayRange.none (delay_back (net_delay u what None) x)) (λ y. simple _ _ MayRange.none (passed _ MayDelay.none (net_name_step_back u what None t ts y)))) h
  back (at.net_ranged u what r) t ts h =
      on_from (λ t. From (at.net_ranged u what r) (t ∷ ts)) fixed.Hash t _ _ ts (λ x. delay_back (net_delay u what r) x) (λ y. passed _ MayDelay.none (net_name_step_back u what r t ts y)) h
  back (at.net_name u what r) t ts h = net_name_step_back u what r t ts h
  back (at.after_net u what r w) t ts h =
      let G : TokenAt → Type 0 = λ t. FAfterNet u what r w (t ∷ ts) in
      on_from G fixed.Comma t _ _ ts (λ x. inl (inl (Then.then x)))
      (on_from G fixed.Semi t _ _ ts (λ x. inl (inr (Then.then x)))
      (λ y. when_from (FAfterNet u what r w (t ∷ ts)) (takes_value what) _ _ ts (λ e y. on_from G fixed.Equals t _ _ ts (λ x. inr (e, Then.then x)) absurd y) absurd y)) h
  back (at.gate_kind u kind p) t ts h =
      on_from (λ t. From (at.gate_kind u kind p) (t ∷ ts)) fixed.Hash t _ _ ts (λ x. delay_back (gate_delay u kind p) x) (λ y. passed _ MayDelay.none (gate_name_step_back u kind p t ts y)) h
  back (at.gate_name u kind p) t ts h = gate_name_step_back u kind p t ts h
  back (at.gate_open u kind p) t ts h =
      on_from (λ t. From (at.gate_open u kind p) (t ∷ ts)) fixed.Open t _ _ ts (λ x. Then.then (terminals_back u kind p [] x)) (absurd) h
  back (at.after_gate u kind p) t ts h =
      on_from (λ t. From (at.after_gate u kind p) (t ∷ ts)) fixed.Comma t _ _ ts (λ x. inl (Then.then x)) (on_from (λ t. From (at.after_gate u kind p) (t ∷ ts)) fixed.Semi t _ _ ts (λ x. inr (Then.then x)) (absurd)) h
  back (at.definition u d) t ts h =
      on_from (λ t. From (at.definition u d) (t ∷ ts)) fixed.Hash t _ _ ts (λ x. delay_back (instance_delay u d) x) (λ y. passed _ MayDelay.none (instance_name_step_back u d t ts y)) h
  back (at.instance_name u d) t ts h = instance_name_step_back u d t ts h
  back (at.instance_open u d n) t ts h = on_from (λ t. From (at.instance_open u d n) (t ∷ ts)) fixed.Open t _ _ ts (λ x. Then.then x) (absurd) h
  back (at.connections u d n) t ts h =
      on_from (λ t. From (at.connections u d n) (t ∷ ts)) fixed.Close t _ _ ts (λ x. phrase _ _ _ Connecting.nothing x) (on_from (λ t. From (at.connections u d n) (t ∷ ts)) fixed.Comma t _ _ ts (λ x. phrase _ _ _ (Connecting.several MayConnect.none x.parsed) x.after) (on_from (λ t. From (at.connections u d n) (t ∷ ts)) fixed.Dot t _ _ ts (λ x. let l = by_name_back u d n [] x in phrase _ _ _ (Connecting.named l.parsed) l.after) (λ y. let x = expr_start_back (connected u d n []) t ts y in first_position_back u d n x.parsed x.after))) h
  back (at.connection u d n cs) t ts h =
      on_from (λ t. From (at.connection u d n cs) (t ∷ ts)) fixed.Close t _ _ ts (λ x. position_back u d n cs MayConnect.none (inr (Then.then x))) (on_from (λ t. From (at.connection u d n cs) (t ∷ ts)) fixed.Comma t _ _ ts (λ x. position_back u d n cs MayConnect.none (inl (Then.then x))) (λ y. let x = expr_start_back (connected u d n cs) t ts y in position_back u d n cs (MayConnect.some x.parsed) x.after)) h
  back (at.connection_dot u d n cs) t ts h =
      on_from (λ t. From (at.connection_dot u d n cs) (t ∷ ts)) fixed.Dot t _ _ ts (λ x. by_name_back u d n cs x) (absurd) h
  back (at.connection_port u d n cs) t ts h = name_from (λ t. From (at.connection_port u d n cs) (t ∷ ts)) t _ _ ts (λ w x. ThenName.then_name x) (absurd) h
  back (at.connection_open u d n cs p) t ts h = on_from (λ t. From (at.connection_open u d n cs p) (t ∷ ts)) fixed.Open t _ _ ts (λ x. Then.then x) (absurd) h
  back (at.connection_value u d n cs p) t ts h =
      on_from (λ t. From (at.connection_value u d n cs p) (t ∷ ts)) fixed.Close t _ _ ts (λ x. inl (Then.then x)) (λ y. inr (expr_start_back (connected_to u d n cs p) t ts y)) h
  back (at.after_connection u d n cs) t ts h =
      on_from (λ t. From (at.after_connection u d n cs) (t ∷ ts)) fixed.Comma t _ _ ts (λ x. inl (Then.then x)) (on_from (λ t. From (at.after_connection u d n cs) (t ∷ ts)) fixed.Close t _ _ ts (λ x. inr (Then.then x)) (absurd)) h
  back (at.after_instance u d) t ts h =
      on_from (λ t. From (at.after_instance u d) (t ∷ ts)) fixed.Comma t _ _ ts (λ x. inl (Then.then x)) (on_from (λ t. From (at.after_instance u d) (t ∷ ts)) fixed.Semi t _ _ ts (λ x. inr (Then.then x)) (absurd)) h
  back (at.assign u) t ts h =
      on_from (λ t. From (at.assign u) (t ∷ ts)) fixed.Hash t _ _ ts (λ x. delay_back (assign_delay u) x) (λ y. passed _ MayDelay.none (assigns_back u (expr_start_back (left u) t ts y))) h
  back (at.expr_start k) t ts h = expr_start_back k t ts h
  back (at.expr k p d ps) t ts h = expr_step_back k p d ps t ts h
  back (at.after_part_name k p d ps w) t ts h =
      on_from (λ t. From (at.after_part_name k p d ps w) (t ∷ ts)) fixed.SquareOpen t _ _ ts (λ x. inl (Then.then x)) (λ y. inr (after_expr_back k p d (ps ++ whole_part w ∷ []) t ts y)) h
  back (at.select k p d ps w) t ts h = int_from (λ t. From (at.select k p d ps w) (t ∷ ts)) t _ _ ts (λ ds n e x. ThenInt.then_int e x) (absurd) h
  back (at.after_index k p d ps w n) t ts h =
      on_from (λ t. From (at.after_index k p d ps w n) (t ∷ ts)) fixed.SquareClose t _ _ ts (λ x. inl (Then.then x)) (on_from (λ t. From (at.after_index k p d ps w n) (t ∷ ts)) fixed.Colon t _ _ ts (λ x. inr (Then.then x)) (absurd)) h
  back (at.select_end k p d ps w n) t ts h = int_from (λ t. From (at.select_end k p d ps w n) (t ∷ ts)) t _ _ ts (λ ds n e x. ThenInt.then_int e x) (absurd) h
  back (at.select_close k p d ps w n m) t ts h =
      on_from (λ t. From (at.select_close k p d ps w n m) (t ∷ ts)) fixed.SquareClose t _ _ ts (λ x. Then.then x) (absurd) h
  back (at.after_part k p d ps) t ts h = after_expr_back k p d ps t ts h
  back (at.in_specify u) t ts h =
      on_else (λ t. Passed (Until fixed.Endspecify) (FUnder u) (t ∷ ts)) fixed.Endspecify t _ _ ts (λ x. passed _ Until.here x) (λ e x. passed _ (Until.further e x.parsed) x.after) h
  back (at.primitive_name b) t ts h = name_from (λ t. From (at.primitive_name b) (t ∷ ts)) t _ _ ts (λ w x. ThenName.then_name x) (absurd) h
  back (at.primitive_open b n) t ts h = on_from (λ t. From (at.primitive_open b n) (t ∷ ts)) fixed.Open t _ _ ts (λ x. Then.then x) (absurd) h
  back (at.first_pin b n) t ts h =
      on_from (λ t. From (at.first_pin b n) (t ∷ ts)) fixed.Output t _ _ ts (λ x. inl (Then.then x)) (name_from (λ t. From (at.first_pin b n) (t ∷ ts)) t _ _ ts (λ w x. inr (pin_back b n [] x)) (absurd)) h
  back (at.pin b n ps) t ts h = name_from (λ t. From (at.pin b n ps) (t ∷ ts)) t _ _ ts (λ w x. pin_back b n ps x) (absurd) h
  back (at.after_pin b n ps) t ts h =
      on_from (λ t. From (at.after_pin b n ps) (t ∷ ts)) fixed.Comma t _ _ ts (λ x. inl (Then.then x)) (on_from (λ t. From (at.after_pin b n ps) (t ∷ ts)) fixed.Close t _ _ ts (λ x. inr (Then.then x)) (absurd)) h
  back (at.output_pin b n) t ts h =
      on_from (λ t. From (at.output_pin b n) (t ∷ ts)) fixed.Reg t _ _ ts (λ x. inl (Then.then x)) (name_from (λ t. From (at.output_pin b n) (t ∷ ts)) t _ _ ts (λ w x. inr (ThenName.then_name x)) (absurd)) h
  back (at.output_name b n) t ts h = name_from (λ t. From (at.output_name b n) (t ∷ ts)) t _ _ ts (λ w x. ThenName.then_name x) (absurd) h
  back (at.after_output p w) t ts h =
      on_from (λ t. From (at.after_output p w) (t ∷ ts)) fixed.Equals t _ _ ts (λ x. inl (Then.then x)) (on_from (λ t. From (at.after_output p w) (t ∷ ts)) fixed.Comma t _ _ ts (λ x. inr (Then.then x)) (absurd)) h
  back (at.output_bit p w) t ts h = bit_from (λ t. From (at.output_bit p w) (t ∷ ts)) t _ _ ts (λ ds v e x. ThenBit.then_bit e x) (absurd) h
  back (at.output_comma p) t ts h = on_from (λ t. From (at.output_comma p) (t ∷ ts)) fixed.Comma t _ _ ts (λ x. Then.then x) (absurd) h
  back (at.first_input p) t ts h = on_from (λ t. From (at.first_input p) (t ∷ ts)) fixed.Input t _ _ ts (λ x. Then.then x) (absurd) h
  back (at.input_name p) t ts h = name_from (λ t. From (at.input_name p) (t ∷ ts)) t _ _ ts (λ w x. ThenName.then_name x) (absurd) h
  back (at.input_pin p) t ts h =
      on_from (λ t. From (at.input_pin p) (t ∷ ts)) fixed.Input t _ _ ts (λ x. named_input_back p x) (name_from (λ t. From (at.input_pin p) (t ∷ ts)) t _ _ ts (λ w x. input_pin_back p InputPin.plain x) (absurd)) h
  back (at.after_input p) t ts h =
      on_from (λ t. From (at.after_input p) (t ∷ ts)) fixed.Comma t _ _ ts (λ x. inl (Then.then x)) (on_from (λ t. From (at.after_input p) (t ∷ ts)) fixed.Close t _ _ ts (λ x. inr (Then.then x)) (absurd)) h
  back (at.primitive_head_end p) t ts h = on_from (λ t. From (at.primitive_head_end p) (t ∷ ts)) fixed.Semi t _ _ ts (λ x. Then.then x) (absurd) h
  back (at.in_primitive p) t ts h =
      on_from (λ t. From (at.in_primitive p) (t ∷ ts)) fixed.Output t _ _ ts (λ x. output_declared_back p x) (on_from (λ t. From (at.in_primitive p) (t ∷ ts)) fixed.Reg t _ _ ts (λ x. reg_declared_back p x) (on_from (λ t. From (at.in_primitive p) (t ∷ ts)) fixed.Input t _ _ ts (λ x. pin_declare_back p (PinDeclare.inputs x.parsed) x.after) (on_from (λ t. From (at.in_primitive p) (t ∷ ts)) fixed.Initial t _ _ ts (λ x. initial_declared_back p x) (on_from (λ t. From (at.in_primitive p) (t ∷ ts)) fixed.Table t _ _ ts (λ x. table_back p x) (absurd))))) h
  back (at.output_declared p) t ts h =
      on_from (λ t. From (at.output_declared p) (t ∷ ts)) fixed.Reg t _ _ ts (λ x. inl (Then.then x)) (name_from (λ t. From (at.output_declared p) (t ∷ ts)) t _ _ ts (λ w x. inr (ThenName.then_name x)) (absurd)) h
  back (at.output_reg p) t ts h = name_from (λ t. From (at.output_reg p) (t ∷ ts)) t _ _ ts (λ w x. ThenName.then_name x) (absurd) h
  back (at.reg_declared p) t ts h = name_from (λ t. From (at.reg_declared p) (t ∷ ts)) t _ _ ts (λ w x. ThenName.then_name x) (absurd) h
  back (at.input_declared p) t ts h = name_from (λ t. From (at.input_declared p) (t ∷ ts)) t _ _ ts (λ w x. input_declared_back p x) (absurd) h
  back (at.after_input_declared p) t ts h =
      on_from (λ t. From (at.after_input_declared p) (t ∷ ts)) fixed.Comma t _ _ ts (λ x. inl (Then.then x)) (on_from (λ t. From (at.after_input_declared p) (t ∷ ts)) fixed.Semi t _ _ ts (λ x. inr (Then.then x)) (absurd)) h
  back (at.initial_declared p) t ts h = name_from (λ t. From (at.initial_declared p) (t ∷ ts)) t _ _ ts (λ w x. ThenName.then_name x) (absurd) h
  back (at.initial_equals p w) t ts h = on_from (λ t. From (at.initial_equals p w) (t ∷ ts)) fixed.Equals t _ _ ts (λ x. Then.then x) (absurd) h
  back (at.initial_bit p w) t ts h = bit_from (λ t. From (at.initial_bit p w) (t ∷ ts)) t _ _ ts (λ ds v e x. ThenBit.then_bit e x) (absurd) h
  back (at.declared_semi p) t ts h = on_from (λ t. From (at.declared_semi p) (t ∷ ts)) fixed.Semi t _ _ ts (λ x. Then.then x) (absurd) h
  back (at.first_row p) t ts h = row_step_back (FRows p (t ∷ ts)) p t _ ts (λ x. x) absurd h
  back (at.in_rows p) t ts h =
      row_step_back (FInRows p (t ∷ ts)) p t _ ts (λ x. inl x) (λ y. on_from (λ t. FInRows p (t ∷ ts)) fixed.Endtable t _ _ ts (λ x. inr (Then.then x)) absurd y) h
  back (at.in_row p es) t ts h =
      bytes_from (FInRow p es (t ∷ ts)) (symbols_of t.what) _ _ ts (λ b bs e x. entry_back p es (Entry.bytes e) x)
      (λ y. on_from (λ t. FInRow p es (t ∷ ts)) fixed.Open t _ _ ts (λ c. let d = change_back {q = t.at} (entry p es) c in entry_back p es (Entry.change d.parsed) d.after)
      (on_from (λ t. FInRow p es (t ∷ ts)) fixed.Colon t _ _ ts (λ x. inl (Then.then (tail_at p es ts (is_sequential p.declarations) refl x))) absurd) y) h
  back (at.change_first k) t ts h =
      few_from (FChangeFirst k (t ∷ ts)) (symbols_of t.what) _ _ _ ts (λ b e x. inl (ThenByte.then_byte e x)) (λ b c e x. inr (ThenPair.then_pair e x)) absurd h
  back (at.change_second k v) t ts h =
      byte_from (ThenByte (λ w. FChangeClose k v w) (t ∷ ts)) (symbols_of t.what) _ _ ts (λ b e x. ThenByte.then_byte e x) absurd h
  back (at.change_close k v w) t ts h =
      on_from (λ t. From (at.change_close k v w) (t ∷ ts)) fixed.Close t _ _ ts (λ x. Then.then (after_symbol_is k (Change v w) ts x)) (absurd) h
  back (at.row_state p es) t ts h =
      byte_from (FRowState p es (t ∷ ts)) (symbols_of t.what) _ _ ts (λ b e x. simple _ _ (OneSymbol.single e) x)
      (λ y. on_from (λ t. FRowState p es (t ∷ ts)) fixed.Open t _ _ ts (λ c. let d = change_back {q = t.at} (state p es) c in simple _ _ (OneSymbol.change d.parsed) d.after) absurd y) h
  back (at.after_state p es s) t ts h = on_from (λ t. From (at.after_state p es s) (t ∷ ts)) fixed.Colon t _ _ ts (λ x. Then.then x) (absurd) h
  back (at.row_output p es s) t ts h =
      byte_from (FRowOutput p es s (t ∷ ts)) (symbols_of t.what) _ _ ts (λ b e x. simple _ _ (OneSymbol.single e) x)
      (λ y. on_from (λ t. FRowOutput p es s (t ∷ ts)) fixed.Open t _ _ ts (λ c. let d = change_back {q = t.at} (output p es s) c in simple _ _ (OneSymbol.change d.parsed) d.after) absurd y) h
  back (at.after_output_symbol p es s o) t ts h =
      on_from (λ t. From (at.after_output_symbol p es s o) (t ∷ ts)) fixed.Semi t _ _ ts (λ x. Then.then x) (absurd) h
  back (at.primitive_end p) t ts h = on_from (λ t. From (at.primitive_end p) (t ∷ ts)) fixed.Endprimitive t _ _ ts (λ x. Then.then x) (absurd) h

  -- ---- the whole run

  ended_top : (b : Source) (stop : TokenAt) (l : Lexeme) → finish_top b l stop ≡ Ok tree → FTop b [] × (l ≡ ending)
  ended_top b stop ending h = let e : b ≡ tree = cc in (record { others = nothing; parsed = Text.none; all = sym e ∙ sym (joined_nothing b) }, refl)
  ended_top b stop _ h = absurd cc

  ended : (s : State) (stop : TokenAt) → finish s stop ≡ Ok tree → From s [] × (stop.what ≡ ending)
  ended (at.top b) stop h = ended_top b stop stop.what h
  ended _ stop h = absurd cc

  accepted : (s : State) (ts : List TokenAt) (stop : TokenAt) → run s ts stop ≡ Ok tree → From s ts × (stop.what ≡ ending)
  accepted s [] stop h = ended s stop h
  accepted s (t ∷ ts) stop h =
      let one : (n : Next) → step s t ≡ n → then_run n (λ next. run next ts stop) ≡ Ok tree → FromNext n ts × (stop.what ≡ ending) =
      λ n. elim n as (λ n. step s t ≡ n → then_run n (λ next. run next ts stop) ≡ Ok tree → FromNext n ts × (stop.what ≡ ending)) [
        | Ok s' ↦ λ e h. accepted s' ts stop h
        | Err x ↦ λ e h. absurd cc
      ] in
      let r = one (step s t) refl h in
      (back s t ts r.0, r.1)

-- What is read to the end is in the grammar.
pub is_in_grammar : (ts : List TokenAt) (stop : TokenAt) (tree : Source) → run (at.top nothing) ts stop ≡ Ok tree → Text ts tree × (stop.what ≡ ending)
is_in_grammar ts stop tree h = let a = accepted tree (at.top nothing) ts stop h in (rw a.0.all a.0.parsed, a.1)
