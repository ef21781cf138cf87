-- What the grammar has, the machine reads.
use Rattle.std.proofs.Common.{◌≡◌, ℕ, zero, suc, Bool, true, false, cond, List, [], ◌∷◌, ◌++◌, Option, Some, None}
use Rattle.std.proofs.Common.{Result, Ok, Err, refl, sym, ap, ◌∙◌, append_assoc}
use Rattle.std.specs.Prelude.{map}
use Rattle.std.proofs.lemmas.List.{append-nil}
use Rattle.netlist_grammar.specs.Lexemes.{quoted, TokenAt, ending, is_fixed, fault_of, symbols_of}
use Rattle.netlist_grammar.specs.Trees.{Range, whole_part, declares, declare_of, gate_of, instance_of, nothing}
use Rattle.netlist_grammar.specs.Trees.{joined, one_module, one_primitive, prim_declare, is_sequential, singles}
use Rattle.netlist_grammar.specs.Trees.{Under, under, with_item, with_port, Within, within, with_row}
use Rattle.netlist_grammar.specs.Machine.{State, State as at, Context, Delayed, Next, on, then_run, run, step}
use Rattle.netlist_grammar.specs.Machine.{finish, expr_step, after_expr, after_delay, after_delay_step, leave_delay}
use Rattle.netlist_grammar.specs.Machine.Context.{terminal, left, right, declared, connected, connected_to}
use Rattle.netlist_grammar.specs.Machine.{Column, after_symbol}
use Rattle.netlist_grammar.specs.Machine.Column.{entry, state, output}
use Rattle.netlist_grammar.specs.Machine.{Ranged, Place, after_range, after_attr}
use Rattle.netlist_grammar.specs.Machine.Ranged.{port_range, declared_range, net_range}
use Rattle.netlist_grammar.specs.Machine.Place.{at_top, in_module}
use Rattle.netlist_grammar.specs.Machine.Delayed.{net_delay, gate_delay, instance_delay, assign_delay}
use Rattle.netlist_grammar.specs.Rules.{quote, name, OneName, Listed, Until, UntilStar, Attribute, Balanced, Delay, MayDelay, Bounds, MayRange, WireRange}
use Rattle.netlist_grammar.specs.Expressions.{Parts, Flat, Expression}
use Rattle.netlist_grammar.specs.Items.{Direction, Net, NetName, OneGate, MayConnect, OneNamed, Connecting, OneInstance, OneAssign, OneItem, Items}
use Rattle.netlist_grammar.specs.Primitives.{MayStart, OutputPin, InputPin, InputPins, Pins, PinDeclare, PinDeclares}
use Rattle.netlist_grammar.specs.Primitives.{OneChange, OneSymbol, Entry, Entries, Row, Rows, OnePrimitive}
use Rattle.netlist_grammar.specs.Text.{Port, declare_port, Directed, DeclaredPort, DeclaredPorts, Head, OneModule, Text}
use Rattle.design_cell.specs.declared.row.RawRow.{RawRow}
use Rattle.design_cell.specs.declared.symbol.Symbol.{Symbol}
use Rattle.design_cell.specs.declared.symbol.Symbol.TheVariants.{Single}
use Rattle.netlist_grammar.specs.declared.fixed.Fixed.{Fixed}
use Rattle.netlist_grammar.specs.declared.fixed.Fixed.TheVariants as fixed
use Rattle.netlist_grammar.specs.declared.refusal.ParseErr.{ParseErr}
use Rattle.netlist_grammar.specs.declared.tree.Word.{Word}
use Rattle.netlist_grammar.specs.declared.tree.Part.{Part}
use Rattle.netlist_grammar.specs.declared.tree.Expr.{Expr}
use Rattle.netlist_grammar.specs.declared.tree.GateKind.{GateKind}
use Rattle.netlist_grammar.specs.declared.tree.NetKind.{NetKind}
use Rattle.netlist_grammar.specs.declared.tree.NetKind.TheVariants as net
use Rattle.netlist_grammar.specs.declared.tree.Connection.{Connection}
use Rattle.netlist_grammar.specs.declared.tree.NamedConnection.{NamedConnection}
use Rattle.netlist_grammar.specs.declared.tree.Connections.{Connections}
use Rattle.netlist_grammar.specs.declared.tree.Connections.TheVariants.{Positional, Named}
use Rattle.netlist_grammar.specs.declared.tree.Item.{Item}
use Rattle.netlist_grammar.specs.declared.tree.Module.{Module}
use Rattle.netlist_grammar.specs.declared.tree.PrimKind.TheVariants.{Output, Input, Reg}
use Rattle.netlist_grammar.specs.declared.tree.PrimDeclare.{PrimDeclare}
use Rattle.netlist_grammar.specs.declared.tree.Primitive.{Primitive}
use Rattle.netlist_grammar.specs.declared.tree.Source.{Source}
use Rattle.netlist_grammar.proofs.Found.{found_fixed}

is_it : (f : Fixed) (t : TokenAt) → is_fixed f t.what ≡ true → t.what ≡ quoted f
is_it f t h = sym (found_fixed f t.what h)

-- Where the other branch only refuses when the test holds, an answer of the other branch is that of both.
otherwise : (tree : Source) (b : Bool) (x y : Next) (e : ParseErr) (k : State → Result Source ParseErr)
    → (b ≡ true → y ≡ Err e) → then_run y k ≡ Ok tree → then_run (cond b x y) k ≡ Ok tree
otherwise tree true x y e k z h = let q = rw (z refl) at h in absurd cc
otherwise tree false x y e k z h = h

-- ---- tokens that may not stand where something optional is left out

no_square : (k : Context) (p d : ℕ) (ps : List Part) (t : TokenAt) → t.what ≡ quoted fixed.SquareOpen → after_expr k p d ps t ≡ Err (fault_of t)
no_square k p (suc d) ps t h = rw h refl
no_square (terminal u kind q es) p zero ps t h = rw h refl
no_square (left u) p zero ps t h = rw h refl
no_square (right u l) p zero ps t h = rw h refl
no_square (declared u what r w) p zero ps t h = rw h refl
no_square (connected u d n cs) p zero ps t h = rw h refl
no_square (connected_to u d n cs w) p zero ps t h = rw h refl

no_dot : (k : Delayed) (t : TokenAt) → t.what ≡ quoted fixed.Dot → after_delay_step k t ≡ Err (fault_of t)
no_dot (net_delay u what r) t h = rw h refl
no_dot (gate_delay u kind p) t h = rw h refl
no_dot (instance_delay u d) t h = rw h refl
no_dot (assign_delay u) t h = rw h refl

no_hash : (k : Delayed) (t : TokenAt) → t.what ≡ quoted fixed.Hash → step (after_delay k) t ≡ Err (fault_of t)
no_hash (net_delay u what r) t h = rw h refl
no_hash (gate_delay u kind p) t h = rw h refl
no_hash (instance_delay u d) t h = rw h refl
no_hash (assign_delay u) t h = rw h refl

delay_ends : (stop : TokenAt) (k : Delayed) → finish (after_delay k) stop ≡ Err (fault_of stop)
delay_ends stop (net_delay u what r) = refl
delay_ends stop (gate_delay u kind p) = refl
delay_ends stop (instance_delay u d) = refl
delay_ends stop (assign_delay u) = refl

-- An expression begins with none of these.
record IsStart (t : TokenAt) : Type 0 where
  close : is_fixed fixed.Close t.what ≡ false
  comma : is_fixed fixed.Comma t.what ≡ false
  dot : is_fixed fixed.Dot t.what ≡ false

start_of : {t : TokenAt} {ts rest : List TokenAt} {ps : List Part} → Parts (t ∷ ts) rest ps → IsStart t
start_of Parts.whole = record { close = refl; comma = refl; dot = refl }
start_of (Parts.bit e) = record { close = refl; comma = refl; dot = refl }
start_of (Parts.slice e f) = record { close = refl; comma = refl; dot = refl }
start_of (Parts.literal e) = record { close = refl; comma = refl; dot = refl }
start_of (Parts.braces e) = record { close = refl; comma = refl; dot = refl }

pub joined_assoc : (a b c : Source) → joined (joined a b) c ≡ joined a (joined b c)
joined_assoc a b c = rw (append_assoc, append_assoc) refl

module _ (stop : TokenAt) (tree : Source) where
  abbrev reads : State → List TokenAt → Type 0
  reads s ts = run s ts stop ≡ Ok tree

  -- a state that takes one token more than another one, which refuses that token
  optional : (s wide next : State) (f : Fixed) → ((t : TokenAt) → step wide t ≡ on f t next (step s t))
      → ((t : TokenAt) → t.what ≡ quoted f → step s t ≡ Err (fault_of t))
      → finish s stop ≡ Err (fault_of stop) → (ts : List TokenAt) → reads s ts → reads wide ts
  optional s wide next f is refuses ends [] h = absurd cc
  optional s wide next f is refuses ends (t ∷ ts) h =
      rw (is t) (otherwise tree (is_fixed f t.what) (Ok next) (step s t) (fault_of t) (λ n. run n ts stop) (λ e. refuses t (is_it f t e)) h)

  whole_read : (ts : List TokenAt) (k : Context) (p d : ℕ) (ps : List Part) (w : Word)
      → reads (at.after_part k p d (ps ++ whole_part w ∷ [])) ts → reads (at.after_part_name k p d ps w) ts
  whole_read ts k p d ps w h =
      optional (at.after_part k p d (ps ++ whole_part w ∷ [])) (at.after_part_name k p d ps w) (at.select k p d ps w) fixed.SquareOpen (λ t. refl) (λ t. no_square k p d (ps ++ whole_part w ∷ []) t) refl ts h

  mutual
    parts_read : {ts rest : List TokenAt} {qs : List Part} (k : Context) (p d : ℕ) (ps : List Part) → Parts ts rest qs
        → reads (at.after_part k p d (ps ++ qs)) rest → reads (at.expr k p d ps) ts
    parts_read {rest = rest} k p d ps (Parts.whole {w = w}) h = whole_read rest k p d ps w h
    parts_read k p d ps (Parts.bit e) h = rw e h
    parts_read k p d ps (Parts.slice e f) h = rw (e, f) h
    parts_read k p d ps (Parts.literal e) h = rw e h
    parts_read k p d ps (Parts.braces e) h = flat_read k p d ps e h

    flat_read : {ts rest : List TokenAt} {qs : List Part} (k : Context) (p d : ℕ) (ps : List Part) → Flat ts rest qs
        → reads (at.after_part k p (suc d) (ps ++ qs)) rest → reads (at.expr k p (suc d) ps) ts
    flat_read k p d ps (Flat.last e) h = parts_read k p (suc d) ps e h
    flat_read k p d ps (Flat.next {ps = qs} e f) h = parts_read k p (suc d) ps e (flat_read k p d (ps ++ qs) f (rw append_assoc h))

  -- ---- expressions at the start of something

  expr_read : {ts rest : List TokenAt} {e : Expr} (k : Context) → Expression ts rest e
      → reads (at.after_part k e.at 0 e.parts) rest → reads (at.expr_start k) ts
  expr_read k (Expression.expression {t = t} p) h = parts_read k t.at 0 [] p h

  -- an expression where something else might stand, which begins with other tokens
  expr_from : {ts rest : List TokenAt} {e : Expr} (s : State) (k : Context)
      → ((t : TokenAt) → IsStart t → step s t ≡ expr_step k t.at 0 [] t) → Expression ts rest e
      → reads (at.after_part k e.at 0 e.parts) rest → reads s ts
  expr_from s k is (Expression.expression {t = t} p) h = rw (is t (start_of p)) (parts_read k t.at 0 [] p h)

  -- ---- delays and ranges

  number_read : (k : Delayed) (ts : List TokenAt) → reads (after_delay k) ts → reads (at.delay_number k) ts
  number_read (net_delay u what r) ts h =
      optional (at.net_name u what r) (at.delay_number (net_delay u what r)) (at.delay_fraction (net_delay u what r)) fixed.Dot (λ t. refl) (λ t. no_dot (net_delay u what r) t) refl ts h
  number_read (gate_delay u kind p) ts h =
      optional (at.gate_name u kind p) (at.delay_number (gate_delay u kind p)) (at.delay_fraction (gate_delay u kind p)) fixed.Dot (λ t. refl) (λ t. no_dot (gate_delay u kind p) t) refl ts h
  number_read (instance_delay u d) ts h =
      optional (at.instance_name u d) (at.delay_number (instance_delay u d)) (at.delay_fraction (instance_delay u d)) fixed.Dot (λ t. refl) (λ t. no_dot (instance_delay u d) t) refl ts h
  number_read (assign_delay u) ts h =
      optional (at.expr_start (left u)) (at.delay_number (assign_delay u)) (at.delay_fraction (assign_delay u)) fixed.Dot (λ t. refl) (λ t. no_dot (assign_delay u) t) refl ts h

  balanced_read : {ts rest : List TokenAt} (k : Delayed) (d : ℕ) → Balanced ts rest → reads (leave_delay k d) rest → reads (at.in_delay k d) ts
  balanced_read k d Balanced.here h = h
  balanced_read k d (Balanced.pair b c) h = balanced_read k (suc d) b (balanced_read k d c h)
  balanced_read k d (Balanced.further e f b) h = rw (e, f) (balanced_read k d b h)

  delay_read : {ts rest : List TokenAt} (s : State) (k : Delayed)
      → ((p : ℕ) → step s (quote p fixed.Hash) ≡ Ok (at.delay k)) → Delay ts rest → reads (after_delay k) rest
      → reads s ts
  delay_read {rest = rest} s k is (Delay.whole {p = p} e) h = rw (is p, e) (number_read k rest h)
  delay_read s k is (Delay.fraction {p = p} e f) h = rw (is p, e, f) h
  delay_read s k is (Delay.tokens {p = p} b) h = rw (is p) (balanced_read k 0 b h)

  may_delay_read : {ts rest : List TokenAt} (s : State) (k : Delayed)
      → ((t : TokenAt) → step s t ≡ on fixed.Hash t (at.delay k) (step (after_delay k) t)) → MayDelay ts rest
      → reads (after_delay k) rest → reads s ts
  may_delay_read {ts = ts} s k is MayDelay.none h = optional (after_delay k) s (at.delay k) fixed.Hash is (no_hash k) (delay_ends stop k) ts h
  may_delay_read s k is (MayDelay.some d) h = delay_read s k (λ p. is (quote p fixed.Hash)) d h

  bounds_read : {ts rest : List TokenAt} {r : ℕ × ℕ} (s : State) (k : Ranged)
      → ((p : ℕ) → step s (quote p fixed.SquareOpen) ≡ Ok (at.range_first k)) → Bounds ts rest r
      → reads (after_range k (Some r)) rest → reads s ts
  bounds_read s k is (Bounds.bounds {p = p} e f) h = rw (is p, e, f) h

  -- ---- attributes and specify blocks

  star_read : {ts rest : List TokenAt} (k : Place) → UntilStar ts rest → reads (after_attr k) rest → reads (at.in_attr k) ts
  star_read k UntilStar.here h = h
  star_read k (UntilStar.further e d) h = rw e (star_read k d h)
  star_read k (UntilStar.star e d) h = rw e (star_read k d h)

  attribute_read : {ts rest : List TokenAt} (s : State) (k : Place)
      → ((p : ℕ) → step s (quote p fixed.Open) ≡ Ok (at.attr_open k)) → Attribute ts rest → reads (after_attr k) rest
      → reads s ts
  attribute_read s k is (Attribute.attribute {p = p} d) h = rw (is p) (star_read k d h)

  specify_read : {ts rest : List TokenAt} (u : Under) → Until fixed.Endspecify ts rest → reads (at.in_items u) rest → reads (at.in_specify u) ts
  specify_read u Until.here h = h
  specify_read u (Until.further e d) h = rw e (specify_read u d h)

  -- ---- declarations

  -- two states that do the same at a name
  name_first : {ts rest : List TokenAt} {ws : List Word} (s wide : State)
      → ((w : Word) → step wide (name w) ≡ step s (name w)) → Listed OneName ts rest ws → reads s ts → reads wide ts
  name_first s wide is (Listed.last (OneName.one {w = w})) h = rw (is w) h
  name_first s wide is (Listed.next (OneName.one {w = w}) d) h = rw (is w) h

  declared_read : {ts rest : List TokenAt} {ws : List Word} (what : NetKind) (r : Range) (b : Source) (n : Word) (ps : List Word) (is : List Item)
      → Listed OneName ts rest ws
      → reads (at.after_declared (under b n ps (is ++ map (declares what r) ws)) what r) rest → reads (at.declared_name (under b n ps is) what r) ts
  declared_read what r b n ps is (Listed.last OneName.one) h = h
  declared_read what r b n ps is (Listed.next (OneName.one {w = w}) d) h = declared_read what r b n ps (is ++ declares what r w ∷ []) d (rw append_assoc h)

  direction_read : {ts mid rest : List TokenAt} {r : Range} {ws : List Word} (what : NetKind) (b : Source) (n : Word) (ps : List Word) (is : List Item)
      → WireRange None ts mid r → Listed OneName mid rest ws
      → reads (at.after_declared (under b n ps (is ++ map (declares what r) ws)) what r) rest → reads (at.direction (under b n ps is) what) ts
  direction_read what b n ps is WireRange.plain l h =
      name_first (at.declared_name (under b n ps is) what None) (at.direction (under b n ps is) what) (λ w. refl) l (declared_read what None b n ps is l h)
  direction_read what b n ps is (WireRange.range {r = r} d) l h =
      bounds_read (at.direction (under b n ps is) what) (declared_range (under b n ps is) what) (λ p. refl) d (declared_read what (Some r) b n ps is l h)
  direction_read what b n ps is WireRange.wire l h =
      name_first (at.declared_name (under b n ps is) what None) (at.direction_wire (under b n ps is) what) (λ w. refl) l (declared_read what None b n ps is l h)
  direction_read what b n ps is (WireRange.wire_range {r = r} d) l h =
      bounds_read (at.direction_wire (under b n ps is) what) (declared_range (under b n ps is) what) (λ p. refl) d (declared_read what (Some r) b n ps is l h)

  nets_read : (what : NetKind) (r : Range) {ts rest : List TokenAt} {js : List Item} {q : ℕ} (b : Source) (n : Word) (ps : List Word) (is : List Item)
      → Listed (NetName what r) ts (quote q fixed.Semi ∷ rest) js
      → reads (at.in_items (under b n ps (is ++ js))) rest → reads (at.net_name (under b n ps is) what r) ts
  nets_read what r b n ps is (Listed.last NetName.plain) h = h
  nets_read what r b n ps is (Listed.last (NetName.valued {w = w} e x)) h = rw e (expr_read (declared (under b n ps is) what r w) x h)
  nets_read what r b n ps is (Listed.next (NetName.plain {w = w}) d) h = nets_read what r b n ps (is ++ declares what r w ∷ []) d (rw append_assoc h)
  nets_read what r b n ps is (Listed.next (NetName.valued {w = w} {e = v} e x) d) h =
      rw e (expr_read (declared (under b n ps is) what r w) x (nets_read what r b n ps (is ++ declare_of what r w (Some v) ∷ []) d (rw append_assoc h)))

  net_read : (what : NetKind) (r : Range) {ts mid from rest : List TokenAt} {js : List Item} {q : ℕ} (b : Source) (n : Word) (ps : List Word) (is : List Item)
      → MayRange ts mid r → MayDelay mid from
      → Listed (NetName what r) from (quote q fixed.Semi ∷ rest) js → reads (at.in_items (under b n ps (is ++ js))) rest → reads (at.net_kind (under b n ps is) what) ts
  net_read what r {ts = ts} b n ps is MayRange.none m l h =
      optional (at.net_ranged (under b n ps is) what None) (at.net_kind (under b n ps is) what) (at.range_first (net_range (under b n ps is) what)) fixed.SquareOpen (λ t. refl) (λ t e. rw e refl) refl ts
      (may_delay_read (at.net_ranged (under b n ps is) what None) (net_delay (under b n ps is) what None) (λ t. refl) m (nets_read what None b n ps is l h))
  net_read what r b n ps is (MayRange.some {r = x} d) m l h =
      bounds_read (at.net_kind (under b n ps is) what) (net_range (under b n ps is) what) (λ p. refl) d
      (may_delay_read (at.net_ranged (under b n ps is) what (Some x)) (net_delay (under b n ps is) what (Some x)) (λ t. refl) m (nets_read what (Some x) b n ps is l h))

  -- ---- gates

  terminals_read : {ts rest : List TokenAt} {fs : List Expr} {q : ℕ} (u : Under) (kind : GateKind) (p : ℕ) (es : List Expr)
      → Listed Expression ts (quote q fixed.Close ∷ rest) fs
      → reads (at.after_gate (with_item u (gate_of kind p (es ++ fs))) kind p) rest → reads (at.expr_start (terminal u kind p es)) ts
  terminals_read u kind p es (Listed.last e) h = expr_read (terminal u kind p es) e h
  terminals_read u kind p es (Listed.next {x = x} e d) h = expr_read (terminal u kind p es) e (terminals_read u kind p (es ++ x ∷ []) d (rw append_assoc h))

  gate_read : (kind : GateKind) (p : ℕ) {ts rest : List TokenAt} {i : Item} (u : Under) → OneGate kind p ts rest i
      → reads (at.after_gate (with_item u i) kind p) rest → reads (at.gate_name u kind p) ts
  gate_read kind p u (OneGate.plain l) h = terminals_read u kind p [] l h
  gate_read kind p u (OneGate.named l) h = terminals_read u kind p [] l h

  gates_read : (kind : GateKind) (p : ℕ) {ts rest : List TokenAt} {js : List Item} {q : ℕ} (b : Source) (n : Word) (ps : List Word) (is : List Item)
      → Listed (OneGate kind p) ts (quote q fixed.Semi ∷ rest) js
      → reads (at.in_items (under b n ps (is ++ js))) rest → reads (at.gate_name (under b n ps is) kind p) ts
  gates_read kind p b n ps is (Listed.last g) h = gate_read kind p (under b n ps is) g h
  gates_read kind p b n ps is (Listed.next {x = i} g d) h = gate_read kind p (under b n ps is) g (gates_read kind p b n ps (is ++ i ∷ []) d (rw append_assoc h))

  -- ---- instances

  positions_read : {ts rest : List TokenAt} {cs : List Connection} {q : ℕ} (u : Under) (d : Word) (n : Option Word) (had : List Connection)
      → Listed MayConnect ts (quote q fixed.Close ∷ rest) cs
      → reads (at.after_instance (with_item u (instance_of d n (Positional (had ++ cs)))) d) rest → reads (at.connection u d n had) ts
  positions_read u d n had (Listed.last MayConnect.none) h = h
  positions_read u d n had (Listed.last (MayConnect.some e)) h =
      expr_from (at.connection u d n had) (connected u d n had) (λ t s. rw (s.close, s.comma) refl) e h
  positions_read u d n had (Listed.next {x = c} MayConnect.none l) h = positions_read u d n (had ++ c ∷ []) l (rw append_assoc h)
  positions_read u d n had (Listed.next {x = c} (MayConnect.some e) l) h =
      expr_from (at.connection u d n had) (connected u d n had) (λ t s. rw (s.close, s.comma) refl) e (positions_read u d n (had ++ c ∷ []) l (rw append_assoc h))

  by_name_read : {ts rest : List TokenAt} {cs : List NamedConnection} {q : ℕ} (u : Under) (d : Word) (n : Option Word) (had : List NamedConnection)
      → Listed OneNamed ts (quote q fixed.Close ∷ rest) cs
      → reads (at.after_instance (with_item u (instance_of d n (Named (had ++ cs)))) d) rest → reads (at.connection_dot u d n had) ts
  by_name_read u d n had (Listed.last OneNamed.none) h = h
  by_name_read u d n had (Listed.last (OneNamed.some {w = w} e)) h =
      expr_from (at.connection_value u d n had w) (connected_to u d n had w) (λ t s. rw s.close refl) e h
  by_name_read u d n had (Listed.next {x = c} OneNamed.none l) h = by_name_read u d n (had ++ c ∷ []) l (rw append_assoc h)
  by_name_read u d n had (Listed.next {x = c} (OneNamed.some {w = w} e) l) h =
      expr_from (at.connection_value u d n had w) (connected_to u d n had w) (λ t s. rw s.close refl) e (by_name_read u d n (had ++ c ∷ []) l (rw append_assoc h))

  dot_first : {ts rest : List TokenAt} {cs : List NamedConnection} (u : Under) (d : Word) (n : Option Word)
      → Listed OneNamed ts rest cs → reads (at.connection_dot u d n []) ts → reads (at.connections u d n) ts
  dot_first u d n (Listed.last OneNamed.none) h = h
  dot_first u d n (Listed.last (OneNamed.some e)) h = h
  dot_first u d n (Listed.next OneNamed.none l) h = h
  dot_first u d n (Listed.next (OneNamed.some e) l) h = h

  connecting_read : {ts rest : List TokenAt} {cs : Connections} {q : ℕ} (u : Under) (d : Word) (n : Option Word) → Connecting ts (quote q fixed.Close ∷ rest) cs
      → reads (at.after_instance (with_item u (instance_of d n cs)) d) rest → reads (at.connections u d n) ts
  connecting_read u d n Connecting.nothing h = h
  connecting_read u d n (Connecting.one e) h = expr_from (at.connections u d n) (connected u d n []) (λ t s. rw (s.close, s.comma, s.dot) refl) e h
  connecting_read u d n (Connecting.several {c = c} MayConnect.none l) h = positions_read u d n (c ∷ []) l h
  connecting_read u d n (Connecting.several {c = c} (MayConnect.some e) l) h =
      expr_from (at.connections u d n) (connected u d n []) (λ t s. rw (s.close, s.comma, s.dot) refl) e (positions_read u d n (c ∷ []) l h)
  connecting_read u d n (Connecting.named l) h = dot_first u d n l (by_name_read u d n [] l h)

  instance_read : (d : Word) {ts rest : List TokenAt} {i : Item} (u : Under) → OneInstance d ts rest i
      → reads (at.after_instance (with_item u i) d) rest → reads (at.instance_name u d) ts
  instance_read d u (OneInstance.plain c) h = connecting_read u d None c h
  instance_read d u (OneInstance.named {w = w} c) h = connecting_read u d (Some w) c h

  instances_read : (d : Word) {ts rest : List TokenAt} {js : List Item} {q : ℕ} (b : Source) (n : Word) (ps : List Word) (is : List Item)
      → Listed (OneInstance d) ts (quote q fixed.Semi ∷ rest) js
      → reads (at.in_items (under b n ps (is ++ js))) rest → reads (at.instance_name (under b n ps is) d) ts
  instances_read d b n ps is (Listed.last i) h = instance_read d (under b n ps is) i h
  instances_read d b n ps is (Listed.next {x = x} i l) h = instance_read d (under b n ps is) i (instances_read d b n ps (is ++ x ∷ []) l (rw append_assoc h))

  -- ---- assignments and items

  assigns_read : {ts rest : List TokenAt} {js : List Item} {q : ℕ} (b : Source) (n : Word) (ps : List Word) (is : List Item)
      → Listed OneAssign ts (quote q fixed.Semi ∷ rest) js
      → reads (at.in_items (under b n ps (is ++ js))) rest → reads (at.expr_start (left (under b n ps is))) ts
  assigns_read b n ps is (Listed.last (OneAssign.assign {l = l} e f)) h = expr_read (left (under b n ps is)) e (expr_read (right (under b n ps is) l) f h)
  assigns_read b n ps is (Listed.next {x = x} (OneAssign.assign {l = l} e f) d) h =
      expr_read (left (under b n ps is)) e (expr_read (right (under b n ps is) l) f (assigns_read b n ps (is ++ x ∷ []) d (rw append_assoc h)))

  item_read : {ts rest : List TokenAt} {js : List Item} (b : Source) (n : Word) (ps : List Word) (is : List Item) → OneItem ts rest js
      → reads (at.in_items (under b n ps (is ++ js))) rest → reads (at.in_items (under b n ps is)) ts
  item_read b n ps is (OneItem.attribute a) h =
      attribute_read (at.in_items (under b n ps is)) (in_module (under b n ps is)) (λ p. refl) a (rw (← append-nil is) h)
  item_read b n ps is (OneItem.directed Direction.input r l) h = direction_read net.Input b n ps is r l h
  item_read b n ps is (OneItem.directed Direction.output r l) h = direction_read net.Output b n ps is r l h
  item_read b n ps is (OneItem.nets {r = x} Net.wire r m l) h = net_read net.Wire x b n ps is r m l h
  item_read b n ps is (OneItem.nets {r = x} Net.tri r m l) h = net_read net.Wire x b n ps is r m l h
  item_read b n ps is (OneItem.nets {r = x} Net.supply0 r m l) h = net_read net.Supply0 x b n ps is r m l h
  item_read b n ps is (OneItem.nets {r = x} Net.supply1 r m l) h = net_read net.Supply1 x b n ps is r m l h
  item_read b n ps is (OneItem.regs l) h = declared_read net.Reg None b n ps is l h
  item_read b n ps is (OneItem.gates {p = p} {kind = kind} m l) h =
      may_delay_read (at.gate_kind (under b n ps is) kind p) (gate_delay (under b n ps is) kind p) (λ t. refl) m (gates_read kind p b n ps is l h)
  item_read b n ps is (OneItem.instances {d = d} e m l) h =
      rw e (may_delay_read (at.definition (under b n ps is) d) (instance_delay (under b n ps is) d) (λ t. refl) m (instances_read d b n ps is l h))
  item_read b n ps is (OneItem.assigns m l) h =
      may_delay_read (at.assign (under b n ps is)) (assign_delay (under b n ps is)) (λ t. refl) m (assigns_read b n ps is l h)
  item_read b n ps is (OneItem.specify d) h = specify_read (under b n ps is) d (rw (← append-nil is) h)

  items_read : {ts rest : List TokenAt} {js : List Item} (b : Source) (n : Word) (ps : List Word) (is : List Item) → Items ts rest js
      → reads (at.in_items (under b n ps (is ++ js))) rest → reads (at.in_items (under b n ps is)) ts
  items_read b n ps is Items.none h = rw (← append-nil is) h
  items_read b n ps is (Items.more {is = js} i d) h = item_read b n ps is i (items_read b n ps (is ++ js) d (rw append_assoc h))

  -- ---- modules

  ports_read : {ts rest : List TokenAt} {ws : List Word} (b : Source) (n : Word) (ps : List Word)
      → Listed OneName ts rest ws → reads (at.after_port b n (ps ++ ws)) rest → reads (at.port b n ps) ts
  ports_read b n ps (Listed.last OneName.one) h = h
  ports_read b n ps (Listed.next (OneName.one {w = w}) d) h = ports_read b n (ps ++ w ∷ []) d (rw append_assoc h)

  port_direction_read : {ts rest : List TokenAt} {r : Range} {w : Word} (what : NetKind) (had : Range) (u : Under) → WireRange had ts (name w ∷ rest) r
      → reads (at.after_declared_port (with_port u what r w) what r) rest → reads (at.port_direction u what had) ts
  port_direction_read what had u WireRange.plain h = h
  port_direction_read what had u (WireRange.range d) h = bounds_read (at.port_direction u what had) (port_range u what) (λ p. refl) d h
  port_direction_read what had u WireRange.wire h = h
  port_direction_read what had u (WireRange.wire_range d) h = bounds_read (at.port_wire u what had) (port_range u what) (λ p. refl) d h

  directed_read : {ts rest : List TokenAt} {x : Port} (s : State) (u : Under)
      → ((p : ℕ) → step s (quote p fixed.Input) ≡ Ok (at.port_direction u net.Input None))
      → ((p : ℕ) → step s (quote p fixed.Output) ≡ Ok (at.port_direction u net.Output None)) → Directed ts rest x
      → reads (at.after_declared_port (with_port u x.what x.range x.name) x.what x.range) rest → reads s ts
  directed_read s u i o (Directed.directed {p = p} Direction.input d) h = rw (i p) (port_direction_read net.Input None u d h)
  directed_read s u i o (Directed.directed {p = p} Direction.output d) h = rw (o p) (port_direction_read net.Output None u d h)

  undirected_read : {ts rest : List TokenAt} {r : Range} {w : Word} (what : NetKind) (had : Range) (u : Under) → WireRange had ts (name w ∷ rest) r
      → reads (at.after_declared_port (with_port u what r w) what r) rest → reads (at.declared_port u what had) ts
  undirected_read what had u WireRange.plain h = h
  undirected_read what had u (WireRange.range d) h = bounds_read (at.declared_port u what had) (port_range u what) (λ p. refl) d h
  undirected_read what had u WireRange.wire h = h
  undirected_read what had u (WireRange.wire_range d) h = bounds_read (at.port_wire u what had) (port_range u what) (λ p. refl) d h

  declared_port_read : (what : NetKind) (had : Range) {ts rest : List TokenAt} {x : Port} (u : Under) → DeclaredPort what had ts rest x
      → reads (at.after_declared_port (with_port u x.what x.range x.name) x.what x.range) rest → reads (at.declared_port u what had) ts
  declared_port_read what had u (DeclaredPort.directed d) h = directed_read (at.declared_port u what had) u (λ p. refl) (λ p. refl) d h
  declared_port_read what had u (DeclaredPort.undirected d) h = undirected_read what had u d h

  declared_ports_read : {what : NetKind} {had : Range} {ts rest : List TokenAt} {xs : List Port} {q : ℕ} (b : Source) (n : Word) (ps : List Word) (is : List Item)
      → DeclaredPorts what had ts (quote q fixed.Close ∷ rest) xs
      → reads (at.head_end (under b n (ps ++ map (λ (y : Port). y.name) xs) (is ++ map declare_port xs))) rest → reads (at.declared_port (under b n ps is) what had) ts
  declared_ports_read {what = what} {had = had} b n ps is (DeclaredPorts.last d) h = declared_port_read what had (under b n ps is) d h
  declared_ports_read {what = what} {had = had} b n ps is (DeclaredPorts.next {p = x} d l) h =
      declared_port_read what had (under b n ps is) d (declared_ports_read b n (ps ++ x.name ∷ []) (is ++ declare_port x ∷ []) l (rw (append_assoc, append_assoc) h))

  head_read : {ts rest : List TokenAt} {ps : List Word} {ds : List Item} {q : ℕ} (b : Source) (n : Word) → Head ts (quote q fixed.Semi ∷ rest) ps ds
      → reads (at.in_items (under b n ps ds)) rest → reads (at.after_name b n) ts
  head_read b n Head.none h = h
  head_read b n Head.empty h = h
  head_read b n (Head.names (Listed.last OneName.one)) h = h
  head_read b n (Head.names (Listed.next (OneName.one {w = w}) d)) h = ports_read b n (w ∷ []) d h
  head_read b n (Head.one_port d) h = directed_read (at.first_port b n) (under b n [] []) (λ p. refl) (λ p. refl) d h
  head_read b n (Head.ports {x = x} d l) h =
      directed_read (at.first_port b n) (under b n [] []) (λ p. refl) (λ p. refl) d (declared_ports_read b n (x.name ∷ []) (declare_port x ∷ []) l h)

  module_read : {ts rest : List TokenAt} {m : Module} (b : Source) → OneModule ts rest m → reads (at.top (joined b (one_module m))) rest → reads (at.top b) ts
  module_read b (OneModule.«module» {n = n} {ps = ps} {ds = ds} d i) h = head_read b n d (items_read b n ps ds i h)

  -- ---- the heads of primitives

  pins_read : {ts rest : List TokenAt} {ws : List Word} (b : Source) (n : Word) (ps : List Word)
      → Listed OneName ts rest ws → reads (at.after_pin b n (ps ++ ws)) rest → reads (at.pin b n ps) ts
  pins_read b n ps (Listed.last OneName.one) h = h
  pins_read b n ps (Listed.next (OneName.one {w = w}) d) h = pins_read b n (ps ++ w ∷ []) d (rw append_assoc h)

  input_pins_read : {ts rest : List TokenAt} {ws : List Word} (b : Source) (n : Word) (ps : List Word) (ds : List PrimDeclare) → Listed InputPin ts rest ws
      → reads (at.after_input (within b n (ps ++ ws) (ds ++ map (prim_declare Input) ws) [])) rest → reads (at.input_pin (within b n ps ds [])) ts
  input_pins_read b n ps ds (Listed.last InputPin.plain) h = h
  input_pins_read b n ps ds (Listed.last InputPin.input) h = h
  input_pins_read b n ps ds (Listed.next {x = w} InputPin.plain l) h =
      input_pins_read b n (ps ++ w ∷ []) (ds ++ prim_declare Input w ∷ []) l (rw (append_assoc, append_assoc) h)
  input_pins_read b n ps ds (Listed.next {x = w} InputPin.input l) h =
      input_pins_read b n (ps ++ w ∷ []) (ds ++ prim_declare Input w ∷ []) l (rw (append_assoc, append_assoc) h)

  inputs_read : {ts rest : List TokenAt} {ws : List Word} (b : Source) (n : Word) (ps : List Word) (ds : List PrimDeclare) → InputPins ts rest ws
      → reads (at.after_input (within b n (ps ++ ws) (ds ++ map (prim_declare Input) ws) [])) rest → reads (at.first_input (within b n ps ds [])) ts
  inputs_read b n ps ds InputPins.one h = h
  inputs_read b n ps ds (InputPins.more {w = w} l) h =
      input_pins_read b n (ps ++ w ∷ []) (ds ++ prim_declare Input w ∷ []) l (rw (append_assoc, append_assoc) h)

  start_read : (w : Word) {ts rest : List TokenAt} {es : List PrimDeclare} {q : ℕ} (b : Source) (n : Word) (ps : List Word) (ds : List PrimDeclare)
      → MayStart w ts (quote q fixed.Comma ∷ rest) es
      → reads (at.first_input (within b n ps (ds ++ es) [])) rest → reads (at.after_output (within b n ps ds []) w) ts
  start_read w b n ps ds MayStart.none h = rw (← append-nil ds) h
  start_read w b n ps ds (MayStart.some e) h = rw e h

  output_read : {ts rest : List TokenAt} {w : Word} {ds : List PrimDeclare} {q : ℕ} (b : Source) (n : Word) → OutputPin ts (quote q fixed.Comma ∷ rest) w ds
      → reads (at.first_input (within b n (w ∷ []) ds [])) rest → reads (at.output_pin b n) ts
  output_read b n (OutputPin.plain {w = w} d) h = start_read w b n (w ∷ []) (prim_declare Output w ∷ []) d h
  output_read b n (OutputPin.reg {w = w} d) h = start_read w b n (w ∷ []) (prim_declare Output w ∷ prim_declare Reg w ∷ []) d h

  all_pins_read : {ts rest : List TokenAt} {ws : List Word} {ds : List PrimDeclare} {q : ℕ} (b : Source) (n : Word) → Pins ts (quote q fixed.Close ∷ rest) ws ds
      → reads (at.primitive_head_end (within b n ws ds [])) rest → reads (at.first_pin b n) ts
  all_pins_read b n (Pins.names (Listed.last OneName.one)) h = h
  all_pins_read b n (Pins.names (Listed.next (OneName.one {w = w}) d)) h = pins_read b n (w ∷ []) d h
  all_pins_read b n (Pins.declared {w = w} {ds = ds} o i) h = output_read b n o (inputs_read b n (w ∷ []) ds i h)

  -- ---- the declarations and tables of primitives

  declared_inputs_read : {ts rest : List TokenAt} {ws : List Word} {q : ℕ} (b : Source) (n : Word) (ps : List Word) (ds : List PrimDeclare)
      → Listed OneName ts (quote q fixed.Semi ∷ rest) ws
      → reads (at.in_primitive (within b n ps (ds ++ map (prim_declare Input) ws) [])) rest → reads (at.input_declared (within b n ps ds [])) ts
  declared_inputs_read b n ps ds (Listed.last OneName.one) h = h
  declared_inputs_read b n ps ds (Listed.next (OneName.one {w = w}) d) h = declared_inputs_read b n ps (ds ++ prim_declare Input w ∷ []) d (rw append_assoc h)

  pin_declare_read : {ts rest : List TokenAt} {es : List PrimDeclare} (b : Source) (n : Word) (ps : List Word) (ds : List PrimDeclare) → PinDeclare ts rest es
      → reads (at.in_primitive (within b n ps (ds ++ es) [])) rest → reads (at.in_primitive (within b n ps ds [])) ts
  pin_declare_read b n ps ds PinDeclare.output h = h
  pin_declare_read b n ps ds (PinDeclare.output_reg {w = w}) h = rw (append_assoc ds (prim_declare Output w ∷ []) (prim_declare Reg w ∷ [])) h
  pin_declare_read b n ps ds PinDeclare.reg h = h
  pin_declare_read b n ps ds (PinDeclare.inputs l) h = declared_inputs_read b n ps ds l h
  pin_declare_read b n ps ds (PinDeclare.initial e) h = rw e h

  pin_declares_read : {ts rest : List TokenAt} {es : List PrimDeclare} (b : Source) (n : Word) (ps : List Word) (ds : List PrimDeclare) → PinDeclares ts rest es
      → reads (at.in_primitive (within b n ps (ds ++ es) [])) rest → reads (at.in_primitive (within b n ps ds [])) ts
  pin_declares_read b n ps ds PinDeclares.none h = rw (← append-nil ds) h
  pin_declares_read b n ps ds (PinDeclares.more {ds = es} d l) h = pin_declare_read b n ps ds d (pin_declares_read b n ps (ds ++ es) l (rw append_assoc h))

  change_read : {ts rest : List TokenAt} {x : Symbol} (s : State) (k : Column)
      → ((p : ℕ) → step s (quote p fixed.Open) ≡ Ok (at.change_first k)) → OneChange ts rest x
      → reads (after_symbol k x) rest → reads s ts
  change_read s k is (OneChange.joined {p = p} e) h = rw (is p, e) h
  change_read s k is (OneChange.apart {p = p} e f) h = rw (is p, e, f) h

  -- the entries that a row has had, and those of a token
  entry_read : {ts rest : List TokenAt} {es : List Symbol} (s : State) (p : Within) (had : List Symbol)
      → ((q : ℕ) → step s (quote q fixed.Open) ≡ Ok (at.change_first (entry p had)))
      → ((t : TokenAt) (b : ℕ) (bs : List ℕ) → symbols_of t.what ≡ b ∷ bs → step s t ≡ Ok (at.in_row p (had ++ singles (b ∷ bs)))) → Entry ts rest es
      → reads (at.in_row p (had ++ es)) rest → reads s ts
  entry_read s p had is by (Entry.bytes {b = b} {bs = bs} {t = t} e) h = rw (by t b bs e) h
  entry_read s p had is by (Entry.change d) h = change_read s (entry p had) is d h

  entries_read : {ts rest : List TokenAt} {es : List Symbol} (s : State) (p : Within) (had : List Symbol)
      → ((q : ℕ) → step s (quote q fixed.Open) ≡ Ok (at.change_first (entry p had)))
      → ((t : TokenAt) (b : ℕ) (bs : List ℕ) → symbols_of t.what ≡ b ∷ bs → step s t ≡ Ok (at.in_row p (had ++ singles (b ∷ bs)))) → Entries ts rest es
      → reads (at.in_row p (had ++ es)) rest → reads s ts
  entries_read s p had is by (Entries.last e) h = entry_read s p had is by e h
  entries_read s p had is by (Entries.next {es = es} e l) h =
      entry_read s p had is by e (entries_read (at.in_row p (had ++ es)) p (had ++ es) (λ q. refl) (λ t b bs e. rw e refl) l (rw append_assoc h))

  symbol_read : {ts rest : List TokenAt} {x : Symbol} (s : State) (k : Column) → ((q : ℕ) → step s (quote q fixed.Open) ≡ Ok (at.change_first k))
      → ((t : TokenAt) (b : ℕ) → symbols_of t.what ≡ b ∷ [] → step s t ≡ Ok (after_symbol k (Single b))) → OneSymbol ts rest x → reads (after_symbol k x) rest → reads s ts
  symbol_read s k is by (OneSymbol.single {b = b} {t = t} e) h = rw (by t b e) h
  symbol_read s k is by (OneSymbol.change d) h = change_read s k is d h

  -- a row from its first entry on
  row_read : {q : Bool} {ts rest : List TokenAt} {r : RawRow} (s : State) (p : Within)
      → ((i : ℕ) → step s (quote i fixed.Open) ≡ Ok (at.change_first (entry p [])))
      → ((t : TokenAt) (b : ℕ) (bs : List ℕ) → symbols_of t.what ≡ b ∷ bs → step s t ≡ Ok (at.in_row p (singles (b ∷ bs)))) → is_sequential p.declarations ≡ q → Row q ts rest r
      → reads (at.in_rows (with_row p r)) rest → reads s ts
  row_read s p is by z (Row.combinational {es = es} e o) h =
      entries_read s p [] is by e (rw z (symbol_read (at.row_output p es None) (output p es None) (λ q. refl) (λ t b e. rw e refl) o h))
  row_read s p is by z (Row.sequential {es = es} {s = x} e m o) h =
      entries_read s p [] is by e (rw z (symbol_read (at.row_state p es) (state p es) (λ q. refl) (λ t b e. rw e refl) m
      (symbol_read (at.row_output p es (Some x)) (output p es (Some x)) (λ q. refl) (λ t b e. rw e refl) o h)))

  rows_read : (q : Bool) {ts rest : List TokenAt} {rs : List RawRow} (s : State) (b : Source) (n : Word) (ps : List Word) (ds : List PrimDeclare) (had : List RawRow)
      → ((i : ℕ) → step s (quote i fixed.Open) ≡ Ok (at.change_first (entry (within b n ps ds had) [])))
      → ((t : TokenAt) (c : ℕ) (cs : List ℕ) → symbols_of t.what ≡ c ∷ cs → step s t ≡ Ok (at.in_row (within b n ps ds had) (singles (c ∷ cs)))) → is_sequential ds ≡ q → Rows q ts rest rs
      → reads (at.in_rows (within b n ps ds (had ++ rs))) rest → reads s ts
  rows_read q s b n ps ds had is by z (Rows.last r) h = row_read s (within b n ps ds had) is by z r h
  rows_read q s b n ps ds had is by z (Rows.next {r = x} r l) h =
      row_read s (within b n ps ds had) is by z r
      (rows_read q (at.in_rows (within b n ps ds (had ++ x ∷ []))) b n ps ds (had ++ x ∷ []) (λ i. refl) (λ t c cs e. rw e refl) z l (rw append_assoc h))

  primitive_read : {ts rest : List TokenAt} {p : Primitive} (b : Source) → OnePrimitive ts rest p
      → reads (at.top (joined b (one_primitive p))) rest → reads (at.top b) ts
  primitive_read b (OnePrimitive.primitive {n = n} {ws = ws} {ds = ds} {es = es} i d r) h =
      all_pins_read b n i (pin_declares_read b n ws ds d
      (rows_read (is_sequential (ds ++ es)) (at.first_row (within b n ws (ds ++ es) [])) b n ws (ds ++ es) [] (λ i. refl) (λ t c cs e. rw e refl) refl r h))

-- ---- texts

text_read : {ts : List TokenAt} {s : Source} (stop : TokenAt) (b : Source) → stop.what ≡ ending → Text ts s → run (at.top b) ts stop ≡ Ok (joined b s)
text_read stop b e Text.none = rw (e, append-nil b.modules, append-nil b.primitives) refl
text_read stop b e (Text.attribute {s = s} a d) = attribute_read stop (joined b s) (at.top b) (at_top b) (λ p. refl) a (text_read stop b e d)
text_read stop b e (Text.modules {m = m} {s = s} d t) =
    module_read stop (joined b (joined (one_module m) s)) b d (text_read stop (joined b (one_module m)) e t ∙ ap (λ (x : Source). Ok x) (joined_assoc b (one_module m) s))
text_read stop b e (Text.primitives {p = p} {s = s} d t) =
    primitive_read stop (joined b (joined (one_primitive p) s)) b d (text_read stop (joined b (one_primitive p)) e t ∙ ap (λ (x : Source). Ok x) (joined_assoc b (one_primitive p) s))

-- What is in the grammar is read.
pub is_read : {ts : List TokenAt} {s : Source} (stop : TokenAt) → stop.what ≡ ending → Text ts s → run (at.top nothing) ts stop ≡ Ok s
is_read stop e t = text_read stop nothing e t
