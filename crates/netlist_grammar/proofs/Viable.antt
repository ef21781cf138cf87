-- The first token that the machine refuses is the first that no text of the grammar continues with.
use Rattle.std.proofs.Common.{◌≡◌, ℕ, zero, suc, Bool, true, false, cond, List, [], ◌∷◌, ◌++◌, Option, Some, None, Ok}
use Rattle.std.proofs.Common.{Err, refl, sym, ap, subst, ◌∙◌, append_assoc}
use Rattle.design_cell.specs.declared.symbol.Symbol.{Symbol}
use Rattle.design_cell.specs.declared.symbol.Symbol.TheVariants.{Single, Change}
use Rattle.netlist_grammar.specs.Numbers.{int_of, bit_of}
use Rattle.netlist_grammar.specs.Machine.Place.{at_top, in_module}
use Rattle.netlist_grammar.specs.Machine.Ranged.{port_range, declared_range, net_range}
use Rattle.netlist_grammar.specs.Machine.Delayed.{net_delay, gate_delay, instance_delay, assign_delay}
use Rattle.netlist_grammar.specs.Machine.Context.{terminal, left, right, declared, connected, connected_to}
use Rattle.netlist_grammar.specs.Machine.Column.{entry, state, output}
use Rattle.netlist_grammar.specs.declared.fixed.Fixed.{Fixed}
use Rattle.netlist_grammar.specs.declared.fixed.Fixed.TheVariants as fixed
use Rattle.netlist_grammar.specs.declared.refusal.ParseErr.{ParseErr}
use Rattle.netlist_grammar.specs.declared.tree.Word.{Word}
use Rattle.netlist_grammar.specs.declared.tree.Part.{Part}
use Rattle.netlist_grammar.specs.declared.tree.GateKind.{GateKind}
use Rattle.netlist_grammar.specs.declared.tree.NetKind.{NetKind}
use Rattle.netlist_grammar.specs.declared.tree.PrimKind.TheVariants.{Output, Input, Reg, Initial}
use Rattle.netlist_grammar.specs.declared.tree.PrimDeclare.{PrimDeclare}
use Rattle.netlist_grammar.specs.declared.tree.Source.{Source}
use Rattle.design_cell.specs.declared.value.Value.TheVariants.{Zero}
use Rattle.std.proofs.lemmas.List.{append-nil}
use Rattle.netlist_grammar.specs.Lexemes.{Lexeme, TokenAt, token_at, ending, is_fixed, gate_kind_of, named_word, int_at}
use Rattle.netlist_grammar.specs.Lexemes.{bit_at, literal_at, symbols_of, is_left_out, fault_of, word_at}
use Rattle.netlist_grammar.specs.Trees.{Range, whole_part, prim_declare, is_sequential, takes_value, nothing, Under, Within, within, with_declare, with_pin}
use Rattle.netlist_grammar.specs.Machine.{State, State as at, Place, Ranged, Delayed, Context, Column, Next, on}
use Rattle.netlist_grammar.specs.Machine.{on_some, on_bytes, on_one_byte, on_few_bytes, then_run, run, step, finish}
use Rattle.netlist_grammar.specs.Machine.{finish_top, expr_step, after_expr, port_step, gate_name_step}
use Rattle.netlist_grammar.specs.Machine.{instance_name_step, after_delay_step, after_delay, after_range, after_attr}
use Rattle.netlist_grammar.specs.Machine.{after_symbol}
use Rattle.netlist_grammar.specs.Rules.{quote, name, digits}
use Rattle.netlist_grammar.specs.Refusal.{IsViable, IsFault, RefusesFirst}
use Rattle.netlist_grammar.specs.declared.refusal.ParseErr.TheVariants.{OutOfProfile}
use Rattle.netlist_grammar.proofs.Follows.{is_read}
use Rattle.netlist_grammar.proofs.Accepts.{is_in_grammar}

-- ---- each state can be finished

abbrev a_word : Word
a_word = word_at 0 (97 ∷ []) false

abbrev a_name : TokenAt
a_name = name a_word

abbrev an_int : TokenAt
an_int = digits 0 (48 ∷ [])

-- two symbols
abbrev a_pair : TokenAt
a_pair = digits 0 (48 ∷ 49 ∷ [])

abbrev semi : TokenAt
semi = quote 0 fixed.Semi

abbrev open_ : TokenAt
open_ = quote 0 fixed.Open

abbrev close : TokenAt
close = quote 0 fixed.Close

abbrev colon : TokenAt
colon = quote 0 fixed.Colon

abbrev square : TokenAt
square = quote 0 fixed.SquareClose

abbrev brace : TokenAt
brace = quote 0 fixed.BraceClose

abbrev equals : TokenAt
equals = quote 0 fixed.Equals

abbrev comma : TokenAt
comma = quote 0 fixed.Comma

abbrev dot : TokenAt
dot = quote 0 fixed.Dot

abbrev star : TokenAt
star = quote 0 fixed.Star

abbrev input : TokenAt
input = quote 0 fixed.Input

abbrev table : TokenAt
table = quote 0 fixed.Table

abbrev endmodule : TokenAt
endmodule = quote 0 fixed.Endmodule

abbrev endspecify : TokenAt
endspecify = quote 0 fixed.Endspecify

abbrev endtable : TokenAt
endtable = quote 0 fixed.Endtable

abbrev endprimitive : TokenAt
endprimitive = quote 0 fixed.Endprimitive

abbrev the_end : TokenAt
the_end = token_at 0 ending

abbrev end_of_items : List TokenAt
end_of_items = endmodule ∷ []

abbrev end_of_place : Place → List TokenAt
end_of_place (at_top b) = []
end_of_place (in_module u) = end_of_items

abbrev end_of_range : Ranged → List TokenAt
end_of_range (port_range u what) = a_name ∷ close ∷ semi ∷ end_of_items
end_of_range (declared_range u what) = a_name ∷ semi ∷ end_of_items
end_of_range (net_range u what) = a_name ∷ semi ∷ end_of_items

abbrev end_of_delay : Delayed → List TokenAt
end_of_delay (net_delay u what r) = a_name ∷ semi ∷ end_of_items
end_of_delay (gate_delay u kind p) = open_ ∷ a_name ∷ close ∷ semi ∷ end_of_items
end_of_delay (instance_delay u d) = open_ ∷ close ∷ semi ∷ end_of_items
end_of_delay (assign_delay u) = a_name ∷ equals ∷ a_name ∷ semi ∷ end_of_items

abbrev end_of : Context → List TokenAt
end_of (terminal u kind p es) = close ∷ semi ∷ end_of_items
end_of (left u) = equals ∷ a_name ∷ semi ∷ end_of_items
end_of (right u l) = semi ∷ end_of_items
end_of (declared u what r w) = semi ∷ end_of_items
end_of (connected u d n cs) = close ∷ semi ∷ end_of_items
end_of (connected_to u d n cs p) = close ∷ close ∷ semi ∷ end_of_items

abbrev braces : ℕ → List TokenAt → List TokenAt
braces zero ts = ts
braces (suc d) ts = brace ∷ braces d ts

abbrev parens : ℕ → List TokenAt → List TokenAt
parens zero ts = close ∷ ts
parens (suc d) ts = close ∷ parens d ts

abbrev end_of_row : List TokenAt
end_of_row = an_int ∷ semi ∷ endtable ∷ endprimitive ∷ []

-- after the colon of a row
abbrev end_by : Bool → List TokenAt
end_by q = cond q (an_int ∷ colon ∷ end_of_row) end_of_row

abbrev end_of_entries : List PrimDeclare → List TokenAt
end_of_entries ds = colon ∷ end_by (is_sequential ds)

abbrev end_of_column : Column → List TokenAt
end_of_column (entry p es) = end_of_entries p.declarations
end_of_column (state p es) = colon ∷ end_of_row
end_of_column (output p es s) = semi ∷ endtable ∷ endprimitive ∷ []

abbrev end_of_primitive : List PrimDeclare → List TokenAt
end_of_primitive ds = table ∷ an_int ∷ end_of_entries ds

abbrev end_of_input : List PrimDeclare → List TokenAt
end_of_input ds = a_name ∷ close ∷ semi ∷ end_of_primitive (ds ++ prim_declare Input a_word ∷ [])

abbrev end_of_inputs : List PrimDeclare → List TokenAt
end_of_inputs ds = comma ∷ input ∷ end_of_input ds

abbrev finishing : State → List TokenAt
finishing (at.top b) = []
finishing (at.attr_open k) = star ∷ star ∷ close ∷ end_of_place k
finishing (at.in_attr k) = star ∷ close ∷ end_of_place k
finishing (at.attr_star k) = close ∷ end_of_place k
finishing (at.module_name b) = a_name ∷ semi ∷ end_of_items
finishing (at.after_name b n) = semi ∷ end_of_items
finishing (at.first_port b n) = close ∷ semi ∷ end_of_items
finishing (at.port b n ps) = a_name ∷ close ∷ semi ∷ end_of_items
finishing (at.after_port b n ps) = close ∷ semi ∷ end_of_items
finishing (at.port_direction u what r) = a_name ∷ close ∷ semi ∷ end_of_items
finishing (at.port_wire u what r) = a_name ∷ close ∷ semi ∷ end_of_items
finishing (at.port_name u what r) = a_name ∷ close ∷ semi ∷ end_of_items
finishing (at.after_declared_port u what r) = close ∷ semi ∷ end_of_items
finishing (at.declared_port u what r) = a_name ∷ close ∷ semi ∷ end_of_items
finishing (at.head_end u) = semi ∷ end_of_items
finishing (at.in_items u) = end_of_items
finishing (at.range_first k) = an_int ∷ colon ∷ an_int ∷ square ∷ end_of_range k
finishing (at.range_colon k a) = colon ∷ an_int ∷ square ∷ end_of_range k
finishing (at.range_second k a) = an_int ∷ square ∷ end_of_range k
finishing (at.range_close k a b) = square ∷ end_of_range k
finishing (at.delay k) = an_int ∷ end_of_delay k
finishing (at.delay_number k) = end_of_delay k
finishing (at.delay_fraction k) = an_int ∷ end_of_delay k
finishing (at.in_delay k d) = parens d (end_of_delay k)
finishing (at.direction u what) = a_name ∷ semi ∷ end_of_items
finishing (at.direction_wire u what) = a_name ∷ semi ∷ end_of_items
finishing (at.declared_name u what r) = a_name ∷ semi ∷ end_of_items
finishing (at.after_declared u what r) = semi ∷ end_of_items
finishing (at.net_kind u what) = a_name ∷ semi ∷ end_of_items
finishing (at.net_ranged u what r) = a_name ∷ semi ∷ end_of_items
finishing (at.net_name u what r) = a_name ∷ semi ∷ end_of_items
finishing (at.after_net u what r w) = semi ∷ end_of_items
finishing (at.gate_kind u kind p) = open_ ∷ a_name ∷ close ∷ semi ∷ end_of_items
finishing (at.gate_name u kind p) = open_ ∷ a_name ∷ close ∷ semi ∷ end_of_items
finishing (at.gate_open u kind p) = open_ ∷ a_name ∷ close ∷ semi ∷ end_of_items
finishing (at.after_gate u kind p) = semi ∷ end_of_items
finishing (at.definition u d) = open_ ∷ close ∷ semi ∷ end_of_items
finishing (at.instance_name u d) = open_ ∷ close ∷ semi ∷ end_of_items
finishing (at.instance_open u d n) = open_ ∷ close ∷ semi ∷ end_of_items
finishing (at.connections u d n) = close ∷ semi ∷ end_of_items
finishing (at.connection u d n cs) = close ∷ semi ∷ end_of_items
finishing (at.connection_dot u d n cs) = dot ∷ a_name ∷ open_ ∷ close ∷ close ∷ semi ∷ end_of_items
finishing (at.connection_port u d n cs) = a_name ∷ open_ ∷ close ∷ close ∷ semi ∷ end_of_items
finishing (at.connection_open u d n cs p) = open_ ∷ close ∷ close ∷ semi ∷ end_of_items
finishing (at.connection_value u d n cs p) = close ∷ close ∷ semi ∷ end_of_items
finishing (at.after_connection u d n cs) = close ∷ semi ∷ end_of_items
finishing (at.after_instance u d) = semi ∷ end_of_items
finishing (at.assign u) = a_name ∷ equals ∷ a_name ∷ semi ∷ end_of_items
finishing (at.expr_start k) = a_name ∷ end_of k
finishing (at.expr k p d ps) = a_name ∷ braces d (end_of k)
finishing (at.after_part_name k p d ps w) = braces d (end_of k)
finishing (at.select k p d ps w) = an_int ∷ square ∷ braces d (end_of k)
finishing (at.after_index k p d ps w n) = square ∷ braces d (end_of k)
finishing (at.select_end k p d ps w n) = an_int ∷ square ∷ braces d (end_of k)
finishing (at.select_close k p d ps w n m) = square ∷ braces d (end_of k)
finishing (at.after_part k p d ps) = braces d (end_of k)
finishing (at.in_specify u) = endspecify ∷ end_of_items
finishing (at.primitive_name b) = a_name ∷ open_ ∷ a_name ∷ close ∷ semi ∷ end_of_primitive []
finishing (at.primitive_open b n) = open_ ∷ a_name ∷ close ∷ semi ∷ end_of_primitive []
finishing (at.first_pin b n) = a_name ∷ close ∷ semi ∷ end_of_primitive []
finishing (at.pin b n ps) = a_name ∷ close ∷ semi ∷ end_of_primitive []
finishing (at.after_pin b n ps) = close ∷ semi ∷ end_of_primitive []
finishing (at.output_pin b n) = a_name ∷ end_of_inputs (prim_declare Output a_word ∷ [])
finishing (at.output_name b n) = a_name ∷ end_of_inputs (prim_declare Output a_word ∷ prim_declare Reg a_word ∷ [])
finishing (at.after_output p w) = end_of_inputs p.declarations
finishing (at.output_bit p w) = an_int ∷ end_of_inputs (p.declarations ++ prim_declare (Initial Zero) w ∷ [])
finishing (at.output_comma p) = end_of_inputs p.declarations
finishing (at.first_input p) = input ∷ end_of_input p.declarations
finishing (at.input_name p) = end_of_input p.declarations
finishing (at.input_pin p) = end_of_input p.declarations
finishing (at.after_input p) = close ∷ semi ∷ end_of_primitive p.declarations
finishing (at.primitive_head_end p) = semi ∷ end_of_primitive p.declarations
finishing (at.in_primitive p) = end_of_primitive p.declarations
finishing (at.output_declared p) = a_name ∷ semi ∷ end_of_primitive (p.declarations ++ prim_declare Output a_word ∷ [])
finishing (at.output_reg p) = a_name ∷ semi ∷ end_of_primitive ((p.declarations ++ prim_declare Output a_word ∷ []) ++ prim_declare Reg a_word ∷ [])
finishing (at.reg_declared p) = a_name ∷ semi ∷ end_of_primitive (p.declarations ++ prim_declare Reg a_word ∷ [])
finishing (at.input_declared p) = a_name ∷ semi ∷ end_of_primitive (p.declarations ++ prim_declare Input a_word ∷ [])
finishing (at.after_input_declared p) = semi ∷ end_of_primitive p.declarations
finishing (at.initial_declared p) = a_name ∷ equals ∷ an_int ∷ semi ∷ end_of_primitive (p.declarations ++ prim_declare (Initial Zero) a_word ∷ [])
finishing (at.initial_equals p w) = equals ∷ an_int ∷ semi ∷ end_of_primitive (p.declarations ++ prim_declare (Initial Zero) w ∷ [])
finishing (at.initial_bit p w) = an_int ∷ semi ∷ end_of_primitive (p.declarations ++ prim_declare (Initial Zero) w ∷ [])
finishing (at.declared_semi p) = semi ∷ end_of_primitive p.declarations
finishing (at.first_row p) = an_int ∷ end_of_entries p.declarations
finishing (at.in_rows p) = endtable ∷ endprimitive ∷ []
finishing (at.in_row p es) = end_of_entries p.declarations
finishing (at.change_first k) = a_pair ∷ close ∷ end_of_column k
finishing (at.change_second k v) = an_int ∷ close ∷ end_of_column k
finishing (at.change_close k v w) = close ∷ end_of_column k
finishing (at.row_state p es) = an_int ∷ colon ∷ end_of_row
finishing (at.after_state p es s) = colon ∷ end_of_row
finishing (at.row_output p es s) = end_of_row
finishing (at.after_output_symbol p es s o) = semi ∷ endtable ∷ endprimitive ∷ []
finishing (at.primitive_end p) = endprimitive ∷ []

record Finishes (s : State) (ts : List TokenAt) : Type 0 where
  tree : Source
  is : run s ts the_end ≡ Ok tree

place_finishes : (k : Place) → Finishes (after_attr k) (end_of_place k)
place_finishes (at_top b) = record { tree = _; is = refl }
place_finishes (in_module u) = record { tree = _; is = refl }

range_finishes : (k : Ranged) (r : Range) → Finishes (after_range k r) (end_of_range k)
range_finishes (port_range u what) r = record { tree = _; is = refl }
range_finishes (declared_range u what) r = record { tree = _; is = refl }
range_finishes (net_range u what) r = record { tree = _; is = refl }

delay_finishes : (k : Delayed) → Finishes (after_delay k) (end_of_delay k)
delay_finishes (net_delay u what r) = record { tree = _; is = refl }
delay_finishes (gate_delay u kind p) = record { tree = _; is = refl }
delay_finishes (instance_delay u d) = record { tree = _; is = refl }
delay_finishes (assign_delay u) = record { tree = _; is = refl }

number_finishes : (k : Delayed) → Finishes (at.delay_number k) (end_of_delay k)
number_finishes (net_delay u what r) = record { tree = _; is = refl }
number_finishes (gate_delay u kind p) = record { tree = _; is = refl }
number_finishes (instance_delay u d) = record { tree = _; is = refl }
number_finishes (assign_delay u) = record { tree = _; is = refl }

leaves : (k : Delayed) (d : ℕ) (ts : List TokenAt) (stop : TokenAt) → run (at.in_delay k d) (parens d ts) stop ≡ run (after_delay k) ts stop
leaves k zero ts stop = refl
leaves k (suc d) ts stop = leaves k d ts stop

closes : (k : Context) (p d : ℕ) (ps : List Part) (ts : List TokenAt) (stop : TokenAt)
    → run (at.after_part k p d ps) (braces d ts) stop ≡ run (at.after_part k p 0 ps) ts stop
closes k p zero ps ts stop = refl
closes k p (suc d) ps ts stop = closes k p d ps ts stop

named_closes : (k : Context) (p d : ℕ) (ps : List Part) (w : Word) (stop : TokenAt)
    → run (at.after_part_name k p d ps w) (braces d (end_of k)) stop ≡ run (at.after_part k p d (ps ++ whole_part w ∷ [])) (braces d (end_of k)) stop
named_closes (terminal u kind q es) p zero ps w stop = refl
named_closes (left u) p zero ps w stop = refl
named_closes (right u l) p zero ps w stop = refl
named_closes (declared u what r x) p zero ps w stop = refl
named_closes (connected u d n cs) p zero ps w stop = refl
named_closes (connected_to u d n cs x) p zero ps w stop = refl
named_closes k p (suc d) ps w stop = refl

whole_finishes : (k : Context) (p : ℕ) (ps : List Part) → Finishes (at.after_part k p 0 ps) (end_of k)
whole_finishes (terminal u kind q es) p ps = record { tree = _; is = refl }
whole_finishes (left u) p ps = record { tree = _; is = refl }
whole_finishes (right u l) p ps = record { tree = _; is = refl }
whole_finishes (declared u what r x) p ps = record { tree = _; is = refl }
whole_finishes (connected u d n cs) p ps = record { tree = _; is = refl }
whole_finishes (connected_to u d n cs x) p ps = record { tree = _; is = refl }

part_finishes : (k : Context) (p d : ℕ) (ps : List Part) → Finishes (at.after_part k p d ps) (braces d (end_of k))
part_finishes k p d ps = let w = whole_finishes k p ps in record { tree = w.tree; is = closes k p d ps (end_of k) the_end ∙ w.is }

name_finishes : (k : Context) (p d : ℕ) (ps : List Part) (w : Word) → Finishes (at.after_part_name k p d ps w) (braces d (end_of k))
name_finishes k p d ps w = let f = part_finishes k p d (ps ++ whole_part w ∷ []) in record { tree = f.tree; is = named_closes k p d ps w the_end ∙ f.is }

tail_finishes : (p : Within) (es : List Symbol) (q : Bool) → Finishes (cond q (at.row_state p es) (at.row_output p es None)) (end_by q)
tail_finishes p es true = record { tree = _; is = refl }
tail_finishes p es false = record { tree = _; is = refl }

entries_finish : (p : Within) (es : List Symbol) → Finishes (at.in_row p es) (end_of_entries p.declarations)
entries_finish p es = let f = tail_finishes p es (is_sequential p.declarations) in record { tree = f.tree; is = f.is }

primitive_finishes : (p : Within) → Finishes (at.in_primitive p) (end_of_primitive p.declarations)
primitive_finishes p = let f = entries_finish p (Single 48 ∷ []) in record { tree = f.tree; is = f.is }

column_finishes : (k : Column) (s : Symbol) → Finishes (after_symbol k s) (end_of_column k)
column_finishes (entry p es) s = let f = entries_finish p (es ++ s ∷ []) in record { tree = f.tree; is = f.is }
column_finishes (state p es) s = record { tree = _; is = refl }
column_finishes (output p es st) s = record { tree = _; is = refl }

can_finish : (s : State) → Finishes s (finishing s)
unfolding int_of bit_of
can_finish (at.top b) = record { tree = _; is = refl }
can_finish (at.attr_open k) = let f = place_finishes k in record { tree = f.tree; is = f.is }
can_finish (at.in_attr k) = let f = place_finishes k in record { tree = f.tree; is = f.is }
can_finish (at.attr_star k) = let f = place_finishes k in record { tree = f.tree; is = f.is }
can_finish (at.module_name b) = record { tree = _; is = refl }
can_finish (at.after_name b n) = record { tree = _; is = refl }
can_finish (at.first_port b n) = record { tree = _; is = refl }
can_finish (at.port b n ps) = record { tree = _; is = refl }
can_finish (at.after_port b n ps) = record { tree = _; is = refl }
can_finish (at.port_direction u what r) = record { tree = _; is = refl }
can_finish (at.port_wire u what r) = record { tree = _; is = refl }
can_finish (at.port_name u what r) = record { tree = _; is = refl }
can_finish (at.after_declared_port u what r) = record { tree = _; is = refl }
can_finish (at.declared_port u what r) = record { tree = _; is = refl }
can_finish (at.head_end u) = record { tree = _; is = refl }
can_finish (at.in_items u) = record { tree = _; is = refl }
can_finish (at.range_first k) = let f = range_finishes k (Some (0, 0)) in record { tree = f.tree; is = f.is }
can_finish (at.range_colon k a) = let f = range_finishes k (Some (a, 0)) in record { tree = f.tree; is = f.is }
can_finish (at.range_second k a) = let f = range_finishes k (Some (a, 0)) in record { tree = f.tree; is = f.is }
can_finish (at.range_close k a b) = let f = range_finishes k (Some (a, b)) in record { tree = f.tree; is = f.is }
can_finish (at.delay k) = let f = number_finishes k in record { tree = f.tree; is = f.is }
can_finish (at.delay_number k) = let f = number_finishes k in record { tree = f.tree; is = f.is }
can_finish (at.delay_fraction k) = let f = delay_finishes k in record { tree = f.tree; is = f.is }
can_finish (at.in_delay k d) = let f = delay_finishes k in record { tree = f.tree; is = leaves k d (end_of_delay k) the_end ∙ f.is }
can_finish (at.direction u what) = record { tree = _; is = refl }
can_finish (at.direction_wire u what) = record { tree = _; is = refl }
can_finish (at.declared_name u what r) = record { tree = _; is = refl }
can_finish (at.after_declared u what r) = record { tree = _; is = refl }
can_finish (at.net_kind u what) = record { tree = _; is = refl }
can_finish (at.net_ranged u what r) = record { tree = _; is = refl }
can_finish (at.net_name u what r) = record { tree = _; is = refl }
can_finish (at.after_net u what r w) = record { tree = _; is = refl }
can_finish (at.gate_kind u kind p) = record { tree = _; is = refl }
can_finish (at.gate_name u kind p) = record { tree = _; is = refl }
can_finish (at.gate_open u kind p) = record { tree = _; is = refl }
can_finish (at.after_gate u kind p) = record { tree = _; is = refl }
can_finish (at.definition u d) = record { tree = _; is = refl }
can_finish (at.instance_name u d) = record { tree = _; is = refl }
can_finish (at.instance_open u d n) = record { tree = _; is = refl }
can_finish (at.connections u d n) = record { tree = _; is = refl }
can_finish (at.connection u d n cs) = record { tree = _; is = refl }
can_finish (at.connection_dot u d n cs) = record { tree = _; is = refl }
can_finish (at.connection_port u d n cs) = record { tree = _; is = refl }
can_finish (at.connection_open u d n cs p) = record { tree = _; is = refl }
can_finish (at.connection_value u d n cs p) = record { tree = _; is = refl }
can_finish (at.after_connection u d n cs) = record { tree = _; is = refl }
can_finish (at.after_instance u d) = record { tree = _; is = refl }
can_finish (at.assign u) = record { tree = _; is = refl }
can_finish (at.expr_start k) = let f = name_finishes k 0 0 [] a_word in record { tree = f.tree; is = f.is }
can_finish (at.expr k p d ps) = let f = name_finishes k p d ps a_word in record { tree = f.tree; is = f.is }
can_finish (at.after_part_name k p d ps w) = name_finishes k p d ps w
can_finish (at.select k p d ps w) = let f = part_finishes k p d _ in record { tree = f.tree; is = f.is }
can_finish (at.after_index k p d ps w n) = let f = part_finishes k p d _ in record { tree = f.tree; is = f.is }
can_finish (at.select_end k p d ps w n) = let f = part_finishes k p d _ in record { tree = f.tree; is = f.is }
can_finish (at.select_close k p d ps w n m) = let f = part_finishes k p d _ in record { tree = f.tree; is = f.is }
can_finish (at.after_part k p d ps) = part_finishes k p d ps
can_finish (at.in_specify u) = record { tree = _; is = refl }
can_finish (at.primitive_name b) = let f = primitive_finishes (within b a_word (a_word ∷ []) [] []) in record { tree = f.tree; is = f.is }
can_finish (at.primitive_open b n) = let f = primitive_finishes (within b n (a_word ∷ []) [] []) in record { tree = f.tree; is = f.is }
can_finish (at.first_pin b n) = let f = primitive_finishes (within b n (a_word ∷ []) [] []) in record { tree = f.tree; is = f.is }
can_finish (at.pin b n ps) = let f = primitive_finishes (within b n (ps ++ a_word ∷ []) [] []) in record { tree = f.tree; is = f.is }
can_finish (at.after_pin b n ps) = let f = primitive_finishes (within b n ps [] []) in record { tree = f.tree; is = f.is }
can_finish (at.output_pin b n) =
    let f = primitive_finishes (with_pin (with_pin (within b n [] [] []) Output a_word) Input a_word) in
    record { tree = f.tree; is = f.is }
can_finish (at.output_name b n) =
    let f = primitive_finishes (with_pin (with_declare (with_pin (within b n [] [] []) Output a_word) Reg a_word) Input a_word) in
    record { tree = f.tree; is = f.is }
can_finish (at.after_output p w) = let f = primitive_finishes (with_pin p Input a_word) in record { tree = f.tree; is = f.is }
can_finish (at.output_bit p w) = let f = primitive_finishes (with_pin (with_declare p (Initial Zero) w) Input a_word) in record { tree = f.tree; is = f.is }
can_finish (at.output_comma p) = let f = primitive_finishes (with_pin p Input a_word) in record { tree = f.tree; is = f.is }
can_finish (at.first_input p) = let f = primitive_finishes (with_pin p Input a_word) in record { tree = f.tree; is = f.is }
can_finish (at.input_name p) = let f = primitive_finishes (with_pin p Input a_word) in record { tree = f.tree; is = f.is }
can_finish (at.input_pin p) = let f = primitive_finishes (with_pin p Input a_word) in record { tree = f.tree; is = f.is }
can_finish (at.after_input p) = let f = primitive_finishes p in record { tree = f.tree; is = f.is }
can_finish (at.primitive_head_end p) = let f = primitive_finishes p in record { tree = f.tree; is = f.is }
can_finish (at.in_primitive p) = let f = primitive_finishes p in record { tree = f.tree; is = f.is }
can_finish (at.output_declared p) = let f = primitive_finishes (with_declare p Output a_word) in record { tree = f.tree; is = f.is }
can_finish (at.output_reg p) = let f = primitive_finishes (with_declare (with_declare p Output a_word) Reg a_word) in record { tree = f.tree; is = f.is }
can_finish (at.reg_declared p) = let f = primitive_finishes (with_declare p Reg a_word) in record { tree = f.tree; is = f.is }
can_finish (at.input_declared p) = let f = primitive_finishes (with_declare p Input a_word) in record { tree = f.tree; is = f.is }
can_finish (at.after_input_declared p) = let f = primitive_finishes p in record { tree = f.tree; is = f.is }
can_finish (at.initial_declared p) = let f = primitive_finishes (with_declare p (Initial Zero) a_word) in record { tree = f.tree; is = f.is }
can_finish (at.initial_equals p w) = let f = primitive_finishes (with_declare p (Initial Zero) w) in record { tree = f.tree; is = f.is }
can_finish (at.initial_bit p w) = let f = primitive_finishes (with_declare p (Initial Zero) w) in record { tree = f.tree; is = f.is }
can_finish (at.declared_semi p) = let f = primitive_finishes p in record { tree = f.tree; is = f.is }
can_finish (at.first_row p) = let f = entries_finish p (Single 48 ∷ []) in record { tree = f.tree; is = f.is }
can_finish (at.in_rows p) = record { tree = _; is = refl }
can_finish (at.in_row p es) = entries_finish p es
can_finish (at.change_first k) = let f = column_finishes k (Change 48 49) in record { tree = f.tree; is = f.is }
can_finish (at.change_second k v) = let f = column_finishes k (Change v 48) in record { tree = f.tree; is = f.is }
can_finish (at.change_close k v w) = let f = column_finishes k (Change v w) in record { tree = f.tree; is = f.is }
can_finish (at.row_state p es) = record { tree = _; is = refl }
can_finish (at.after_state p es s) = record { tree = _; is = refl }
can_finish (at.row_output p es s) = record { tree = _; is = refl }
can_finish (at.after_output_symbol p es s o) = record { tree = _; is = refl }
can_finish (at.primitive_end p) = record { tree = _; is = refl }

-- ---- a step refuses by its token alone

abbrev OnlyOf : TokenAt → Next → Type 0
OnlyOf t (Ok s) = Unit {0}
OnlyOf t (Err e) = e ≡ fault_of t

test_at : (t : TokenAt) (b : Bool) (s : State) (other : Next) → OnlyOf t other → OnlyOf t (cond b (Ok s) other)
test_at t true s other h = tt
test_at t false s other h = h

test : (f : Fixed) (t : TokenAt) (s : State) (other : Next) → OnlyOf t other → OnlyOf t (on f t s other)
test f t s other h = test_at t (is_fixed f t.what) s other h

when : (t : TokenAt) (b : Bool) (one other : Next) → OnlyOf t one → OnlyOf t other → OnlyOf t (cond b one other)
when t true one other g h = g
when t false one other g h = h

found : {X : Type 0} (t : TokenAt) (o : Option X) (f : X → State) (other : Next) → OnlyOf t other → OnlyOf t (on_some o f other)
found t (Some x) f other h = tt
found t None f other h = h

bytes : (t : TokenAt) (l : List ℕ) (f : ℕ → List ℕ → State) (other : Next) → OnlyOf t other → OnlyOf t (on_bytes l f other)
bytes t [] f other h = h
bytes t (b ∷ bs) f other h = tt

one_byte : (t : TokenAt) (l : List ℕ) (f : ℕ → State) (other : Next) → OnlyOf t other → OnlyOf t (on_one_byte l f other)
one_byte t [] f other h = h
one_byte t (b ∷ []) f other h = tt
one_byte t (b ∷ c ∷ bs) f other h = h

few_bytes : (t : TokenAt) (l : List ℕ) (f : ℕ → State) (g : ℕ → ℕ → State) (other : Next) → OnlyOf t other → OnlyOf t (on_few_bytes l f g other)
few_bytes t [] f g other h = h
few_bytes t (b ∷ []) f g other h = tt
few_bytes t (b ∷ c ∷ []) f g other h = tt
few_bytes t (b ∷ c ∷ d ∷ bs) f g other h = h

only_port : (u : Under) (what : NetKind) (r : Range) (t : TokenAt) → OnlyOf t (port_step u what r t)
only_port u what r t = test fixed.Wire t _ _ (test fixed.SquareOpen t _ _ (found t (named_word t) _ _ refl))

only_gate : (u : Under) (kind : GateKind) (p : ℕ) (t : TokenAt) → OnlyOf t (gate_name_step u kind p t)
only_gate u kind p t = test fixed.Open t _ _ (found t (named_word t) _ _ refl)

only_instance : (u : Under) (d : Word) (t : TokenAt) → OnlyOf t (instance_name_step u d t)
only_instance u d t = test fixed.Open t _ _ (found t (named_word t) _ _ refl)

only_expr : (k : Context) (p d : ℕ) (ps : List Part) (t : TokenAt) → OnlyOf t (expr_step k p d ps t)
only_expr k p d ps t = test fixed.BraceOpen t _ _ (found t (named_word t) _ _ (found t (literal_at t.what) _ _ refl))

only_after_delay : (k : Delayed) (t : TokenAt) → OnlyOf t (after_delay_step k t)
only_after_delay (net_delay u what r) t = found t (named_word t) _ _ refl
only_after_delay (gate_delay u kind p) t = only_gate u kind p t
only_after_delay (instance_delay u d) t = only_instance u d t
only_after_delay (assign_delay u) t = only_expr (left u) t.at 0 [] t

only_after : (k : Context) (p d : ℕ) (ps : List Part) (t : TokenAt) → OnlyOf t (after_expr k p d ps t)
only_after k p (suc d) ps t = test fixed.Comma t _ _ (test fixed.BraceClose t _ _ refl)
only_after (terminal u kind q es) p zero ps t = test fixed.Comma t _ _ (test fixed.Close t _ _ refl)
only_after (left u) p zero ps t = test fixed.Equals t _ _ refl
only_after (right u l) p zero ps t = test fixed.Comma t _ _ (test fixed.Semi t _ _ refl)
only_after (declared u what r w) p zero ps t = test fixed.Comma t _ _ (test fixed.Semi t _ _ refl)
only_after (connected u d n cs) p zero ps t = test fixed.Comma t _ _ (test fixed.Close t _ _ refl)
only_after (connected_to u d n cs w) p zero ps t = test fixed.Close t _ _ refl

-- at the start of an item, where the token isn't left out
items_at : (t : TokenAt) (u : Under) (b : Bool) → b ≡ false
    → OnlyOf t (cond b (Err (OutOfProfile t.at)) (on_some (named_word t) (λ w. at.definition u w) (Err (fault_of t))))
items_at t u true e = absurd cc
items_at t u false e = found t (named_word t) _ _ refl

only_items : (u : Under) (t : TokenAt) → is_left_out t.what ≡ false → OnlyOf t (step (at.in_items u) t)
only_items u t e =
    test fixed.Endmodule t _ _ (test fixed.Open t _ _ (test fixed.Input t _ _ (test fixed.Output t _ _ (test fixed.Wire t _ _ (test fixed.Tri t _ _ (test fixed.Supply0 t _ _ (test fixed.Supply1 t _ _
    (test fixed.Reg t _ _ (test fixed.Assign t _ _ (test fixed.Specify t _ _ (found t (gate_kind_of t.what) _ _ (items_at t u (is_left_out t.what) e))))))))))))

-- a token that is left out
left_out_refused : (u : Under) (at : ℕ) (l : Lexeme) → is_left_out l ≡ true → step (State.in_items u) (token_at at l) ≡ Err (OutOfProfile at)
left_out_refused u at (Lexeme.quoted fixed.Initial) e = refl
left_out_refused u at (Lexeme.quoted _) e = absurd cc
left_out_refused u at (Lexeme.gate kind) e = absurd cc
left_out_refused u at (Lexeme.named text false) e = rw e refl
left_out_refused u at (Lexeme.named text true) e = absurd cc
left_out_refused u at (Lexeme.number text) e = absurd cc
left_out_refused u at (Lexeme.mark b) e = absurd cc
left_out_refused u at Lexeme.quotation e = absurd cc
left_out_refused u at Lexeme.ending e = absurd cc
left_out_refused u at (Lexeme.broken x) e = absurd cc

-- any other state refuses by the token alone
abbrev Only : State → TokenAt → Type 0
Only (at.in_items u) t = Unit {0}
Only s t = OnlyOf t (step s t)

only : (s : State) (t : TokenAt) → Only s t
only (at.top b) t = test fixed.Module t _ _ (test fixed.Primitive t _ _ (test fixed.Open t _ _ (refl)))
only (at.attr_open k) t = test fixed.Star t _ _ (refl)
only (at.in_attr k) t = test fixed.Star t _ _ (tt)
only (at.attr_star k) t = test fixed.Close t _ _ (test fixed.Star t _ _ (tt))
only (at.module_name b) t = found t (named_word t) _ _ (refl)
only (at.after_name b n) t = test fixed.Open t _ _ (test fixed.Semi t _ _ (refl))
only (at.first_port b n) t = test fixed.Close t _ _ (test fixed.Input t _ _ (test fixed.Output t _ _ (found t (named_word t) _ _ (refl))))
only (at.port b n ps) t = found t (named_word t) _ _ (refl)
only (at.after_port b n ps) t = test fixed.Comma t _ _ (test fixed.Close t _ _ (refl))
only (at.port_direction u what r) t = only_port u what r t
only (at.port_wire u what r) t = test fixed.SquareOpen t _ _ (found t (named_word t) _ _ (refl))
only (at.port_name u what r) t = found t (named_word t) _ _ (refl)
only (at.after_declared_port u what r) t = test fixed.Comma t _ _ (test fixed.Close t _ _ (refl))
only (at.declared_port u what r) t = test fixed.Input t _ _ (test fixed.Output t _ _ (only_port u what r t))
only (at.head_end u) t = test fixed.Semi t _ _ (refl)
only (at.in_items u) t = tt
only (at.range_first k) t = found t (int_at t.what) _ _ (refl)
only (at.range_colon k a) t = test fixed.Colon t _ _ (refl)
only (at.range_second k a) t = found t (int_at t.what) _ _ (refl)
only (at.range_close k a b) t = test fixed.SquareClose t _ _ (refl)
only (at.delay k) t = test fixed.Open t _ _ (found t (int_at t.what) _ _ (refl))
only (at.delay_number k) t = test fixed.Dot t _ _ (only_after_delay k t)
only (at.delay_fraction k) t = found t (int_at t.what) _ _ (refl)
only (at.in_delay k d) t = test fixed.Close t _ _ (test fixed.Open t _ _ (tt))
only (at.direction u what) t = test fixed.Wire t _ _ (test fixed.SquareOpen t _ _ (found t (named_word t) _ _ (refl)))
only (at.direction_wire u what) t = test fixed.SquareOpen t _ _ (found t (named_word t) _ _ (refl))
only (at.declared_name u what r) t = found t (named_word t) _ _ (refl)
only (at.after_declared u what r) t = test fixed.Comma t _ _ (test fixed.Semi t _ _ (refl))
only (at.net_kind u what) t = test fixed.SquareOpen t _ _ (test fixed.Hash t _ _ (found t (named_word t) _ _ (refl)))
only (at.net_ranged u what r) t = test fixed.Hash t _ _ (found t (named_word t) _ _ (refl))
only (at.net_name u what r) t = found t (named_word t) _ _ (refl)
only (at.after_net u what r w) t = test fixed.Comma t _ _ (test fixed.Semi t _ _ (when t (takes_value what) _ _ (test fixed.Equals t _ _ refl) (refl)))
only (at.gate_kind u kind p) t = test fixed.Hash t _ _ (only_gate u kind p t)
only (at.gate_name u kind p) t = only_gate u kind p t
only (at.gate_open u kind p) t = test fixed.Open t _ _ (refl)
only (at.after_gate u kind p) t = test fixed.Comma t _ _ (test fixed.Semi t _ _ (refl))
only (at.definition u d) t = test fixed.Hash t _ _ (only_instance u d t)
only (at.instance_name u d) t = only_instance u d t
only (at.instance_open u d n) t = test fixed.Open t _ _ (refl)
only (at.connections u d n) t = test fixed.Close t _ _ (test fixed.Comma t _ _ (test fixed.Dot t _ _ (only_expr (connected u d n []) t.at 0 [] t)))
only (at.connection u d n cs) t = test fixed.Close t _ _ (test fixed.Comma t _ _ (only_expr (connected u d n cs) t.at 0 [] t))
only (at.connection_dot u d n cs) t = test fixed.Dot t _ _ (refl)
only (at.connection_port u d n cs) t = found t (named_word t) _ _ (refl)
only (at.connection_open u d n cs p) t = test fixed.Open t _ _ (refl)
only (at.connection_value u d n cs p) t = test fixed.Close t _ _ (only_expr (connected_to u d n cs p) t.at 0 [] t)
only (at.after_connection u d n cs) t = test fixed.Comma t _ _ (test fixed.Close t _ _ (refl))
only (at.after_instance u d) t = test fixed.Comma t _ _ (test fixed.Semi t _ _ (refl))
only (at.assign u) t = test fixed.Hash t _ _ (only_expr (left u) t.at 0 [] t)
only (at.expr_start k) t = only_expr k t.at 0 [] t
only (at.expr k p d ps) t = only_expr k p d ps t
only (at.after_part_name k p d ps w) t = test fixed.SquareOpen t _ _ (only_after k p d _ t)
only (at.select k p d ps w) t = found t (int_at t.what) _ _ (refl)
only (at.after_index k p d ps w n) t = test fixed.SquareClose t _ _ (test fixed.Colon t _ _ (refl))
only (at.select_end k p d ps w n) t = found t (int_at t.what) _ _ (refl)
only (at.select_close k p d ps w n m) t = test fixed.SquareClose t _ _ (refl)
only (at.after_part k p d ps) t = only_after k p d ps t
only (at.in_specify u) t = test fixed.Endspecify t _ _ (tt)
only (at.primitive_name b) t = found t (named_word t) _ _ (refl)
only (at.primitive_open b n) t = test fixed.Open t _ _ (refl)
only (at.first_pin b n) t = test fixed.Output t _ _ (found t (named_word t) _ _ (refl))
only (at.pin b n ps) t = found t (named_word t) _ _ (refl)
only (at.after_pin b n ps) t = test fixed.Comma t _ _ (test fixed.Close t _ _ (refl))
only (at.output_pin b n) t = test fixed.Reg t _ _ (found t (named_word t) _ _ (refl))
only (at.output_name b n) t = found t (named_word t) _ _ (refl)
only (at.after_output p w) t = test fixed.Equals t _ _ (test fixed.Comma t _ _ (refl))
only (at.output_bit p w) t = found t (bit_at t.what) _ _ (refl)
only (at.output_comma p) t = test fixed.Comma t _ _ (refl)
only (at.first_input p) t = test fixed.Input t _ _ (refl)
only (at.input_name p) t = found t (named_word t) _ _ (refl)
only (at.input_pin p) t = test fixed.Input t _ _ (found t (named_word t) _ _ (refl))
only (at.after_input p) t = test fixed.Comma t _ _ (test fixed.Close t _ _ (refl))
only (at.primitive_head_end p) t = test fixed.Semi t _ _ (refl)
only (at.in_primitive p) t = test fixed.Output t _ _ (test fixed.Reg t _ _ (test fixed.Input t _ _ (test fixed.Initial t _ _ (test fixed.Table t _ _ (refl)))))
only (at.output_declared p) t = test fixed.Reg t _ _ (found t (named_word t) _ _ (refl))
only (at.output_reg p) t = found t (named_word t) _ _ (refl)
only (at.reg_declared p) t = found t (named_word t) _ _ (refl)
only (at.input_declared p) t = found t (named_word t) _ _ (refl)
only (at.after_input_declared p) t = test fixed.Comma t _ _ (test fixed.Semi t _ _ (refl))
only (at.initial_declared p) t = found t (named_word t) _ _ (refl)
only (at.initial_equals p w) t = test fixed.Equals t _ _ (refl)
only (at.initial_bit p w) t = found t (bit_at t.what) _ _ (refl)
only (at.declared_semi p) t = test fixed.Semi t _ _ (refl)
only (at.first_row p) t = bytes t (symbols_of t.what) _ _ (test fixed.Open t _ _ (refl))
only (at.in_rows p) t = bytes t (symbols_of t.what) _ _ (test fixed.Open t _ _ (test fixed.Endtable t _ _ (refl)))
only (at.in_row p es) t = bytes t (symbols_of t.what) _ _ (test fixed.Open t _ _ (test fixed.Colon t _ _ (refl)))
only (at.change_first k) t = few_bytes t (symbols_of t.what) _ _ _ (refl)
only (at.change_second k v) t = one_byte t (symbols_of t.what) _ _ (refl)
only (at.change_close k v w) t = test fixed.Close t _ _ (refl)
only (at.row_state p es) t = one_byte t (symbols_of t.what) _ _ (test fixed.Open t _ _ (refl))
only (at.after_state p es s) t = test fixed.Colon t _ _ (refl)
only (at.row_output p es s) t = one_byte t (symbols_of t.what) _ _ (test fixed.Open t _ _ (refl))
only (at.after_output_symbol p es s o) t = test fixed.Semi t _ _ (refl)
only (at.primitive_end p) t = test fixed.Endprimitive t _ _ (refl)

-- ---- where an item may begin

-- Any other state that refuses a token refuses `endmodule`.
abbrev NoEnd : State → Type 0
NoEnd (at.in_items u) = Unit {0}
NoEnd s = step s endmodule ≡ Err (fault_of endmodule)

all_taken : (b : Bool) (s r : State) (e : ParseErr) → cond b (Ok s) (Ok r) ≡ Err e → ⊥
all_taken true s r e h = absurd cc
all_taken false s r e h = absurd cc

both_taken : (b c : Bool) (s r q : State) (e : ParseErr) → cond b (Ok s) (cond c (Ok r) (Ok q)) ≡ Err e → ⊥
both_taken true c s r q e h = absurd cc
both_taken false c s r q e h = all_taken c r q e h

no_end_of_delay : (k : Delayed) → after_delay_step k endmodule ≡ Err (fault_of endmodule)
no_end_of_delay (net_delay u what r) = refl
no_end_of_delay (gate_delay u kind p) = refl
no_end_of_delay (instance_delay u d) = refl
no_end_of_delay (assign_delay u) = refl

no_end_after : (k : Context) (p d : ℕ) (ps : List Part) → after_expr k p d ps endmodule ≡ Err (fault_of endmodule)
no_end_after k p (suc d) ps = refl
no_end_after (terminal u kind q es) p zero ps = refl
no_end_after (left u) p zero ps = refl
no_end_after (right u l) p zero ps = refl
no_end_after (declared u what r w) p zero ps = refl
no_end_after (connected u d n cs) p zero ps = refl
no_end_after (connected_to u d n cs w) p zero ps = refl

no_end_valued : (b : Bool) (s : State) → cond b (on fixed.Equals endmodule s (Err (fault_of endmodule))) (Err (fault_of endmodule)) ≡ Err (fault_of endmodule)
no_end_valued true s = refl
no_end_valued false s = refl

no_end : (s : State) (t : TokenAt) (e : ParseErr) → step s t ≡ Err e → NoEnd s
no_end (at.top b) t e h = refl
no_end (at.attr_open k) t e h = refl
no_end (at.in_attr k) t e h = absurd (all_taken (is_fixed fixed.Star t.what) _ _ e h)
no_end (at.attr_star k) t e h = absurd (both_taken (is_fixed fixed.Close t.what) (is_fixed fixed.Star t.what) _ _ _ e h)
no_end (at.module_name b) t e h = refl
no_end (at.after_name b n) t e h = refl
no_end (at.first_port b n) t e h = refl
no_end (at.port b n ps) t e h = refl
no_end (at.after_port b n ps) t e h = refl
no_end (at.port_direction u what r) t e h = refl
no_end (at.port_wire u what r) t e h = refl
no_end (at.port_name u what r) t e h = refl
no_end (at.after_declared_port u what r) t e h = refl
no_end (at.declared_port u what r) t e h = refl
no_end (at.head_end u) t e h = refl
no_end (at.in_items u) t e h = tt
no_end (at.range_first k) t e h = refl
no_end (at.range_colon k a) t e h = refl
no_end (at.range_second k a) t e h = refl
no_end (at.range_close k a b) t e h = refl
no_end (at.delay k) t e h = refl
no_end (at.delay_number k) t e h = no_end_of_delay k
no_end (at.delay_fraction k) t e h = refl
no_end (at.in_delay k d) t e h = absurd (both_taken (is_fixed fixed.Close t.what) (is_fixed fixed.Open t.what) _ _ _ e h)
no_end (at.direction u what) t e h = refl
no_end (at.direction_wire u what) t e h = refl
no_end (at.declared_name u what r) t e h = refl
no_end (at.after_declared u what r) t e h = refl
no_end (at.net_kind u what) t e h = refl
no_end (at.net_ranged u what r) t e h = refl
no_end (at.net_name u what r) t e h = refl
no_end (at.after_net u what r w) t e h = no_end_valued (takes_value what) (at.expr_start (declared u what r w))
no_end (at.gate_kind u kind p) t e h = refl
no_end (at.gate_name u kind p) t e h = refl
no_end (at.gate_open u kind p) t e h = refl
no_end (at.after_gate u kind p) t e h = refl
no_end (at.definition u d) t e h = refl
no_end (at.instance_name u d) t e h = refl
no_end (at.instance_open u d n) t e h = refl
no_end (at.connections u d n) t e h = refl
no_end (at.connection u d n cs) t e h = refl
no_end (at.connection_dot u d n cs) t e h = refl
no_end (at.connection_port u d n cs) t e h = refl
no_end (at.connection_open u d n cs p) t e h = refl
no_end (at.connection_value u d n cs p) t e h = refl
no_end (at.after_connection u d n cs) t e h = refl
no_end (at.after_instance u d) t e h = refl
no_end (at.assign u) t e h = refl
no_end (at.expr_start k) t e h = refl
no_end (at.expr k p d ps) t e h = refl
no_end (at.after_part_name k p d ps w) t e h = no_end_after k p d (ps ++ whole_part w ∷ [])
no_end (at.select k p d ps w) t e h = refl
no_end (at.after_index k p d ps w n) t e h = refl
no_end (at.select_end k p d ps w n) t e h = refl
no_end (at.select_close k p d ps w n m) t e h = refl
no_end (at.after_part k p d ps) t e h = no_end_after k p d ps
no_end (at.in_specify u) t e h = absurd (all_taken (is_fixed fixed.Endspecify t.what) _ _ e h)
no_end (at.primitive_name b) t e h = refl
no_end (at.primitive_open b n) t e h = refl
no_end (at.first_pin b n) t e h = refl
no_end (at.pin b n ps) t e h = refl
no_end (at.after_pin b n ps) t e h = refl
no_end (at.output_pin b n) t e h = refl
no_end (at.output_name b n) t e h = refl
no_end (at.after_output p w) t e h = refl
no_end (at.output_bit p w) t e h = refl
no_end (at.output_comma p) t e h = refl
no_end (at.first_input p) t e h = refl
no_end (at.input_name p) t e h = refl
no_end (at.input_pin p) t e h = refl
no_end (at.after_input p) t e h = refl
no_end (at.primitive_head_end p) t e h = refl
no_end (at.in_primitive p) t e h = refl
no_end (at.output_declared p) t e h = refl
no_end (at.output_reg p) t e h = refl
no_end (at.reg_declared p) t e h = refl
no_end (at.input_declared p) t e h = refl
no_end (at.after_input_declared p) t e h = refl
no_end (at.initial_declared p) t e h = refl
no_end (at.initial_equals p w) t e h = refl
no_end (at.initial_bit p w) t e h = refl
no_end (at.declared_semi p) t e h = refl
no_end (at.first_row p) t e h = refl
no_end (at.in_rows p) t e h = refl
no_end (at.in_row p es) t e h = refl
no_end (at.change_first k) t e h = refl
no_end (at.change_second k v) t e h = refl
no_end (at.change_close k v w) t e h = refl
no_end (at.row_state p es) t e h = refl
no_end (at.after_state p es s) t e h = refl
no_end (at.row_output p es s) t e h = refl
no_end (at.after_output_symbol p es s o) t e h = refl
no_end (at.primitive_end p) t e h = refl

-- ---- the first refusal

abbrev Reaches : List TokenAt → State → Type 0
Reaches front s = (more : List TokenAt) (stop : TokenAt) → run (at.top nothing) (front ++ more) stop ≡ run s more stop

viable_at : (front : List TokenAt) (s : State) → Reaches front s → IsViable front
viable_at front s r =
    let f = can_finish s in
    record { more = finishing s; tree = f.tree; parsed = (is_in_grammar (front ++ finishing s) the_end f.tree (r (finishing s) the_end ∙ f.is)).0 }

goes_on : (front : List TokenAt) (s s' : State) (t : TokenAt) → Reaches front s → step s t ≡ Ok s' → Reaches (front ++ t ∷ []) s'
goes_on front s s' t r h more stop = rw append_assoc (r (t ∷ more) stop ∙ ap (λ (n : Next). then_run n (λ next. run next more stop)) h)

stuck_at : (front : List TokenAt) (s : State) (t : TokenAt) (e : ParseErr) → Reaches front s → step s t ≡ Err e → IsViable (front ++ t ∷ []) → ⊥
stuck_at front s t e r h v =
    let whole : run (at.top nothing) (front ++ t ∷ v.more) the_end ≡ Ok v.tree = ap (λ (l : List TokenAt). run (at.top nothing) l the_end) (sym (append_assoc front (t ∷ []) v.more)) ∙ is_read the_end refl v.parsed in
    let fails : run (at.top nothing) (front ++ t ∷ v.more) the_end ≡ Err e = r (t ∷ v.more) the_end ∙ ap (λ (n : Next). then_run n (λ next. run next v.more the_end)) h in
    absurd cc

unfinished : (front : List TokenAt) (s : State) (stop : TokenAt) (e : ParseErr) (tree : Source) → Reaches front s
    → run s [] stop ≡ Err e → run (at.top nothing) front stop ≡ Ok tree → ⊥
unfinished front s stop e tree r h k =
    let whole : run (at.top nothing) front stop ≡ Err e = subst (λ (ts : List TokenAt). run (at.top nothing) ts stop ≡ Err e) (append-nil front) (r [] stop ∙ h) in
    absurd cc

item_fault : (front : List TokenAt) (u : Under) (t : TokenAt) (e : ParseErr) → Reaches front (at.in_items u)
    → step (at.in_items u) t ≡ Err e → (b : Bool) → is_left_out t.what ≡ b → IsFault front t e
item_fault front u t e r h true z =
    let begins : IsViable (front ++ endmodule ∷ []) = viable_at (front ++ endmodule ∷ []) _ (goes_on front (at.in_items u) _ endmodule r refl) in
    record { left_out = λ l. let q = left_out_refused u t.at t.what z in cc; other = λ no_item. absurd (no_item (record { begins = begins; keyword = z })) }
item_fault front u t e r h false z =
    record { left_out = λ l. let w = l.keyword in absurd cc; other = λ l. let o : OnlyOf t (Err e) = rw h at (only_items u t z) in o }

other_fault : (front : List TokenAt) (s : State) (t : TokenAt) (e : ParseErr) → Reaches front s → step s t ≡ Err e
    → OnlyOf t (step s t) → step s endmodule ≡ Err (fault_of endmodule) → IsFault front t e
other_fault front s t e r h o z =
    record { left_out = λ l. absurd (stuck_at front s endmodule (fault_of endmodule) r z l.begins); other = λ l. let x : OnlyOf t (Err e) = rw h at o in x }

fault_at : (front : List TokenAt) (s : State) (t : TokenAt) (e : ParseErr) → Reaches front s → step s t ≡ Err e → IsFault front t e
fault_at front (at.in_items u) t e r h = item_fault front u t e r h (is_left_out t.what) refl
fault_at front (at.top b) t e reach h = other_fault front (at.top b) t e reach h (only (at.top b) t) (no_end (at.top b) t e h)
fault_at front (at.attr_open k) t e reach h = other_fault front (at.attr_open k) t e reach h (only (at.attr_open k) t) (no_end (at.attr_open k) t e h)
fault_at front (at.in_attr k) t e reach h = other_fault front (at.in_attr k) t e reach h (only (at.in_attr k) t) (no_end (at.in_attr k) t e h)
fault_at front (at.attr_star k) t e reach h = other_fault front (at.attr_star k) t e reach h (only (at.attr_star k) t) (no_end (at.attr_star k) t e h)
fault_at front (at.module_name b) t e reach h = other_fault front (at.module_name b) t e reach h (only (at.module_name b) t) (no_end (at.module_name b) t e h)
fault_at front (at.after_name b n) t e reach h =
    other_fault front (at.after_name b n) t e reach h (only (at.after_name b n) t) (no_end (at.after_name b n) t e h)
fault_at front (at.first_port b n) t e reach h =
    other_fault front (at.first_port b n) t e reach h (only (at.first_port b n) t) (no_end (at.first_port b n) t e h)
fault_at front (at.port b n ps) t e reach h = other_fault front (at.port b n ps) t e reach h (only (at.port b n ps) t) (no_end (at.port b n ps) t e h)
fault_at front (at.after_port b n ps) t e reach h =
    other_fault front (at.after_port b n ps) t e reach h (only (at.after_port b n ps) t) (no_end (at.after_port b n ps) t e h)
fault_at front (at.port_direction u what r) t e reach h =
    other_fault front (at.port_direction u what r) t e reach h (only (at.port_direction u what r) t) (no_end (at.port_direction u what r) t e h)
fault_at front (at.port_wire u what r) t e reach h =
    other_fault front (at.port_wire u what r) t e reach h (only (at.port_wire u what r) t) (no_end (at.port_wire u what r) t e h)
fault_at front (at.port_name u what r) t e reach h =
    other_fault front (at.port_name u what r) t e reach h (only (at.port_name u what r) t) (no_end (at.port_name u what r) t e h)
fault_at front (at.after_declared_port u what r) t e reach h =
    other_fault front (at.after_declared_port u what r) t e reach h (only (at.after_declared_port u what r) t) (no_end (at.after_declared_port u what r) t e h)
fault_at front (at.declared_port u what r) t e reach h =
    other_fault front (at.declared_port u what r) t e reach h (only (at.declared_port u what r) t) (no_end (at.declared_port u what r) t e h)
fault_at front (at.head_end u) t e reach h = other_fault front (at.head_end u) t e reach h (only (at.head_end u) t) (no_end (at.head_end u) t e h)
fault_at front (at.range_first k) t e reach h = other_fault front (at.range_first k) t e reach h (only (at.range_first k) t) (no_end (at.range_first k) t e h)
fault_at front (at.range_colon k a) t e reach h =
    other_fault front (at.range_colon k a) t e reach h (only (at.range_colon k a) t) (no_end (at.range_colon k a) t e h)
fault_at front (at.range_second k a) t e reach h =
    other_fault front (at.range_second k a) t e reach h (only (at.range_second k a) t) (no_end (at.range_second k a) t e h)
fault_at front (at.range_close k a b) t e reach h =
    other_fault front (at.range_close k a b) t e reach h (only (at.range_close k a b) t) (no_end (at.range_close k a b) t e h)
fault_at front (at.delay k) t e reach h = other_fault front (at.delay k) t e reach h (only (at.delay k) t) (no_end (at.delay k) t e h)
fault_at front (at.delay_number k) t e reach h =
    other_fault front (at.delay_number k) t e reach h (only (at.delay_number k) t) (no_end (at.delay_number k) t e h)
fault_at front (at.delay_fraction k) t e reach h =
    other_fault front (at.delay_fraction k) t e reach h (only (at.delay_fraction k) t) (no_end (at.delay_fraction k) t e h)
fault_at front (at.in_delay k d) t e reach h = other_fault front (at.in_delay k d) t e reach h (only (at.in_delay k d) t) (no_end (at.in_delay k d) t e h)
fault_at front (at.direction u what) t e reach h =
    other_fault front (at.direction u what) t e reach h (only (at.direction u what) t) (no_end (at.direction u what) t e h)
fault_at front (at.direction_wire u what) t e reach h =
    other_fault front (at.direction_wire u what) t e reach h (only (at.direction_wire u what) t) (no_end (at.direction_wire u what) t e h)
fault_at front (at.declared_name u what r) t e reach h =
    other_fault front (at.declared_name u what r) t e reach h (only (at.declared_name u what r) t) (no_end (at.declared_name u what r) t e h)
fault_at front (at.after_declared u what r) t e reach h =
    other_fault front (at.after_declared u what r) t e reach h (only (at.after_declared u what r) t) (no_end (at.after_declared u what r) t e h)
fault_at front (at.net_kind u what) t e reach h =
    other_fault front (at.net_kind u what) t e reach h (only (at.net_kind u what) t) (no_end (at.net_kind u what) t e h)
fault_at front (at.net_ranged u what r) t e reach h =
    other_fault front (at.net_ranged u what r) t e reach h (only (at.net_ranged u what r) t) (no_end (at.net_ranged u what r) t e h)
fault_at front (at.net_name u what r) t e reach h =
    other_fault front (at.net_name u what r) t e reach h (only (at.net_name u what r) t) (no_end (at.net_name u what r) t e h)
fault_at front (at.after_net u what r w) t e reach h =
    other_fault front (at.after_net u what r w) t e reach h (only (at.after_net u what r w) t) (no_end (at.after_net u what r w) t e h)
fault_at front (at.gate_kind u kind p) t e reach h =
    other_fault front (at.gate_kind u kind p) t e reach h (only (at.gate_kind u kind p) t) (no_end (at.gate_kind u kind p) t e h)
fault_at front (at.gate_name u kind p) t e reach h =
    other_fault front (at.gate_name u kind p) t e reach h (only (at.gate_name u kind p) t) (no_end (at.gate_name u kind p) t e h)
fault_at front (at.gate_open u kind p) t e reach h =
    other_fault front (at.gate_open u kind p) t e reach h (only (at.gate_open u kind p) t) (no_end (at.gate_open u kind p) t e h)
fault_at front (at.after_gate u kind p) t e reach h =
    other_fault front (at.after_gate u kind p) t e reach h (only (at.after_gate u kind p) t) (no_end (at.after_gate u kind p) t e h)
fault_at front (at.definition u d) t e reach h =
    other_fault front (at.definition u d) t e reach h (only (at.definition u d) t) (no_end (at.definition u d) t e h)
fault_at front (at.instance_name u d) t e reach h =
    other_fault front (at.instance_name u d) t e reach h (only (at.instance_name u d) t) (no_end (at.instance_name u d) t e h)
fault_at front (at.instance_open u d n) t e reach h =
    other_fault front (at.instance_open u d n) t e reach h (only (at.instance_open u d n) t) (no_end (at.instance_open u d n) t e h)
fault_at front (at.connections u d n) t e reach h =
    other_fault front (at.connections u d n) t e reach h (only (at.connections u d n) t) (no_end (at.connections u d n) t e h)
fault_at front (at.connection u d n cs) t e reach h =
    other_fault front (at.connection u d n cs) t e reach h (only (at.connection u d n cs) t) (no_end (at.connection u d n cs) t e h)
fault_at front (at.connection_dot u d n cs) t e reach h =
    other_fault front (at.connection_dot u d n cs) t e reach h (only (at.connection_dot u d n cs) t) (no_end (at.connection_dot u d n cs) t e h)
fault_at front (at.connection_port u d n cs) t e reach h =
    other_fault front (at.connection_port u d n cs) t e reach h (only (at.connection_port u d n cs) t) (no_end (at.connection_port u d n cs) t e h)
fault_at front (at.connection_open u d n cs p) t e reach h =
    other_fault front (at.connection_open u d n cs p) t e reach h (only (at.connection_open u d n cs p) t) (no_end (at.connection_open u d n cs p) t e h)
fault_at front (at.connection_value u d n cs p) t e reach h =
    other_fault front (at.connection_value u d n cs p) t e reach h (only (at.connection_value u d n cs p) t) (no_end (at.connection_value u d n cs p) t e h)
fault_at front (at.after_connection u d n cs) t e reach h =
    other_fault front (at.after_connection u d n cs) t e reach h (only (at.after_connection u d n cs) t) (no_end (at.after_connection u d n cs) t e h)
fault_at front (at.after_instance u d) t e reach h =
    other_fault front (at.after_instance u d) t e reach h (only (at.after_instance u d) t) (no_end (at.after_instance u d) t e h)
fault_at front (at.assign u) t e reach h = other_fault front (at.assign u) t e reach h (only (at.assign u) t) (no_end (at.assign u) t e h)
fault_at front (at.expr_start k) t e reach h = other_fault front (at.expr_start k) t e reach h (only (at.expr_start k) t) (no_end (at.expr_start k) t e h)
fault_at front (at.expr k p d ps) t e reach h = other_fault front (at.expr k p d ps) t e reach h (only (at.expr k p d ps) t) (no_end (at.expr k p d ps) t e h)
fault_at front (at.after_part_name k p d ps w) t e reach h =
    other_fault front (at.after_part_name k p d ps w) t e reach h (only (at.after_part_name k p d ps w) t) (no_end (at.after_part_name k p d ps w) t e h)
fault_at front (at.select k p d ps w) t e reach h =
    other_fault front (at.select k p d ps w) t e reach h (only (at.select k p d ps w) t) (no_end (at.select k p d ps w) t e h)
fault_at front (at.after_index k p d ps w n) t e reach h =
    other_fault front (at.after_index k p d ps w n) t e reach h (only (at.after_index k p d ps w n) t) (no_end (at.after_index k p d ps w n) t e h)
fault_at front (at.select_end k p d ps w n) t e reach h =
    other_fault front (at.select_end k p d ps w n) t e reach h (only (at.select_end k p d ps w n) t) (no_end (at.select_end k p d ps w n) t e h)
fault_at front (at.select_close k p d ps w n m) t e reach h =
    other_fault front (at.select_close k p d ps w n m) t e reach h (only (at.select_close k p d ps w n m) t) (no_end (at.select_close k p d ps w n m) t e h)
fault_at front (at.after_part k p d ps) t e reach h =
    other_fault front (at.after_part k p d ps) t e reach h (only (at.after_part k p d ps) t) (no_end (at.after_part k p d ps) t e h)
fault_at front (at.in_specify u) t e reach h = other_fault front (at.in_specify u) t e reach h (only (at.in_specify u) t) (no_end (at.in_specify u) t e h)
fault_at front (at.primitive_name b) t e reach h =
    other_fault front (at.primitive_name b) t e reach h (only (at.primitive_name b) t) (no_end (at.primitive_name b) t e h)
fault_at front (at.primitive_open b n) t e reach h =
    other_fault front (at.primitive_open b n) t e reach h (only (at.primitive_open b n) t) (no_end (at.primitive_open b n) t e h)
fault_at front (at.first_pin b n) t e reach h = other_fault front (at.first_pin b n) t e reach h (only (at.first_pin b n) t) (no_end (at.first_pin b n) t e h)
fault_at front (at.pin b n ps) t e reach h = other_fault front (at.pin b n ps) t e reach h (only (at.pin b n ps) t) (no_end (at.pin b n ps) t e h)
fault_at front (at.after_pin b n ps) t e reach h =
    other_fault front (at.after_pin b n ps) t e reach h (only (at.after_pin b n ps) t) (no_end (at.after_pin b n ps) t e h)
fault_at front (at.output_pin b n) t e reach h =
    other_fault front (at.output_pin b n) t e reach h (only (at.output_pin b n) t) (no_end (at.output_pin b n) t e h)
fault_at front (at.output_name b n) t e reach h =
    other_fault front (at.output_name b n) t e reach h (only (at.output_name b n) t) (no_end (at.output_name b n) t e h)
fault_at front (at.after_output p w) t e reach h =
    other_fault front (at.after_output p w) t e reach h (only (at.after_output p w) t) (no_end (at.after_output p w) t e h)
fault_at front (at.output_bit p w) t e reach h =
    other_fault front (at.output_bit p w) t e reach h (only (at.output_bit p w) t) (no_end (at.output_bit p w) t e h)
fault_at front (at.output_comma p) t e reach h =
    other_fault front (at.output_comma p) t e reach h (only (at.output_comma p) t) (no_end (at.output_comma p) t e h)
fault_at front (at.first_input p) t e reach h = other_fault front (at.first_input p) t e reach h (only (at.first_input p) t) (no_end (at.first_input p) t e h)
fault_at front (at.input_name p) t e reach h = other_fault front (at.input_name p) t e reach h (only (at.input_name p) t) (no_end (at.input_name p) t e h)
fault_at front (at.input_pin p) t e reach h = other_fault front (at.input_pin p) t e reach h (only (at.input_pin p) t) (no_end (at.input_pin p) t e h)
fault_at front (at.after_input p) t e reach h = other_fault front (at.after_input p) t e reach h (only (at.after_input p) t) (no_end (at.after_input p) t e h)
fault_at front (at.primitive_head_end p) t e reach h =
    other_fault front (at.primitive_head_end p) t e reach h (only (at.primitive_head_end p) t) (no_end (at.primitive_head_end p) t e h)
fault_at front (at.in_primitive p) t e reach h =
    other_fault front (at.in_primitive p) t e reach h (only (at.in_primitive p) t) (no_end (at.in_primitive p) t e h)
fault_at front (at.output_declared p) t e reach h =
    other_fault front (at.output_declared p) t e reach h (only (at.output_declared p) t) (no_end (at.output_declared p) t e h)
fault_at front (at.output_reg p) t e reach h = other_fault front (at.output_reg p) t e reach h (only (at.output_reg p) t) (no_end (at.output_reg p) t e h)
fault_at front (at.reg_declared p) t e reach h =
    other_fault front (at.reg_declared p) t e reach h (only (at.reg_declared p) t) (no_end (at.reg_declared p) t e h)
fault_at front (at.input_declared p) t e reach h =
    other_fault front (at.input_declared p) t e reach h (only (at.input_declared p) t) (no_end (at.input_declared p) t e h)
fault_at front (at.after_input_declared p) t e reach h =
    other_fault front (at.after_input_declared p) t e reach h (only (at.after_input_declared p) t) (no_end (at.after_input_declared p) t e h)
fault_at front (at.initial_declared p) t e reach h =
    other_fault front (at.initial_declared p) t e reach h (only (at.initial_declared p) t) (no_end (at.initial_declared p) t e h)
fault_at front (at.initial_equals p w) t e reach h =
    other_fault front (at.initial_equals p w) t e reach h (only (at.initial_equals p w) t) (no_end (at.initial_equals p w) t e h)
fault_at front (at.initial_bit p w) t e reach h =
    other_fault front (at.initial_bit p w) t e reach h (only (at.initial_bit p w) t) (no_end (at.initial_bit p w) t e h)
fault_at front (at.declared_semi p) t e reach h =
    other_fault front (at.declared_semi p) t e reach h (only (at.declared_semi p) t) (no_end (at.declared_semi p) t e h)
fault_at front (at.first_row p) t e reach h = other_fault front (at.first_row p) t e reach h (only (at.first_row p) t) (no_end (at.first_row p) t e h)
fault_at front (at.in_rows p) t e reach h = other_fault front (at.in_rows p) t e reach h (only (at.in_rows p) t) (no_end (at.in_rows p) t e h)
fault_at front (at.in_row p es) t e reach h = other_fault front (at.in_row p es) t e reach h (only (at.in_row p es) t) (no_end (at.in_row p es) t e h)
fault_at front (at.change_first k) t e reach h =
    other_fault front (at.change_first k) t e reach h (only (at.change_first k) t) (no_end (at.change_first k) t e h)
fault_at front (at.change_second k v) t e reach h =
    other_fault front (at.change_second k v) t e reach h (only (at.change_second k v) t) (no_end (at.change_second k v) t e h)
fault_at front (at.change_close k v w) t e reach h =
    other_fault front (at.change_close k v w) t e reach h (only (at.change_close k v w) t) (no_end (at.change_close k v w) t e h)
fault_at front (at.row_state p es) t e reach h =
    other_fault front (at.row_state p es) t e reach h (only (at.row_state p es) t) (no_end (at.row_state p es) t e h)
fault_at front (at.after_state p es s) t e reach h =
    other_fault front (at.after_state p es s) t e reach h (only (at.after_state p es s) t) (no_end (at.after_state p es s) t e h)
fault_at front (at.row_output p es s) t e reach h =
    other_fault front (at.row_output p es s) t e reach h (only (at.row_output p es s) t) (no_end (at.row_output p es s) t e h)
fault_at front (at.after_output_symbol p es s o) t e reach h =
    other_fault front (at.after_output_symbol p es s o) t e reach h (only (at.after_output_symbol p es s o) t) (no_end (at.after_output_symbol p es s o) t e h)
fault_at front (at.primitive_end p) t e reach h =
    other_fault front (at.primitive_end p) t e reach h (only (at.primitive_end p) t) (no_end (at.primitive_end p) t e h)

only_top : (b : Source) (stop : TokenAt) (l : Lexeme) (e : ParseErr) → finish_top b l stop ≡ Err e → e ≡ fault_of stop
only_top b stop ending e h = absurd cc
only_top b stop _ e h = cc

only_finish : (s : State) (stop : TokenAt) (e : ParseErr) → finish s stop ≡ Err e → e ≡ fault_of stop
only_finish (at.top b) stop e h = only_top b stop stop.what e h
only_finish _ stop e h = cc

stop_fault : (front : List TokenAt) (stop : TokenAt) (e : ParseErr) → is_left_out stop.what ≡ false → e ≡ fault_of stop → IsFault front stop e
stop_fault front stop e z h = record { left_out = λ l. let w = l.keyword in absurd cc; other = λ l. h }

refused : (front : List TokenAt) (s : State) (ts : List TokenAt) (stop : TokenAt) (e : ParseErr)
    → is_left_out stop.what ≡ false → Reaches front s → run s ts stop ≡ Err e → RefusesFirst (front ++ ts) stop e
refused front s [] stop e z r h =
    record { front = front; rest = []; split = refl; viable = viable_at front s r; stuck = λ q tree d. unfinished front s stop e tree r h (is_read stop q d); is = stop_fault front stop e z (only_finish s stop e h) }
refused front s (t ∷ ts) stop e z r h =
    let one : (n : Next) → step s t ≡ n → then_run n (λ next. run next ts stop) ≡ Err e → RefusesFirst (front ++ t ∷ ts) stop e =
    λ n. elim n as (λ n. step s t ≡ n → then_run n (λ next. run next ts stop) ≡ Err e → RefusesFirst (front ++ t ∷ ts) stop e) [
      | Ok s' ↦ λ q h. rw append_assoc at (refused (front ++ t ∷ []) s' ts stop e z (goes_on front s s' t r q) h)
      | Err x ↦ λ q h. record { front = front; rest = t ∷ ts; split = refl; viable = viable_at front s r; stuck = stuck_at front s t x r q; is = let f : IsFault front t x = fault_at front s t x r q in let z : x ≡ e = cc in subst (λ e. IsFault front t e) z f }
    ] in
    one (step s t) refl h

pub is_refused : (ts : List TokenAt) (stop : TokenAt) (e : ParseErr) → is_left_out stop.what ≡ false
    → run (at.top nothing) ts stop ≡ Err e → RefusesFirst ts stop e
is_refused ts stop e z h = refused [] (at.top nothing) ts stop e z (λ more stop. refl) h
