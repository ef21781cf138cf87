-- Reading token by token. A state has what was read so far, and a step says what may stand next.
use Rattle.std.specs.Prelude.{◌≡◌, ◌≢◌, ℕ, zero, suc, List, [], ◌∷◌, ◌++◌, cond, Option, Some, None, Result, Ok, Err}
use Rattle.design_cell.specs.declared.value.Value.{Value}
use Rattle.design_cell.specs.declared.symbol.Symbol.{Symbol}
use Rattle.design_cell.specs.declared.symbol.Symbol.TheVariants.{Single, Change}
use Rattle.netlist_grammar.specs.Lexemes.{Lexeme, ending, TokenAt, TokenStream, is_fixed, gate_kind_of, named_word}
use Rattle.netlist_grammar.specs.Lexemes.{int_at, bit_at, literal_at, symbols_of, is_left_out, fault_of}
use Rattle.netlist_grammar.specs.Trees.{Range, whole_part, bit_part, slice_part, literal_part, expr_of, declares}
use Rattle.netlist_grammar.specs.Trees.{declare_of, gate_of, instance_of, connection_of, no_connection, named_of}
use Rattle.netlist_grammar.specs.Trees.{is_sequential, row_of, singles, nothing, Under, under, with_item, with_port}
use Rattle.netlist_grammar.specs.Trees.{closed, Within, within, with_declare, with_pin, with_row, closed_primitive}
use Rattle.netlist_grammar.specs.Trees.{takes_value}
use Rattle.netlist_grammar.specs.declared.fixed.Fixed.{Fixed}
use Rattle.netlist_grammar.specs.declared.fixed.Fixed.TheVariants as fixed
use Rattle.netlist_grammar.specs.declared.refusal.ParseErr.{ParseErr}
use Rattle.netlist_grammar.specs.declared.refusal.ParseErr.TheVariants.{OutOfProfile, Memory}
use Rattle.netlist_grammar.specs.declared.tree.Word.{Word}
use Rattle.netlist_grammar.specs.declared.tree.Part.{Part}
use Rattle.netlist_grammar.specs.declared.tree.Expr.{Expr}
use Rattle.netlist_grammar.specs.declared.tree.GateKind.{GateKind}
use Rattle.netlist_grammar.specs.declared.tree.Connection.{Connection}
use Rattle.netlist_grammar.specs.declared.tree.NamedConnection.{NamedConnection}
use Rattle.netlist_grammar.specs.declared.tree.Connections.TheVariants.{Positional, Named}
use Rattle.netlist_grammar.specs.declared.tree.NetKind.{NetKind}
use Rattle.netlist_grammar.specs.declared.tree.NetKind.TheVariants as net
use Rattle.netlist_grammar.specs.declared.tree.Item.TheVariants as item
use Rattle.netlist_grammar.specs.declared.tree.PrimKind.TheVariants.{Output, Input, Reg, Initial}
use Rattle.netlist_grammar.specs.declared.tree.Source.{Source}

-- where an attribute stands
pub data Place : Type 0 where
  at_top : Source → Place
  in_module : Under → Place

-- what a range is of
pub data Ranged : Type 0 where
  port_range : Under → NetKind → Ranged
  declared_range : Under → NetKind → Ranged
  net_range : Under → NetKind → Ranged

-- what a delay is of
pub data Delayed : Type 0 where
  net_delay : Under → NetKind → Range → Delayed
  gate_delay : Under → GateKind → ℕ → Delayed
  instance_delay : Under → Word → Delayed
  assign_delay : Under → Delayed

-- what an expression is part of
pub data Context : Type 0 where
  terminal : Under → GateKind → ℕ → List Expr → Context
  left : Under → Context
  right : Under → Expr → Context
  declared : Under → NetKind → Range → Word → Context
  connected : Under → Word → Option Word → List Connection → Context
  connected_to : Under → Word → Option Word → List NamedConnection → Word → Context

-- which column of a row a symbol is of
pub data Column : Type 0 where
  entry : Within → List Symbol → Column
  state : Within → List Symbol → Column
  output : Within → List Symbol → Option Symbol → Column

pub data State : Type 0 where
  top : Source → State
  -- attributes
  attr_open : Place → State
  in_attr : Place → State
  attr_star : Place → State
  -- the head of a module
  module_name : Source → State
  after_name : Source → Word → State
  first_port : Source → Word → State
  port : Source → Word → List Word → State
  after_port : Source → Word → List Word → State
  port_direction : Under → NetKind → Range → State
  port_wire : Under → NetKind → Range → State
  port_name : Under → NetKind → Range → State
  after_declared_port : Under → NetKind → Range → State
  declared_port : Under → NetKind → Range → State
  head_end : Under → State
  in_items : Under → State
  -- ranges
  range_first : Ranged → State
  range_colon : Ranged → ℕ → State
  range_second : Ranged → ℕ → State
  range_close : Ranged → ℕ → ℕ → State
  -- delays
  delay : Delayed → State
  delay_number : Delayed → State
  delay_fraction : Delayed → State
  in_delay : Delayed → ℕ → State
  -- declarations
  direction : Under → NetKind → State
  direction_wire : Under → NetKind → State
  declared_name : Under → NetKind → Range → State
  after_declared : Under → NetKind → Range → State
  net_kind : Under → NetKind → State
  net_ranged : Under → NetKind → Range → State
  net_name : Under → NetKind → Range → State
  after_net : Under → NetKind → Range → Word → State
  -- gates
  gate_kind : Under → GateKind → ℕ → State
  gate_name : Under → GateKind → ℕ → State
  gate_open : Under → GateKind → ℕ → State
  after_gate : Under → GateKind → ℕ → State
  -- instances
  definition : Under → Word → State
  instance_name : Under → Word → State
  instance_open : Under → Word → Option Word → State
  connections : Under → Word → Option Word → State
  connection : Under → Word → Option Word → List Connection → State
  connection_dot : Under → Word → Option Word → List NamedConnection → State
  connection_port : Under → Word → Option Word → List NamedConnection → State
  connection_open : Under → Word → Option Word → List NamedConnection → Word → State
  connection_value : Under → Word → Option Word → List NamedConnection → Word → State
  after_connection : Under → Word → Option Word → List NamedConnection → State
  after_instance : Under → Word → State
  -- assignments
  assign : Under → State
  -- expressions
  expr_start : Context → State
  expr : Context → ℕ → ℕ → List Part → State
  after_part_name : Context → ℕ → ℕ → List Part → Word → State
  select : Context → ℕ → ℕ → List Part → Word → State
  after_index : Context → ℕ → ℕ → List Part → Word → ℕ → State
  select_end : Context → ℕ → ℕ → List Part → Word → ℕ → State
  select_close : Context → ℕ → ℕ → List Part → Word → ℕ → ℕ → State
  after_part : Context → ℕ → ℕ → List Part → State
  -- specify blocks
  in_specify : Under → State
  -- the head of a primitive
  primitive_name : Source → State
  primitive_open : Source → Word → State
  first_pin : Source → Word → State
  pin : Source → Word → List Word → State
  after_pin : Source → Word → List Word → State
  output_pin : Source → Word → State
  output_name : Source → Word → State
  after_output : Within → Word → State
  output_bit : Within → Word → State
  output_comma : Within → State
  first_input : Within → State
  input_name : Within → State
  input_pin : Within → State
  after_input : Within → State
  primitive_head_end : Within → State
  -- the declarations of a primitive
  in_primitive : Within → State
  output_declared : Within → State
  output_reg : Within → State
  reg_declared : Within → State
  input_declared : Within → State
  after_input_declared : Within → State
  initial_declared : Within → State
  initial_equals : Within → Word → State
  initial_bit : Within → Word → State
  declared_semi : Within → State
  -- the table of a primitive
  first_row : Within → State
  in_rows : Within → State
  in_row : Within → List Symbol → State
  change_first : Column → State
  change_second : Column → ℕ → State
  change_close : Column → ℕ → ℕ → State
  row_state : Within → List Symbol → State
  after_state : Within → List Symbol → Symbol → State
  row_output : Within → List Symbol → Option Symbol → State
  after_output_symbol : Within → List Symbol → Option Symbol → Symbol → State
  primitive_end : Within → State

abbrev pub Next : Type 0
Next = Result State ParseErr

-- ---- tests, each with what follows it and what is tried otherwise

abbrev pub on : Fixed → TokenAt → State → Next → Next
on f t s otherwise = cond (is_fixed f t.what) (Ok s) otherwise

abbrev pub on_some : {X : Type 0} → Option X → (X → State) → Next → Next
on_some (Some x) f otherwise = Ok (f x)
on_some None f otherwise = otherwise

abbrev pub on_name : TokenAt → (Word → State) → Next → Next
on_name t f otherwise = on_some (named_word t) f otherwise

abbrev pub on_int : TokenAt → (ℕ → State) → Next → Next
on_int t f otherwise = on_some (int_at t.what) f otherwise

abbrev pub on_bit : TokenAt → (Value → State) → Next → Next
on_bit t f otherwise = on_some (bit_at t.what) f otherwise

abbrev pub on_literal : TokenAt → (ℕ × ℕ → State) → Next → Next
on_literal t f otherwise = on_some (literal_at t.what) f otherwise

abbrev pub on_gate : TokenAt → (GateKind → State) → Next → Next
on_gate t f otherwise = on_some (gate_kind_of t.what) f otherwise

-- the symbols of a token, where it has one or more
abbrev pub on_bytes : List ℕ → (ℕ → List ℕ → State) → Next → Next
on_bytes [] f otherwise = otherwise
on_bytes (b ∷ bs) f otherwise = Ok (f b bs)

abbrev pub on_symbols : TokenAt → (ℕ → List ℕ → State) → Next → Next
on_symbols t f otherwise = on_bytes (symbols_of t.what) f otherwise

-- the symbols of a token, where it has one
abbrev pub on_one_byte : List ℕ → (ℕ → State) → Next → Next
on_one_byte (b ∷ []) f otherwise = Ok (f b)
on_one_byte _ f otherwise = otherwise

abbrev pub on_symbol : TokenAt → (ℕ → State) → Next → Next
on_symbol t f otherwise = on_one_byte (symbols_of t.what) f otherwise

-- the symbols of a token, where it has one or two
abbrev pub on_few_bytes : List ℕ → (ℕ → State) → (ℕ → ℕ → State) → Next → Next
on_few_bytes (b ∷ []) f g otherwise = Ok (f b)
on_few_bytes (b ∷ c ∷ []) f g otherwise = Ok (g b c)
on_few_bytes _ f g otherwise = otherwise

abbrev pub refused : TokenAt → Next
refused t = Err (fault_of t)

-- ---- where parts that stand in several places lead

abbrev pub after_attr : Place → State
after_attr (at_top b) = top b
after_attr (in_module u) = in_items u

abbrev pub after_range : Ranged → Range → State
after_range (port_range u what) r = port_name u what r
after_range (declared_range u what) r = declared_name u what r
after_range (net_range u what) r = net_ranged u what r

abbrev pub after_delay : Delayed → State
after_delay (net_delay u what r) = net_name u what r
after_delay (gate_delay u kind at) = gate_name u kind at
after_delay (instance_delay u d) = instance_name u d
after_delay (assign_delay u) = expr_start (left u)

-- after a parenthesis that closes, inside a number of others
abbrev pub leave_delay : Delayed → ℕ → State
leave_delay k zero = after_delay k
leave_delay k (suc d) = in_delay k d

-- a symbol that is put into its column
abbrev pub after_symbol : Column → Symbol → State
after_symbol (entry p es) s = in_row p (es ++ s ∷ [])
after_symbol (state p es) s = after_state p es s
after_symbol (output p es st) s = after_output_symbol p es st s

-- ---- steps that several states share

-- [ 'wire' ] [ range ] name, a port
abbrev pub port_step : Under → NetKind → Range → TokenAt → Next
port_step u what r t =
    on fixed.Wire t (port_wire u what r)
    (on fixed.SquareOpen t (range_first (port_range u what))
    (on_name t (λ w. after_declared_port (with_port u what r w) what r)
    (refused t)))

-- name
abbrev pub net_name_step : Under → NetKind → Range → TokenAt → Next
net_name_step u what r t = on_name t (λ w. after_net u what r w) (refused t)

-- [ name ] '('
abbrev pub gate_name_step : Under → GateKind → ℕ → TokenAt → Next
gate_name_step u kind at t =
    on fixed.Open t (expr_start (terminal u kind at [])) (on_name t (λ w. gate_open u kind at) (refused t))

-- [ name ] '('
abbrev pub instance_name_step : Under → Word → TokenAt → Next
instance_name_step u d t =
    on fixed.Open t (connections u d None) (on_name t (λ w. instance_open u d (Some w)) (refused t))

-- the start of a part
abbrev pub expr_step : Context → ℕ → ℕ → List Part → TokenAt → Next
expr_step k at d ps t =
    on fixed.BraceOpen t (expr k at (suc d) ps)
    (on_name t (λ w. after_part_name k at d ps w)
    (on_literal t (λ l. after_part k at d (ps ++ literal_part t.at l ∷ []))
    (refused t)))

abbrev pub after_delay_step : Delayed → TokenAt → Next
after_delay_step (net_delay u what r) t = net_name_step u what r t
after_delay_step (gate_delay u kind at) t = gate_name_step u kind at t
after_delay_step (instance_delay u d) t = instance_name_step u d t
after_delay_step (assign_delay u) t = expr_step (left u) t.at 0 [] t

-- after an expression
abbrev pub after_whole : Context → Expr → TokenAt → Next
after_whole (terminal u kind at es) e t =
    on fixed.Comma t (expr_start (terminal u kind at (es ++ e ∷ [])))
    (on fixed.Close t (after_gate (with_item u (gate_of kind at (es ++ e ∷ []))) kind at)
    (refused t))
after_whole (left u) e t = on fixed.Equals t (expr_start (right u e)) (refused t)
after_whole (right u l) e t =
    on fixed.Comma t (expr_start (left (with_item u (item.Assign l e))))
    (on fixed.Semi t (in_items (with_item u (item.Assign l e)))
    (refused t))
after_whole (declared u what r w) e t =
    on fixed.Comma t (net_name (with_item u (declare_of what r w (Some e))) what r)
    (on fixed.Semi t (in_items (with_item u (declare_of what r w (Some e))))
    (refused t))
after_whole (connected u d n cs) e t =
    on fixed.Comma t (connection u d n (cs ++ connection_of e ∷ []))
    (on fixed.Close t (after_instance (with_item u (instance_of d n (Positional (cs ++ connection_of e ∷ [])))) d)
    (refused t))
after_whole (connected_to u d n cs p) e t =
    on fixed.Close t (after_connection u d n (cs ++ named_of p (Some e) ∷ [])) (refused t)

-- after a part, inside a number of braces
abbrev pub after_expr : Context → ℕ → ℕ → List Part → TokenAt → Next
after_expr k at zero ps t = after_whole k (expr_of at ps) t
after_expr k at (suc d) ps t =
    on fixed.Comma t (expr k at (suc d) ps) (on fixed.BraceClose t (after_part k at d ps) (refused t))

-- the first token of a row
abbrev pub row_step : Within → TokenAt → Next → Next
row_step p t otherwise =
    on_symbols t (λ b bs. in_row p (singles (b ∷ bs)))
    (on fixed.Open t (change_first (entry p [])) otherwise)

-- after the entries of a row
abbrev pub after_entries : Within → List Symbol → State
after_entries p es = cond (is_sequential p.declarations) (row_state p es) (row_output p es None)

-- ---- a step

abbrev pub step : State → TokenAt → Next
step (top b) t =
    on fixed.Module t (module_name b)
    (on fixed.Primitive t (primitive_name b)
    (on fixed.Open t (attr_open (at_top b))
    (refused t)))
step (attr_open k) t = on fixed.Star t (in_attr k) (refused t)
step (in_attr k) t = on fixed.Star t (attr_star k) (Ok (in_attr k))
step (attr_star k) t = on fixed.Close t (after_attr k) (on fixed.Star t (attr_star k) (Ok (in_attr k)))
step (module_name b) t = on_name t (λ w. after_name b w) (refused t)
step (after_name b n) t = on fixed.Open t (first_port b n) (on fixed.Semi t (in_items (under b n [] [])) (refused t))
step (first_port b n) t =
    on fixed.Close t (head_end (under b n [] []))
    (on fixed.Input t (port_direction (under b n [] []) net.Input None)
    (on fixed.Output t (port_direction (under b n [] []) net.Output None)
    (on_name t (λ w. after_port b n (w ∷ []))
    (refused t))))
step (port b n ps) t = on_name t (λ w. after_port b n (ps ++ w ∷ [])) (refused t)
step (after_port b n ps) t = on fixed.Comma t (port b n ps) (on fixed.Close t (head_end (under b n ps [])) (refused t))
step (port_direction u what r) t = port_step u what r t
step (port_wire u what r) t =
    on fixed.SquareOpen t (range_first (port_range u what))
    (on_name t (λ w. after_declared_port (with_port u what r w) what r)
    (refused t))
step (port_name u what r) t = on_name t (λ w. after_declared_port (with_port u what r w) what r) (refused t)
step (after_declared_port u what r) t =
    on fixed.Comma t (declared_port u what r) (on fixed.Close t (head_end u) (refused t))
step (declared_port u what r) t =
    on fixed.Input t (port_direction u net.Input None)
    (on fixed.Output t (port_direction u net.Output None)
    (port_step u what r t))
step (head_end u) t = on fixed.Semi t (in_items u) (refused t)
step (in_items u) t =
    on fixed.Endmodule t (top (closed u))
    (on fixed.Open t (attr_open (in_module u))
    (on fixed.Input t (direction u net.Input)
    (on fixed.Output t (direction u net.Output)
    (on fixed.Wire t (net_kind u net.Wire)
    (on fixed.Tri t (net_kind u net.Wire)
    (on fixed.Supply0 t (net_kind u net.Supply0)
    (on fixed.Supply1 t (net_kind u net.Supply1)
    (on fixed.Reg t (declared_name u net.Reg None)
    (on fixed.Assign t (assign u)
    (on fixed.Specify t (in_specify u)
    (on_gate t (λ kind. gate_kind u kind t.at)
    (cond (is_left_out t.what) (Err (OutOfProfile t.at))
    (on_name t (λ w. definition u w)
    (refused t))))))))))))))
step (range_first k) t = on_int t (λ a. range_colon k a) (refused t)
step (range_colon k a) t = on fixed.Colon t (range_second k a) (refused t)
step (range_second k a) t = on_int t (λ b. range_close k a b) (refused t)
step (range_close k a b) t = on fixed.SquareClose t (after_range k (Some (a, b))) (refused t)
step (delay k) t = on fixed.Open t (in_delay k 0) (on_int t (λ n. delay_number k) (refused t))
step (delay_number k) t = on fixed.Dot t (delay_fraction k) (after_delay_step k t)
step (delay_fraction k) t = on_int t (λ n. after_delay k) (refused t)
step (in_delay k d) t = on fixed.Close t (leave_delay k d) (on fixed.Open t (in_delay k (suc d)) (Ok (in_delay k d)))
step (direction u what) t =
    on fixed.Wire t (direction_wire u what)
    (on fixed.SquareOpen t (range_first (declared_range u what))
    (on_name t (λ w. after_declared (with_item u (declares what None w)) what None)
    (refused t)))
step (direction_wire u what) t =
    on fixed.SquareOpen t (range_first (declared_range u what))
    (on_name t (λ w. after_declared (with_item u (declares what None w)) what None)
    (refused t))
step (declared_name u what r) t = on_name t (λ w. after_declared (with_item u (declares what r w)) what r) (refused t)
step (after_declared u what r) t = on fixed.Comma t (declared_name u what r) (on fixed.Semi t (in_items u) (refused t))
step (net_kind u what) t =
    on fixed.SquareOpen t (range_first (net_range u what))
    (on fixed.Hash t (delay (net_delay u what None))
    (net_name_step u what None t))
step (net_ranged u what r) t = on fixed.Hash t (delay (net_delay u what r)) (net_name_step u what r t)
step (net_name u what r) t = net_name_step u what r t
step (after_net u what r w) t =
    on fixed.Comma t (net_name (with_item u (declares what r w)) what r)
    (on fixed.Semi t (in_items (with_item u (declares what r w)))
    (cond (takes_value what) (on fixed.Equals t (expr_start (declared u what r w)) (refused t))
    (refused t)))
step (gate_kind u kind at) t = on fixed.Hash t (delay (gate_delay u kind at)) (gate_name_step u kind at t)
step (gate_name u kind at) t = gate_name_step u kind at t
step (gate_open u kind at) t = on fixed.Open t (expr_start (terminal u kind at [])) (refused t)
step (after_gate u kind at) t = on fixed.Comma t (gate_name u kind at) (on fixed.Semi t (in_items u) (refused t))
step (definition u d) t = on fixed.Hash t (delay (instance_delay u d)) (instance_name_step u d t)
step (instance_name u d) t = instance_name_step u d t
step (instance_open u d n) t = on fixed.Open t (connections u d n) (refused t)
step (connections u d n) t =
    on fixed.Close t (after_instance (with_item u (instance_of d n (Positional []))) d)
    (on fixed.Comma t (connection u d n (no_connection t.at ∷ []))
    (on fixed.Dot t (connection_port u d n [])
    (expr_step (connected u d n []) t.at 0 [] t)))
step (connection u d n cs) t =
    on fixed.Close t (after_instance (with_item u (instance_of d n (Positional (cs ++ no_connection t.at ∷ [])))) d)
    (on fixed.Comma t (connection u d n (cs ++ no_connection t.at ∷ []))
    (expr_step (connected u d n cs) t.at 0 [] t))
step (connection_dot u d n cs) t = on fixed.Dot t (connection_port u d n cs) (refused t)
step (connection_port u d n cs) t = on_name t (λ p. connection_open u d n cs p) (refused t)
step (connection_open u d n cs p) t = on fixed.Open t (connection_value u d n cs p) (refused t)
step (connection_value u d n cs p) t =
    on fixed.Close t (after_connection u d n (cs ++ named_of p None ∷ []))
    (expr_step (connected_to u d n cs p) t.at 0 [] t)
step (after_connection u d n cs) t =
    on fixed.Comma t (connection_dot u d n cs)
    (on fixed.Close t (after_instance (with_item u (instance_of d n (Named cs))) d)
    (refused t))
step (after_instance u d) t = on fixed.Comma t (instance_name u d) (on fixed.Semi t (in_items u) (refused t))
step (assign u) t = on fixed.Hash t (delay (assign_delay u)) (expr_step (left u) t.at 0 [] t)
step (expr_start k) t = expr_step k t.at 0 [] t
step (expr k at d ps) t = expr_step k at d ps t
step (after_part_name k at d ps w) t =
    on fixed.SquareOpen t (select k at d ps w) (after_expr k at d (ps ++ whole_part w ∷ []) t)
step (select k at d ps w) t = on_int t (λ n. after_index k at d ps w n) (refused t)
step (after_index k at d ps w n) t =
    on fixed.SquareClose t (after_part k at d (ps ++ bit_part w n ∷ []))
    (on fixed.Colon t (select_end k at d ps w n)
    (refused t))
step (select_end k at d ps w n) t = on_int t (λ m. select_close k at d ps w n m) (refused t)
step (select_close k at d ps w n m) t =
    on fixed.SquareClose t (after_part k at d (ps ++ slice_part w n m ∷ [])) (refused t)
step (after_part k at d ps) t = after_expr k at d ps t
step (in_specify u) t = on fixed.Endspecify t (in_items u) (Ok (in_specify u))
step (primitive_name b) t = on_name t (λ w. primitive_open b w) (refused t)
step (primitive_open b n) t = on fixed.Open t (first_pin b n) (refused t)
step (first_pin b n) t = on fixed.Output t (output_pin b n) (on_name t (λ w. after_pin b n (w ∷ [])) (refused t))
step (pin b n ps) t = on_name t (λ w. after_pin b n (ps ++ w ∷ [])) (refused t)
step (after_pin b n ps) t =
    on fixed.Comma t (pin b n ps) (on fixed.Close t (primitive_head_end (within b n ps [] [])) (refused t))
step (output_pin b n) t =
    on fixed.Reg t (output_name b n)
    (on_name t (λ w. after_output (with_pin (within b n [] [] []) Output w) w)
    (refused t))
step (output_name b n) t =
    on_name t (λ w. after_output (with_declare (with_pin (within b n [] [] []) Output w) Reg w) w) (refused t)
step (after_output p w) t = on fixed.Equals t (output_bit p w) (on fixed.Comma t (first_input p) (refused t))
step (output_bit p w) t = on_bit t (λ v. output_comma (with_declare p (Initial v) w)) (refused t)
step (output_comma p) t = on fixed.Comma t (first_input p) (refused t)
step (first_input p) t = on fixed.Input t (input_name p) (refused t)
step (input_name p) t = on_name t (λ w. after_input (with_pin p Input w)) (refused t)
step (input_pin p) t = on fixed.Input t (input_name p) (on_name t (λ w. after_input (with_pin p Input w)) (refused t))
step (after_input p) t = on fixed.Comma t (input_pin p) (on fixed.Close t (primitive_head_end p) (refused t))
step (primitive_head_end p) t = on fixed.Semi t (in_primitive p) (refused t)
step (in_primitive p) t =
    on fixed.Output t (output_declared p)
    (on fixed.Reg t (reg_declared p)
    (on fixed.Input t (input_declared p)
    (on fixed.Initial t (initial_declared p)
    (on fixed.Table t (first_row p)
    (refused t)))))
step (output_declared p) t =
    on fixed.Reg t (output_reg p)
    (on_name t (λ w. declared_semi (with_declare p Output w))
    (refused t))
step (output_reg p) t = on_name t (λ w. declared_semi (with_declare (with_declare p Output w) Reg w)) (refused t)
step (reg_declared p) t = on_name t (λ w. declared_semi (with_declare p Reg w)) (refused t)
step (input_declared p) t = on_name t (λ w. after_input_declared (with_declare p Input w)) (refused t)
step (after_input_declared p) t = on fixed.Comma t (input_declared p) (on fixed.Semi t (in_primitive p) (refused t))
step (initial_declared p) t = on_name t (λ w. initial_equals p w) (refused t)
step (initial_equals p w) t = on fixed.Equals t (initial_bit p w) (refused t)
step (initial_bit p w) t = on_bit t (λ v. declared_semi (with_declare p (Initial v) w)) (refused t)
step (declared_semi p) t = on fixed.Semi t (in_primitive p) (refused t)
step (first_row p) t = row_step p t (refused t)
step (in_rows p) t = row_step p t (on fixed.Endtable t (primitive_end p) (refused t))
step (in_row p es) t =
    on_symbols t (λ b bs. in_row p (es ++ singles (b ∷ bs)))
    (on fixed.Open t (change_first (entry p es))
    (on fixed.Colon t (after_entries p es)
    (refused t)))
step (change_first k) t =
    on_few_bytes (symbols_of t.what) (λ v. change_second k v) (λ v w. change_close k v w) (refused t)
step (change_second k v) t = on_symbol t (λ w. change_close k v w) (refused t)
step (change_close k v w) t = on fixed.Close t (after_symbol k (Change v w)) (refused t)
step (row_state p es) t =
    on_symbol t (λ b. after_state p es (Single b))
    (on fixed.Open t (change_first (state p es))
    (refused t))
step (after_state p es s) t = on fixed.Colon t (row_output p es (Some s)) (refused t)
step (row_output p es s) t =
    on_symbol t (λ b. after_output_symbol p es s (Single b))
    (on fixed.Open t (change_first (output p es s))
    (refused t))
step (after_output_symbol p es s o) t = on fixed.Semi t (in_rows (with_row p (row_of es s o))) (refused t)
step (primitive_end p) t = on fixed.Endprimitive t (top (closed_primitive p)) (refused t)

-- ---- a run

abbrev pub finish_top : Source → Lexeme → TokenAt → Result Source ParseErr
finish_top b ending t = Ok b
finish_top b _ t = Err (fault_of t)

abbrev pub finish : State → TokenAt → Result Source ParseErr
finish (top b) t = finish_top b t.what t
finish _ t = Err (fault_of t)

abbrev pub then_run : Next → (State → Result Source ParseErr) → Result Source ParseErr
then_run (Ok s) k = k s
then_run (Err e) k = Err e

-- the answer from a state on
abbrev pub run : State → List TokenAt → TokenAt → Result Source ParseErr
run s [] stop = finish s stop
run s (t ∷ ts) stop = then_run (step s t) (λ next. run next ts stop)

abbrev pub goes : State → TokenStream → Result Source ParseErr
goes s w = run s w.tokens w.stop

-- the answer for a whole text
abbrev pub parse_of : TokenStream → Result Source ParseErr
parse_of w = goes (top nothing) w

-- the refusal, unless there was no memory
abbrev pub RefusesNetlist : Result Source ParseErr → ParseErr → Type 0
RefusesNetlist r e = e ≢ Memory → r ≡ Err e

-- what a reader answers, by the run
abbrev pub Answers : Result Source ParseErr → TokenStream → Type 0
Answers (Ok s) w = parse_of w ≡ Ok s
Answers (Err e) w = RefusesNetlist (parse_of w) e
