-- Steps of runs.
use Rattle.std.proofs.Common.{◌≡◌, ◌≢◌, ◌∙◌, ℕ, List, [], ◌∷◌, true, false, Option, None, Result, Ok, Err, refl, ap}
use Rattle.netlist_grammar.specs.Lexemes.{TokenAt, TokenStream, head, head_of, is_fixed, gate_kind_of, is_left_out}
use Rattle.netlist_grammar.specs.Machine.{State, in_items, in_rows, first_row, input_pin, input_name, after_name}
use Rattle.netlist_grammar.specs.Machine.{head_end, first_port, port, first_pin, pin, declared_port, port_direction}
use Rattle.netlist_grammar.specs.Machine.{attr_star, in_attr, delay_number, net_kind, net_ranged, net_name}
use Rattle.netlist_grammar.specs.Machine.{gate_kind, gate_name, definition, instance_name, assign, expr_start}
use Rattle.netlist_grammar.specs.Machine.{connections, connection, connection_value, Place, left, connected}
use Rattle.netlist_grammar.specs.Machine.{connected_to, Delayed, net_delay, gate_delay, instance_delay, assign_delay}
use Rattle.netlist_grammar.specs.Machine.{run, step, finish, goes, then_run, after_delay}
use Rattle.netlist_grammar.specs.Trees.{Range, Under, under, Within}
use Rattle.netlist_grammar.specs.declared.tree.Source.{Source}
use Rattle.netlist_grammar.specs.declared.fixed.Fixed.TheVariants as fixed
use Rattle.netlist_grammar.specs.declared.refusal.ParseErr.{ParseErr}
use Rattle.netlist_grammar.specs.declared.refusal.ParseErr.TheVariants.{OutOfProfile}
use Rattle.netlist_grammar.specs.declared.tree.Connection.{Connection}
use Rattle.netlist_grammar.specs.declared.tree.GateKind.{GateKind}
use Rattle.netlist_grammar.specs.declared.tree.NamedConnection.{NamedConnection}
use Rattle.netlist_grammar.specs.declared.tree.NetKind.{NetKind}
use Rattle.netlist_grammar.specs.declared.tree.Word.{Word}
use Rattle.netlist_reader.specs.Reads.{ReadsTokens, BeginsNone}

alike_of : (s s' : State) (ts : List TokenAt) (stop : TokenAt) → step s (head_of ts stop) ≡ step s' (head_of ts stop)
    → finish s stop ≡ finish s' stop → run s ts stop ≡ run s' ts stop
alike_of s s' [] stop h k = k
alike_of s s' (t ∷ ts) stop h k = ap (λ n. then_run n (λ next. run next ts stop)) h

-- two states that go on alike here
pub alike : (s s' : State) (w : TokenStream) → step s (head w) ≡ step s' (head w) → finish s w.stop ≡ finish s' w.stop → goes s w ≡ goes s' w
alike s s' w h k = alike_of s s' w.tokens w.stop h k

-- a step, then what is read from there
pub reads_on : {X : Type 0} (s s' : State) (old mid : TokenStream) (r : Result X ParseErr) (next : X → State) (new : TokenStream)
    → goes s old ≡ goes s' mid → ReadsTokens s' mid r next new → ReadsTokens s old r next new
reads_on s s' old mid (Ok x) next new h k = h ∙ k
reads_on s s' old mid (Err e) next new h k = λ p. h ∙ k p

-- no range stands here
pub net_no_range : (u : Under) (what : NetKind) (w : TokenStream) → is_fixed fixed.SquareOpen (head w).what ≡ false
    → goes (net_kind u what) w ≡ goes (net_ranged u what None) w
net_no_range u what w h = alike _ _ w (rw h refl) refl

-- no delay stands here
pub net_no_delay : (u : Under) (what : NetKind) (r : Range) (w : TokenStream)
    → is_fixed fixed.Hash (head w).what ≡ false → goes (net_ranged u what r) w ≡ goes (net_name u what r) w
net_no_delay u what r w h = alike _ _ w (rw h refl) refl

pub gate_no_delay : (u : Under) (kind : GateKind) (at : ℕ) (w : TokenStream) → is_fixed fixed.Hash (head w).what ≡ false
    → goes (gate_kind u kind at) w ≡ goes (gate_name u kind at) w
gate_no_delay u kind at w h = alike _ _ w (rw h refl) refl

pub instance_no_delay : (u : Under) (d : Word) (w : TokenStream) → is_fixed fixed.Hash (head w).what ≡ false
    → goes (definition u d) w ≡ goes (instance_name u d) w
instance_no_delay u d w h = alike _ _ w (rw h refl) refl

pub assign_no_delay : (u : Under) (w : TokenStream) → is_fixed fixed.Hash (head w).what ≡ false → goes (assign u) w ≡ goes (expr_start (left u)) w
assign_no_delay u w h = alike _ _ w (rw h refl) refl

pub ruleset no_delay = (net_no_delay, gate_no_delay, instance_no_delay, assign_no_delay)

-- a delay has no fraction here
pub no_fraction : (k : Delayed) (w : TokenStream) → is_fixed fixed.Dot (head w).what ≡ false → goes (delay_number k) w ≡ goes (after_delay k) w
no_fraction (net_delay u what r) w h = alike _ _ w (rw h refl) refl
no_fraction (gate_delay u kind at) w h = alike _ _ w (rw h refl) refl
no_fraction (instance_delay u d) w h = alike _ _ w (rw h refl) refl
no_fraction (assign_delay u) w h = alike _ _ w (rw h refl) refl

-- a star that closes nothing is one of the tokens
pub star_goes_on : (k : Place) (w : TokenStream) → is_fixed fixed.Close (head w).what ≡ false → goes (attr_star k) w ≡ goes (in_attr k) w
star_goes_on k w h = alike _ _ w (rw h refl) refl

-- connections by position
pub positional_starts : (u : Under) (d : Word) (n : Option Word) (w : TokenStream)
    → is_fixed fixed.Close (head w).what ≡ false → is_fixed fixed.Dot (head w).what ≡ false
    → goes (connections u d n) w ≡ goes (connection u d n []) w
positional_starts u d n w h k = alike _ _ w (rw (h, k) refl) refl

-- an expression is connected
pub connection_starts : (u : Under) (d : Word) (n : Option Word) (cs : List Connection) (w : TokenStream)
    → is_fixed fixed.Close (head w).what ≡ false → is_fixed fixed.Comma (head w).what ≡ false
    → goes (connection u d n cs) w ≡ goes (expr_start (connected u d n cs)) w
connection_starts u d n cs w h k = alike _ _ w (rw (h, k) refl) refl

pub named_starts : (u : Under) (d : Word) (n : Option Word) (cs : List NamedConnection) (p : Word) (w : TokenStream)
    → is_fixed fixed.Close (head w).what ≡ false
    → goes (connection_value u d n cs p) w ≡ goes (expr_start (connected_to u d n cs p)) w
named_starts u d n cs p w h = alike _ _ w (rw h refl) refl

-- no ports
pub no_ports : (b : Source) (n : Word) (w : TokenStream) → is_fixed fixed.Open (head w).what ≡ false
    → goes (after_name b n) w ≡ goes (head_end (under b n [] [])) w
no_ports b n w h = alike _ _ w (rw h refl) refl

-- the first of some ports
pub plain_port : (b : Source) (n : Word) (w : TokenStream) → is_fixed fixed.Close (head w).what ≡ false
    → is_fixed fixed.Input (head w).what ≡ false → is_fixed fixed.Output (head w).what ≡ false
    → goes (first_port b n) w ≡ goes (port b n []) w
plain_port b n w h k l = alike _ _ w (rw (h, k, l) refl) refl

-- the first pin of some
pub plain_pin : (b : Source) (n : Word) (w : TokenStream) → is_fixed fixed.Output (head w).what ≡ false → goes (first_pin b n) w ≡ goes (pin b n []) w
plain_pin b n w h = alike _ _ w (rw h refl) refl

-- a port without a direction
pub undirected : (u : Under) (what : NetKind) (r : Range) (w : TokenStream) → is_fixed fixed.Input (head w).what ≡ false
    → is_fixed fixed.Output (head w).what ≡ false → goes (declared_port u what r) w ≡ goes (port_direction u what r) w
undirected u what r w h k = alike _ _ w (rw (h, k) refl) refl

left_out_of : (u : Under) (ts : List TokenAt) (stop : TokenAt) → BeginsNone (head_of ts stop).what
    → gate_kind_of (head_of ts stop).what ≡ None → is_left_out (head_of ts stop).what ≡ true → ts ≢ []
    → run (in_items u) ts stop ≡ Err (OutOfProfile (head_of ts stop).at)
left_out_of u [] stop b g h k = absurd (k refl)
left_out_of u (t ∷ ts) stop b g h k = rw (b.endmodule, b.paren, b.input, b.output, b.wire, b.tri, b.supply0, b.supply1, b.reg, b.assign, b.specify, g, h) refl

-- an item that the profile leaves out
pub left_out : (u : Under) (w : TokenStream) → BeginsNone (head w).what → gate_kind_of (head w).what ≡ None
    → is_left_out (head w).what ≡ true → w.tokens ≢ [] → goes (in_items u) w ≡ Err (OutOfProfile (head w).at)
left_out u w b g h k = left_out_of u w.tokens w.stop b g h k

-- the table goes on
pub next_row : (p : Within) (w : TokenStream) → is_fixed fixed.Endtable (head w).what ≡ false → goes (in_rows p) w ≡ goes (first_row p) w
next_row p w h = alike _ _ w (rw h refl) refl

-- an input without its keyword
pub undirected_input : (p : Within) (w : TokenStream) → is_fixed fixed.Input (head w).what ≡ false → goes (input_pin p) w ≡ goes (input_name p) w
undirected_input p w h = alike _ _ w (rw h refl) refl
