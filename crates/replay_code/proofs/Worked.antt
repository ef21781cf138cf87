-- Texts of small codes, worked out by hand.
use Rattle.std.proofs.Common.{◌≡◌, ℕ, ◌<◌, ◌^◌, false, Option, None, Some, Ok, Err, List, [], ◌∷◌, ◌++◌, codes, decimal, refl, ap, ◌∙◌, lit<, lit≤}
use Rattle.std.proofs.lemmas.List.Elements.{All-from_recursion}
use Rattle.std.proofs.lemmas.Fmt.{decimal_digit, decimal_step}
use Rattle.design_cell.specs.declared.value.Value.{Value}
use Rattle.design_cell.specs.declared.value.Value.TheVariants.{Zero, One}
use Rattle.design_circuit.specs.declared.design.Design.{Design}
use Rattle.design_circuit.specs.declared.design.Driver.TheVariants.{Input}
use Rattle.design_circuit.specs.declared.design.Net.{Net}
use Rattle.design_circuit.specs.declared.force.Event.{Event}
use Rattle.design_circuit.specs.declared.stim.Levels.TheVariants.{Change}
use Rattle.design_circuit.specs.declared.stim.StartRule.TheVariants.{Cold}
use Rattle.design_circuit.specs.declared.stim.Stim.{Stim}
use Rattle.netlist_tokens.specs.Scan.{left, wire}
use Rattle.replay_code.specs.Code.{Code, code}
use Rattle.replay_code.specs.Grammar.{IsCode, MayIndex, Names, Path, Statement, Statements}
use Rattle.replay_code.specs.Says.{statements_of}
use Rattle.replay_code.specs.Written.{code_text}
use Rattle.replay_code.specs.declared.fault.CodeFault.TheVariants.{Syntax, NoMoment, ReleaseUnforced, RoundPast}

ten : decimal 10 ≡ 49 ∷ 48 ∷ []
ten = decimal_step 10 (lit≤ tt) (lit< tt) ∙ ap (λ (ds : List ℕ). ds ++ 48 ∷ []) (decimal_digit 1 (lit< tt))

nought : decimal 0 ≡ 48 ∷ []
nought = decimal_digit 0 (lit< tt)

abbrev net : List ℕ → Net
net name = record { path = record { parts = record { text = name; escaped = false } ∷ []; bit = None }; driver = Input }

abbrev one_moment : Stim
one_moment = record { times = 0 ∷ []; rounds = 4; inputs = [] ∷ []; rules = record { start = Cold; levels = Change }; starts = []; some_moment = lit< tt; few_moments = lit< tt; some_round = lit< tt; few_rounds = lit≤ tt; rows = refl; small_times = All-from_recursion (λ time. time < 2 ^ 64) (0 ∷ []) (lit< tt, tt) }

abbrev two_moments : Stim
two_moments = record { times = 0 ∷ 10 ∷ []; rounds = 4; inputs = [] ∷ [] ∷ []; rules = record { start = Cold; levels = Change }; starts = []; some_moment = lit< tt; few_moments = lit< tt; some_round = lit< tt; few_rounds = lit≤ tt; rows = refl; small_times = All-from_recursion (λ time. time < 2 ^ 64) (0 ∷ 10 ∷ []) (lit< tt, (lit< tt, tt)) }

abbrev three_moments : Stim
three_moments = record { times = 0 ∷ 10 ∷ 20 ∷ []; rounds = 4; inputs = [] ∷ [] ∷ [] ∷ []; rules = record { start = Cold; levels = Change }; starts = []; some_moment = lit< tt; few_moments = lit< tt; some_round = lit< tt; few_rounds = lit≤ tt; rows = refl; small_times = All-from_recursion (λ time. time < 2 ^ 64) (0 ∷ 10 ∷ 20 ∷ []) (lit< tt, (lit< tt, (lit< tt, tt))) }

abbrev event : ℕ → ℕ → Option Value → Event
event step net value = record { step = step; net = net; value = value }

-- nets d0, d1, s, y
abbrev mux : Design
mux = record { nets = net (codes "d0") ∷ net (codes "d1") ∷ net (codes "s") ∷ net (codes "y") ∷ []; udps = [] }

mux_equal_data : code_text mux one_moment (codes "tb" ∷ codes "dut" ∷ []) (event 0 3 (Some One) ∷ []) ≡ codes "module xrepair_code;\n  initial begin\n    force tb.dut.y = 1'b1;\n  end\nendmodule\n"
mux_equal_data = refl

mux_different_data : code_text mux one_moment (codes "tb" ∷ codes "dut" ∷ []) [] ≡ codes "module xrepair_code;\n  initial begin\n  end\nendmodule\n"
mux_different_data = refl

-- nets ck, y
abbrev two : Design
two = record { nets = net (codes "ck") ∷ net (codes "y") ∷ []; udps = [] }

abbrev two_text : List ℕ
two_text = codes "module xrepair_code;\n  initial begin\n    #10;\n    #0;\n    force tb.dut.y = 1'b0;\n  end\nendmodule\n"

two_registers_one_data : code_text two two_moments (codes "tb" ∷ codes "dut" ∷ []) (event 5 1 (Some Zero) ∷ []) ≡ two_text
two_registers_one_data = rw (ten, nought) refl

-- nets c, d, q, ck
abbrev hold : Design
hold = record { nets = net (codes "c") ∷ net (codes "d") ∷ net (codes "q") ∷ net (codes "ck") ∷ []; udps = [] }

clock_known_after_repair : code_text hold three_moments (codes "tb" ∷ codes "dut" ∷ []) (event 4 3 (Some Zero) ∷ event 8 3 None ∷ []) ≡ codes "module xrepair_code;\n  initial begin\n    #10;\n    force tb.dut.ck = 1'b0;\n    #10;\n    release tb.dut.ck;\n  end\nendmodule\n"
clock_known_after_repair = rw ten refl

-- What the second text says, and texts that are refused.
abbrev read : List ℕ → Code
read text = code text two (0 ∷ 1 ∷ []) two_moments (codes "tb" ∷ codes "dut" ∷ [])

abbrev around : List ℕ → List ℕ
around statements = codes "module xrepair_code; initial begin " ++ statements ++ codes " end endmodule"

replay_with_code : statements_of (read two_text) (left 0 two_text) ≡ Ok (event 5 1 (Some Zero) ∷ [])
unfolding left wire
replay_with_code = refl

cut_after_force : (let text = codes "module xrepair_code;\n  initial begin\n    #10;\n    #0;\n    force" in statements_of (read text) (left 0 text)) ≡ Err (Syntax 63)
unfolding left wire
cut_after_force = refl

release_alone : (let text = around (codes "release tb.dut.y;") in statements_of (read text) (left 0 text)) ≡ Err (ReleaseUnforced 43)
unfolding left wire
release_alone = refl

no_moment : (let text = around (codes "#5;") in statements_of (read text) (left 0 text)) ≡ Err (NoMoment 35)
unfolding left wire
no_moment = refl

round_past : (let text = around (codes "#0; #0; #0; #0;") in statements_of (read text) (left 0 text)) ≡ Err (RoundPast 47)
unfolding left wire
round_past = refl

-- The second text by the grammar: two waits and a force.
by_grammar : IsCode (read two_text) (left 0 two_text).tokens (event 5 1 (Some Zero) ∷ [])
unfolding left wire
by_grammar =
    IsCode.code refl refl refl refl refl
    (Statements.more (Statement.wait refl refl refl (lit< tt) refl)
    (Statements.more (Statement.round refl refl refl refl (lit< tt))
    (Statements.more (Statement.force refl (Path.path (codes "y" ∷ []) (Names.more refl refl (Names.more refl refl (Names.one refl))) MayIndex.none refl) refl refl refl refl)
    Statements.none)))
    refl refl
