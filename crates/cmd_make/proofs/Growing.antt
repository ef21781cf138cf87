-- One more of what a netlist, a stimulus and a binding have.
use Rattle.std.proofs.Common.{◌≡◌, ℕ, ◌+◌, ◌*◌, List, [], ◌∷◌, ◌++◌, sym, ap, ◌∙◌, add-one, append_assoc, arith, length, length-append}
use Rattle.cmd_make.specs.Draw.{after_draw, after_draws}
use Rattle.cmd_make.specs.Netlist.{after_gates, gate_line, gate_lines, register_lines, register_text, wire_line, wire_lines}
use Rattle.cmd_make.specs.Pool.{drawn_member}
use Rattle.cmd_make.specs.Recording.{net_bound, nets_bound}
use Rattle.cmd_make.specs.Stimulus.{after_input, after_inputs, before_moment, drawn_input, drawn_inputs, times_of}
use Rattle.design_circuit.specs.declared.design.Design.{Design}

-- A piece more of a list that has more and more behind what it had.
pub grown : {X : Type 0} (old so_far piece list more new : List X) → list ≡ old ++ so_far → new ≡ list ++ piece → more ≡ so_far ++ piece
    → new ≡ old ++ more
grown {X} old so_far piece list more new before put is =
    put ∙ ap (λ (t : List X). t ++ piece) before ∙ append_assoc old so_far piece ∙ ap (λ (t : List X). old ++ t) (sym is)

-- One item more.
pub longer : {X : Type 0} (xs new : List X) (x : X) (n : ℕ) → length xs ≡ n → new ≡ xs ++ x ∷ [] → length new ≡ n + 1
longer {X} xs new x n long is =
    let e = ap (λ (l : List X). length l) is in
    let f = length-append xs (x ∷ []) in
    omega (arith, e, f, long)

pub wire_more : (gate : ℕ) → wire_lines (gate + 1) ≡ wire_lines gate ++ wire_line gate
unfolding wire_lines
wire_more gate = ap wire_lines (add-one gate)

pub gate_more : (state gate : ℕ) → gate_lines state (gate + 1) ≡ gate_lines state gate ++ gate_line gate (after_gates state gate)
unfolding gate_lines
gate_more state gate = ap (gate_lines state) (add-one gate)

pub after_gate : (state gate : ℕ) → after_gates state (gate + 1) ≡ after_draw (after_draw (after_draw (after_gates state gate)))
unfolding after_gates
after_gate state gate = ap (after_gates state) (add-one gate)

pub draw_more : (draws state : ℕ) → after_draws (draws + 1) state ≡ after_draw (after_draws draws state)
unfolding after_draws
draw_more draws state = ap (λ n. after_draws n state) (add-one draws)

pub register_more : (pool : List (List ℕ)) (state register : ℕ)
    → register_lines pool state (register + 1) ≡ register_lines pool state register ++ register_text register (drawn_member pool (after_draws register state))
unfolding register_lines
register_more pool state register = ap (register_lines pool state) (add-one register)

pub input_more : (state input : ℕ) → drawn_inputs state (input + 1) ≡ drawn_inputs state input ++ drawn_input (after_inputs state input) ∷ []
unfolding drawn_inputs
input_more state input = ap (drawn_inputs state) (add-one input)

pub after_input_more : (state input : ℕ) → after_inputs state (input + 1) ≡ after_input (after_inputs state input)
unfolding after_inputs
after_input_more state input = ap (after_inputs state) (add-one input)

pub moment_more : (state moment : ℕ) → before_moment state (moment + 1) ≡ after_inputs (before_moment state moment) 8
unfolding before_moment
moment_more state moment = ap (before_moment state) (add-one moment)

pub time_more : (moment : ℕ) → times_of (moment + 1) ≡ times_of moment ++ 10 * moment ∷ []
unfolding times_of
time_more moment = ap times_of (add-one moment)

pub net_more : (design : Design) (net : ℕ) → nets_bound design (net + 1) ≡ nets_bound design net ++ net_bound design net ∷ []
unfolding nets_bound
net_more design net = ap (nets_bound design) (add-one net)
