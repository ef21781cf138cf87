-- The text of code that forces nets, event by event (IEEE 1364-2005, clause 9.3.2).
use Rattle.std.specs.Prelude.{ℕ, zero, suc, ◌-◌, ◌==◌, Option, None, Some, List, [], ◌∷◌, ◌++◌, codes, decimal}
use Rattle.std.specs.Prelude.{if◌then◌else◌}
use Rattle.base_lists.specs.Text.{line}
use Rattle.design_cell.specs.declared.value.Value.{Value}
use Rattle.design_cell.specs.Value.{letter_of}
use Rattle.design_circuit.specs.declared.design.Design.{Design}
use Rattle.design_circuit.specs.declared.force.Event.{Event}
use Rattle.design_circuit.specs.declared.stim.Stim.{Stim}
use Rattle.replay_code.specs.Clock.{clock_at, start}
use Rattle.replay_code.specs.declared.clock.Clock.{Clock}
use Rattle.replay_code.specs.Names.{code_name}

-- `#d;` moves so many time units on, and `#0;` to the next round.
abbrev pub wait_line : ℕ → List ℕ
wait_line d = line (codes "    #" ++ decimal d ++ codes ";")

abbrev pub round_lines : ℕ → List ℕ
round_lines zero = []
round_lines (suc n) = wait_line 0 ++ round_lines n

-- The waits that lead from one clock to another, and none other.
abbrev pub wait_lines : Clock → Clock → List ℕ
wait_lines from to =
    if from.time == to.time then round_lines (to.round - from.round) else wait_line (to.time - from.time)
    ++ round_lines to.round

abbrev pub value_end : Value → List ℕ
value_end value = codes " = 1'b" ++ letter_of value ∷ codes ";\n"

abbrev pub force_line : List ℕ → Value → List ℕ
force_line name value = codes "    force " ++ name ++ value_end value

abbrev pub release_line : List ℕ → List ℕ
release_line name = codes "    release " ++ name ++ codes ";\n"

abbrev pub event_line : List ℕ → Option Value → List ℕ
event_line name None = release_line name
event_line name (Some value) = force_line name value

-- Events, each behind the waits that lead to its step.
abbrev pub event_lines : Design → Stim → List (List ℕ) → Clock → List Event → List ℕ
event_lines design stim scope clock [] = []
event_lines design stim scope clock (event ∷ events) =
    wait_lines clock (clock_at stim event.step) ++ event_line (code_name design scope event.net) event.value
    ++ event_lines design stim scope (clock_at stim event.step) events

-- A module with one block, whose statements are the events in place order with their waits.
abbrev pub code_text : Design → Stim → List (List ℕ) → List Event → List ℕ
code_text design stim scope events =
    line (codes "module xrepair_code;") ++ line (codes "  initial begin") ++ event_lines design stim scope start events
    ++ line (codes "  end") ++ line (codes "endmodule")
