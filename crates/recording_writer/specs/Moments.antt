-- The moments of a recording's text (IEEE 1364-2005, clause 18).
use Rattle.std.specs.Prelude.{ℕ, zero, suc, ◌+◌, ◌==◌, List, [], ◌∷◌, ◌++◌, Bool, codes, decimal, length, map}
use Rattle.std.specs.Prelude.{if◌then◌else◌}
use Rattle.std.specs.List.{list_all}
use Rattle.design_cell.specs.Value.{letter_of}
use Rattle.design_circuit.specs.History.{HistoryView, held_in}
use Rattle.design_circuit.specs.Settled.{last_round}
use Rattle.recording_binding.specs.declared.binding.Bound.{Bound}
use Rattle.recording_writer.specs.Code.{code_of}
use Rattle.base_lists.specs.Text.{line}

-- the letter of the value that a net shows at a step
abbrev pub letter_at : HistoryView → ℕ → ℕ → ℕ
letter_at history step net = letter_of (held_in history (record { step = step; net = net })).shown

abbrev pub letters : HistoryView → ℕ → List ℕ → List ℕ
letters history step nets = map (letter_at history step) nets

-- The value of a variable whose bits are these nets: a bit and the code; a wider one is `b`, all bits, a space and the
-- code.
abbrev pub value_line : HistoryView → ℕ → ℕ → List ℕ → List ℕ
value_line history step number nets =
    line (if length nets == 1 then letters history step nets ++ code_of number else codes "b"
    ++ letters history step nets ++ codes " " ++ code_of number)

-- the values of the variables from one on
abbrev pub value_lines : HistoryView → ℕ → ℕ → List Bound → List ℕ
value_lines history step number [] = []
value_lines history step number (b ∷ bs) =
    value_line history step number b.bits ++ value_lines history step (number + 1) bs

-- Whether each of these nets shows the same at two steps.
abbrev pub are_same : HistoryView → ℕ → ℕ → List ℕ → Bool
are_same history step before nets = list_all (λ net. letter_at history step net == letter_at history before net) nets

-- The value of a variable whose bits are these nets, where it is another than at a step before.
abbrev pub change_line : HistoryView → ℕ → ℕ → ℕ → List ℕ → List ℕ
change_line history step before number nets =
    if are_same history step before nets then [] else value_line history step number nets

-- the values of those variables from one on that show another value than at a step before
abbrev pub changed_lines : HistoryView → ℕ → ℕ → ℕ → List Bound → List ℕ
changed_lines history step before number [] = []
changed_lines history step before number (b ∷ bs) =
    change_line history step before number b.bits ++ changed_lines history step before (number + 1) bs

abbrev pub time_line : ℕ → List ℕ
time_line time = line (codes "#" ++ decimal time)

-- every variable, as a dump
abbrev pub dump_lines : HistoryView → ℕ → List Bound → List ℕ
dump_lines history step bound = line (codes "$dumpvars") ++ value_lines history step 0 bound ++ line (codes "$end")

-- A moment: at the first one every variable, at a later one each that differs from the moment before.
abbrev pub moment_lines : HistoryView → ℕ → List Bound → ℕ → ℕ → List ℕ
moment_lines history rounds bound zero time =
    time_line time ++ dump_lines history (last_round rounds 0) bound
moment_lines history rounds bound (suc moment) time =
    time_line time ++ changed_lines history (last_round rounds (suc moment)) (last_round rounds moment) 0 bound

-- the moments from one on
abbrev pub lines_from : HistoryView → ℕ → List Bound → ℕ → List ℕ → List ℕ
lines_from history rounds bound moment [] = []
lines_from history rounds bound moment (time ∷ times) =
    moment_lines history rounds bound moment time ++ lines_from history rounds bound (moment + 1) times
