-- The text of the repaired recording (IEEE 1364-2005, clause 18).
use Rattle.std.specs.Prelude.{◌≡◌, ℕ, ◌*◌, ◌≤◌, ◌^◌, List, [], ◌++◌, Option, Some, None, codes, length}
use Rattle.design_circuit.specs.History.{HistoryView}
use Rattle.design_circuit.specs.declared.design.Design.{Design}
use Rattle.design_circuit.specs.declared.stim.Stim.{Stim}
use Rattle.recording_binding.specs.declared.binding.Binding.{Binding}
use Rattle.recording_writer.specs.Declarations.{declaration_lines}
use Rattle.base_lists.specs.Text.{line}
use Rattle.recording_writer.specs.Moments.{lines_from}

abbrev pub timescale_line : Option (List ℕ) → List ℕ
timescale_line None = []
timescale_line (Some scale) = line (codes "$timescale " ++ scale ++ codes " $end")

-- Version, timescale, scopes and variables, then moment by moment.
unfoldable pub vcd_text : Design → Binding → Stim → HistoryView → List ℕ
vcd_text design binding stim history =
    line (codes "$version xrepair $end") ++ timescale_line binding.timescale
    ++ declaration_lines design [] 0 binding.bound
    ++ line (codes "$enddefinitions $end") ++ lines_from history stim.rounds binding.bound 0 stim.times

-- A history has a place for each net of a design at each step of a stimulus, at most 2^40 of them.
pub record HasSteps (design : Design) (stim : Stim) (history : HistoryView) : Type 0 where
  pub nets : history.nets ≡ length design.nets
  pub places : length history.places ≡ length design.nets * (length stim.times * stim.rounds)
  pub few : length history.places ≤ 2 ^ 40
  pub few_nets : length design.nets ≤ 2 ^ 20
