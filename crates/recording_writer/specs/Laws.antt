-- Laws of texts.
use Rattle.std.specs.Prelude.{◌≡◌, ℕ, ◌<◌, length}
use Rattle.design_cell.specs.declared.value.Value.{Value}
use Rattle.design_circuit.specs.History.{HistoryView, held_in}
use Rattle.design_circuit.specs.declared.design.Design.{Design}
use Rattle.design_circuit.specs.declared.stim.Stim.{Stim}
use Rattle.recording_binding.specs.Binding.{FitsBinding}
use Rattle.recording_binding.specs.declared.binding.Binding.{Binding}
use Rattle.design_circuit.specs.Settled.{last_round}
use Rattle.recording_writer.specs.Text.{vcd_text}

-- what a history shows of a net at the last round of a moment
abbrev pub shown_last : Stim → HistoryView → ℕ → ℕ → Value
shown_last stim history moment net = (held_in history record { step = last_round stim.rounds moment; net = net }).shown

-- Two histories show the same of each net of a design at the last round of each moment of a stimulus.
abbrev pub ShowTheSame : Design → Stim → HistoryView → HistoryView → Type 0
ShowTheSame design stim first second = (moment net : ℕ) → moment < length stim.times → net < length design.nets
    → shown_last stim first moment net ≡ shown_last stim second moment net

-- They have one text.
abbrev pub TextsAreOne : Type 0
TextsAreOne =
    (design : Design) (binding : Binding) (stim : Stim) (first second : HistoryView) → FitsBinding design binding
    → ShowTheSame design stim first second → vcd_text design binding stim first ≡ vcd_text design binding stim second
