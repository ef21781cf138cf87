-- The recording of a made job.
use Rattle.std.specs.Prelude.{◌≡◌, ℕ, zero, suc, List, [], ◌∷◌, ◌++◌, None, codes, length}
use Rattle.design_circuit.specs.Handed.{IsReplay}
use Rattle.design_circuit.specs.History.{HistoryView}
use Rattle.design_circuit.specs.Job.{job_of}
use Rattle.design_circuit.specs.declared.design.Design.{Design}
use Rattle.design_circuit.specs.declared.stim.Stim.{Stim}
use Rattle.recording_binding.specs.Bounds.{ends_of}
use Rattle.recording_binding.specs.declared.binding.Binding.{Binding}
use Rattle.recording_binding.specs.declared.binding.Bound.{Bound}
use Rattle.recording_writer.specs.Text.{vcd_text}
use Rattle.cmd_make.specs.Stimulus.{IsMadeStim}

-- A variable of one net, in the one scope `made`.
abbrev pub net_bound : Design → ℕ → Bound
net_bound design net = record {
  variable = net;
  bits = net ∷ [];
  path = codes "made" ∷ [];
  range = ends_of design (net ∷ []);
}

-- those of so many nets
unfoldable pub nets_bound : Design → ℕ → List Bound
nets_bound design zero = []
nets_bound design (suc net) = nets_bound design net ++ net_bound design net ∷ []

-- All nets in number order, a variable each, and no timescale.
abbrev pub made_binding : Design → Binding
made_binding design = record { timescale = None; bound = nets_bound design (length design.nets) }

-- The text of what the replay of the design shows under the made stimulus, over all nets. Each such text is the same
-- (RecordingsAreOne).
pub record IsMadeRecording (design : Design) (order : List ℕ) (number gates : ℕ) (text : List ℕ) : Type 0 where
  pub stim : Stim
  pub made : IsMadeStim design number gates stim
  pub history : HistoryView
  pub replay : IsReplay (job_of design order stim) history
  pub text_is : text ≡ vcd_text design (made_binding design) stim history
