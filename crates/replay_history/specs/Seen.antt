-- What a driver gives on the values of a history.
use Rattle.std.specs.Prelude.{ℕ, ◌-◌, ◌==◌, slice_index, if◌then◌else◌}
use Rattle.design_cell.specs.declared.value.Value.{Value}
use Rattle.design_cell.specs.declared.value.Value.TheVariants.{X}
use Rattle.design_circuit.specs.Circuit.{job_in}
use Rattle.design_circuit.specs.Handed.{held_of}
use Rattle.design_circuit.specs.History.{HistoryView}
use Rattle.design_circuit.specs.Job.{at}
use Rattle.design_circuit.specs.Replay.{driven}
use Rattle.design_circuit.specs.declared.circuit.Circuit.{Circuit}
use Rattle.design_circuit.specs.declared.design.Driver.{Driver}
use Rattle.design_circuit.specs.declared.design.Driver.TheVariants.{Input, Undriven, Constant, Copy, Cell, Register}

-- the net at a position
abbrev pub net_at : Circuit → ℕ → ℕ
net_at circuit position = slice_index (job_in circuit).order position

-- What the driver of a net gives at a step.
abbrev pub driven_at : Circuit → HistoryView → ℕ → ℕ → Driver → Value
driven_at circuit history step net driver = driven (job_in circuit) (held_of (job_in circuit) history) step net driver

-- What a register kept one step before; x before step 0, and where the driver is no register.
abbrev pub kept_before : Circuit → HistoryView → ℕ → ℕ → Driver → Value
kept_before circuit history step net Input = X
kept_before circuit history step net Undriven = X
kept_before circuit history step net (Constant bit) = X
kept_before circuit history step net (Copy argument) = X
kept_before circuit history step net (Cell table pins) = X
kept_before circuit history step net (Register latching) =
    if step == 0 then X else (held_of (job_in circuit) history (at (job_in circuit) (step - 1) net)).kept
