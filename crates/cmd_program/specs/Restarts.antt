-- A job beside the stimulus with set starts.
use Rattle.std.specs.Prelude.{◌≡◌, length}
use Rattle.design_circuit.specs.Stim.{FitsStim}
use Rattle.law_waveforms.specs.Starts.{DifferInStarts}
use Rattle.cmd_phases.specs.Sets.{sets_of}
use Rattle.cmd_program.specs.declared.restarted.Restarted.{Restarted}

-- The stimulus fits the design and differs from the job's in the starts alone, and so many registers are set as the
-- words have pieces.
pub record IsRestarted (set : Restarted) : Type 0 where
  pub fits_stim : FitsStim set.agreed.now.parts.netlist.design set.stim.now
  pub others : DifferInStarts set.agreed.now.parts.recorded.stim set.stim.now
  pub counted : set.registers ≡ length (sets_of set.words.sets.now)
