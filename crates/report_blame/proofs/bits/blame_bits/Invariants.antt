-- The bits that are told and those that are left are all, each bit that is left is there, and the row is the history's.
use Rattle.std.proofs.Common.{◌≡◌, length}
use Rattle.std.specs.List.{AllByRecursion}
use Rattle.recording_binding.specs.BoundBits.{IsBitOf, left_of}
use Rattle.report_blame.specs.Causes.{AreCauses}
use Rattle.report_blame.proofs.ToldBits.{AreToldBefore}
use Rattle.report_blame.proofs.bits.blame_bits.Given as goal

abbrev pub invariant-bits : goal.invariant-bits
invariant-bits l = record {
  told : AreToldBefore l.wave l.bound.bound l.blamed.items (left_of l.bits);
  causes : AreCauses l.wave l.causes;
  history : l.replayed.history ≡ l.wave.history;
  within : AllByRecursion (IsBitOf l.wave.design (length l.wave.stim.times)) (left_of l.bits);
}

abbrev pub decreases-bits : goal.decreases-bits
decreases-bits l = length (left_of l.bits)
