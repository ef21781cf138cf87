-- The bits so far, of which no run has more than 2^32.
use Rattle.std.proofs.Common.{◌≡◌, ◌≤◌, ◌*◌, ◌^◌, length, take}
use Rattle.elab_bits.specs.Runs.{runs_lanes}
use Rattle.elab_bits.proofs.runs.width_of.Given as goal

abbrev pub invariant-runs : goal.invariant-runs
invariant-runs l = record {
  sum : l.width ≡ length (runs_lanes (take l.run-index l.runs));
  few : l.width ≤ l.run-index * 2 ^ 32;
}
