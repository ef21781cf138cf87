-- What is left decides.
use Rattle.std.proofs.Common.{◌≡◌, ◌+◌, ◌≤◌, ◌^◌, length}
use Rattle.elab_bits.specs.Drive.{fed}
use Rattle.elab_bits.proofs.driving.feed.Given as goal

abbrev pub invariant-lanes : goal.invariant-lanes
invariant-lanes l = record {
  fed : fed l.fn.first l.fn.lanes l.fn.nets ≡ fed l.net l.left l.nets;
  few : l.net + length l.left ≤ 2 ^ 20;
}

abbrev pub decreases-lanes : goal.decreases-lanes
decreases-lanes l = length l.left
