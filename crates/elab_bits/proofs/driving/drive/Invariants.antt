-- What is left decides.
use Rattle.std.proofs.Common.{◌≡◌, length}
use Rattle.elab_bits.specs.Drive.{all_driven}
use Rattle.elab_bits.proofs.driving.drive.Given as goal

abbrev pub invariant-lanes : goal.invariant-lanes
invariant-lanes l = all_driven l.fn.left l.fn.right l.fn.nets ≡ all_driven l.left l.right l.nets

abbrev pub decreases-lanes : goal.decreases-lanes
decreases-lanes l = length l.left
