-- The pins get fewer.
use Rattle.std.proofs.Common.{length}
use Rattle.report_audit.proofs.suspects.+any_suspect.Given as goal

abbrev pub decreases-any_suspect : goal.decreases-any_suspect
decreases-any_suspect l = length l.pins.now
