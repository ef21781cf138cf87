-- The places so far are seen.
use Rattle.std.proofs.Common.{◌+◌}
use Rattle.report_audit.specs.Seen.{AreSeen}
use Rattle.report_audit.proofs.audit.see_step.Given as goal

abbrev pub invariant-positions : goal.invariant-positions
invariant-positions l = AreSeen l.wave l.row.history (l.first + l.position) l.seen.listed.items l.seen.unsure
