-- The places so far are seen, they end with a step, and the row is that of the replay.
use Rattle.std.proofs.Common.{◌≡◌, ◌*◌, ◌-◌, ◌≤◌, length}
use Rattle.report_audit.specs.Seen.{AreSeen}
use Rattle.report_audit.proofs.audit.see_places.Given as goal

abbrev pub invariant-steps : goal.invariant-steps
invariant-steps l = record {
  seen : AreSeen l.wave l.replayed l.first l.seen.listed.items l.seen.unsure;
  history : l.row.history ≡ l.replayed;
  first_of : l.first ≡ l.row.step * length l.wave.design.nets;
  within : l.first ≤ length l.wave.written;
}

abbrev pub decreases-steps : goal.decreases-steps
decreases-steps l = length l.wave.written - l.first
