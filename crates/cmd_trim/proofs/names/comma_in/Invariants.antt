-- No byte so far is a comma.
use Rattle.std.proofs.Common.{◌≡◌, ◌<◌, ◌≤◌, ◌-◌, ℕ, length, get_or, false}
use Rattle.std.specs.Prelude.{◌==◌}
use Rattle.cmd_trim.proofs.names.comma_in.Given as goal

abbrev pub invariant-bytes : goal.invariant-bytes
invariant-bytes l = record { within : l.place ≤ length l.list; before : (k : ℕ) → k < l.place → (get_or l.list k 0 == 44) ≡ false }

abbrev pub decreases-bytes : goal.decreases-bytes
decreases-bytes l = length l.list - l.place
