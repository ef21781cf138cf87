-- No byte so far is the one.
use Rattle.std.proofs.Common.{◌≡◌, ◌<◌, ◌≤◌, ◌-◌, ℕ, length, get_or, false}
use Rattle.std.specs.Prelude.{◌==◌}
use Rattle.base_line.proofs.values.place_of.Given as goal

abbrev pub invariant-bytes : goal.invariant-bytes
invariant-bytes l = record { within : l.place ≤ length l.bytes; before : (k : ℕ) → k < l.place → (get_or l.bytes k 0 == l.byte) ≡ false }

abbrev pub decreases-bytes : goal.decreases-bytes
decreases-bytes l = length l.bytes - l.place
