-- What is left is in order exactly where all is.
use Rattle.std.proofs.Common.{◌≡◌, ◌<◌, ℕ, List, length}
use Rattle.std.specs.Prelude.{◌==◌}
use Rattle.std.specs.List.{position_or_len}
use Rattle.base_line.specs.Line.{Text}
use Rattle.base_line.proofs.Pieces.{Left}
use Rattle.cmd_trim.proofs.names.is_list.Given as goal

abbrev pub invariant-names : goal.invariant-names
invariant-names l = record { left : Left 44 (λ (name : Text). 0 < length name) l.fn.list l.rest; place_is : l.place ≡ position_or_len (λ b. b == 44) l.rest }

abbrev pub decreases-names : goal.decreases-names
decreases-names l = length l.rest
