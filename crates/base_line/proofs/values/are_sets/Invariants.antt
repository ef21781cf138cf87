-- What is left is in order exactly where all is.
use Rattle.std.proofs.Common.{◌≡◌, length}
use Rattle.std.specs.Prelude.{◌==◌}
use Rattle.std.specs.List.{position_or_len}
use Rattle.base_line.specs.Line.{IsSet}
use Rattle.base_line.proofs.Pieces.{Left}
use Rattle.base_line.proofs.values.are_sets.Given as goal

abbrev pub invariant-pieces : goal.invariant-pieces
invariant-pieces l = record { left : Left 44 IsSet l.fn.list l.rest; place_is : l.place ≡ position_or_len (λ b. b == 44) l.rest }

abbrev pub decreases-pieces : goal.decreases-pieces
decreases-pieces l = length l.rest
