-- The holds that are worked by hand compute.
use Rattle.std.proofs.Common.{refl}
use Rattle.design_cell.specs.Symbol.{fits, is_edge}
use Rattle.design_cell.specs.Hold.{hold, level_output}
use Rattle.design_cell.specs.WorkedHolds.{FlopHolds, LatchHolds, StatefulHolds}

pub flop_holds : FlopHolds
unfolding hold level_output fits is_edge
flop_holds = record { reset = refl; set = refl; neither = refl; unknown_reset = refl }

pub latch_holds : LatchHolds
unfolding hold level_output fits is_edge
latch_holds = record { open_at_zero = refl; open_at_one = refl; open_unknown = refl; closed = refl }

pub stateful_holds : StatefulHolds
unfolding hold level_output fits is_edge
stateful_holds = record { one_state = refl; kept_state = refl; to_x = refl }
