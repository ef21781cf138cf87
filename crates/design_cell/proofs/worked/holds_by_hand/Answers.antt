-- They compute.
use Rattle.design_cell.proofs.WorkedHolds.{flop_holds, latch_holds, stateful_holds}
use Rattle.design_cell.proofs.worked.holds_by_hand.Goals as goal

pub returns-clause-register : goal.returns-clause-register
returns-clause-register c = flop_holds

pub returns-clause-latch : goal.returns-clause-latch
returns-clause-latch c = latch_holds

pub returns-clause-states : goal.returns-clause-states
returns-clause-states c = stateful_holds
