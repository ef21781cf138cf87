-- Each run leaves fewer places, or is the last.
use Rattle.wave_proved.specs.Advance.{stays}
use Rattle.wave_proved.proofs.GoingRuns.{fewer_left, goes_goes}
use Rattle.wave_proved.proofs.wave.Wave.skip.Goals as goal

pub runs-init : goal.runs-init
runs-init c = record { goes = stays; next = c.has_next-more.ensures.0 }

pub runs-smaller : goal.runs-smaller
runs-smaller c =
    rw c.runs-test.true (fewer_left c.runs.wave _ _ _ c.skip_run-next.ensures.goes c.skip_run-next.ensures.more
    c.has_more-more.ensures.some (c.runs.invariant.next c.runs-test.true))

pub runs-preserved : goal.runs-preserved
runs-preserved c = record {
  goes = goes_goes c.runs.invariant.goes c.skip_run-next.ensures.goes;
  next = c.has_more-more.ensures.next;
}
