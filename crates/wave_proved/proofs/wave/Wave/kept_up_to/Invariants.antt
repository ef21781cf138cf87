-- The places so far keep.
use Rattle.std.proofs.Common.{◌≤◌, ◌-◌}
use Rattle.wave_proved.specs.Contents.{job}
use Rattle.wave_proved.specs.Kept.{AllKeepFrom}
use Rattle.wave_proved.proofs.wave.Wave.kept_up_to.Given as goal

abbrev pub invariant-places : goal.invariant-places
invariant-places l = record {
  from : l.number ≤ l.place;
  within : l.place ≤ l.end;
  keep : AllKeepFrom (job l.self) l.self.written l.number l.place;
}

abbrev pub decreases-places : goal.decreases-places
decreases-places l = l.end - l.place
