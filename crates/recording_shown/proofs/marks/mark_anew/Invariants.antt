-- What isn't due is as a step before, up to the next position that was written anew.
use Rattle.std.proofs.Common.{◌≡◌, length}
use Rattle.replay_fans.specs.Marks.{OnlyMore}
use Rattle.wave_proved.specs.Contents.{job}
use Rattle.wave_proved.specs.Row.{anew_behind}
use Rattle.recording_shown.proofs.Keeping.{KeptTo}
use Rattle.recording_shown.proofs.marks.mark_anew.Given as goal

abbrev pub invariant-places : goal.invariant-places
invariant-places l = record {
  long : length l.due ≡ length l.initial.due;
  more : OnlyMore l.initial.due l.due;
  kept : KeptTo l.wave l.readers.table l.step (anew_behind (job l.wave) l.step l.anew l.place-index) l.due;
}
