-- The walk went by the lines so far.
use Rattle.std.proofs.Common.{◌≡◌, ◌+◌, [], length}
use Rattle.wave_proved.specs.Contents.{Contents}
use Rattle.cert_check.specs.Standing.{IsWaiting, Stands}
use Rattle.cert_check.proofs.walk.take_entries.Given as goal

abbrev pub invariant-entries : goal.invariant-entries
invariant-entries l = record {
  stands : (start : Contents) → Stands l.form start [] l.fn.begun → Stands l.form start l.yielded l.walked;
  waits : IsWaiting l.walked;
  number : l.number ≡ length l.yielded + 3;
}
