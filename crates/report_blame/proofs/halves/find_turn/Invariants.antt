-- The bit is the first one at the lower number, and the other one at the upper.
use Rattle.std.proofs.Common.{◌≡◌, ◌<◌, ◌≤◌, ◌-◌, length, not, slice_index_or}
use Rattle.design_circuit.specs.Job.{places_of}
use Rattle.wave_proved.specs.Contents.{job}
use Rattle.report_blame.specs.Halves.{halfway}
use Rattle.report_blame.proofs.halves.find_turn.Given as goal

abbrev pub invariant-halves : goal.invariant-halves
invariant-halves l = record {
  order : l.low < l.high;
  within : l.high ≤ length l.listed;
  low : halfway l.way.wave.now l.way.zero.now l.way.one.now l.way.number
      (slice_index_or l.listed l.low (places_of (job l.way.wave.now))) ≡ l.first;
  high : halfway l.way.wave.now l.way.zero.now l.way.one.now l.way.number
      (slice_index_or l.listed l.high (places_of (job l.way.wave.now))) ≡ not l.first;
}

abbrev pub decreases-halves : goal.decreases-halves
decreases-halves l = l.high - l.low
