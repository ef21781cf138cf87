-- The nets so far have their inputs, and the others are as they were.
use Rattle.std.proofs.Common.{◌≡◌, ◌++◌, drop, length, take}
use Rattle.recording_binding.specs.Holding.{held_in}
use Rattle.recording_binding.specs.JobDesign.{nets_where}
use Rattle.recording_binding.proofs.job_design.put_inputs.Given as goal

abbrev pub invariant-places : goal.invariant-places
invariant-places l = record {
  long : length l.nets ≡ length l.initial.nets;
  made : l.nets ≡ nets_where (held_in l.holders) 0 (take l.place l.initial.nets) ++ drop l.place l.initial.nets;
}
