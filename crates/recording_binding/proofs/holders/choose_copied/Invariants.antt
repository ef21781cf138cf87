-- The nets so far are chosen, and the others are as they were.
use Rattle.std.proofs.Common.{◌≡◌, ℕ, ◌<◌, ◌≤◌, length}
use Rattle.design_circuit.specs.Job.{driver_in}
use Rattle.recording_binding.specs.Holding.{held_in}
use Rattle.recording_binding.specs.JobDesign.{holder_at}
use Rattle.recording_binding.proofs.holders.choose_copied.Given as goal

abbrev pub invariant-nets : goal.invariant-nets
invariant-nets l = record {
  long : length l.holders ≡ length l.initial.holders;
  chosen : (k : ℕ) → k < l.net → held_in l.holders k ≡ holder_at (driver_in l.design k) (held_in l.initial.holders k) (held_in l.copied k);
  others : (k : ℕ) → l.net ≤ k → held_in l.holders k ≡ held_in l.initial.holders k;
}
