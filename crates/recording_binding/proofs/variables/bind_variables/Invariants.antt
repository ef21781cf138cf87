-- The variables so far that are bound, none of which differs.
use Rattle.std.proofs.Common.{◌≡◌}
use Rattle.recording_binding.specs.Bounds.{bound_below}
use Rattle.recording_binding.specs.Refusal.{NoneDiffers}
use Rattle.recording_binding.proofs.variables.bind_variables.Given as goal

abbrev pub invariant-variables : goal.invariant-variables
invariant-variables l = record {
  bound : l.bound.items ≡ bound_below l.matcher.design l.matcher.scope l.matcher.recording l.number;
  none : NoneDiffers l.matcher.design l.matcher.scope l.matcher.recording l.number;
}
