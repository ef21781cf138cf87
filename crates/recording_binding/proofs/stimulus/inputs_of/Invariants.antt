-- The inputs among the nets so far.
use Rattle.std.proofs.Common.{◌≡◌}
use Rattle.recording_binding.specs.StimOf as spec
use Rattle.recording_binding.proofs.stimulus.inputs_of.Given as goal

abbrev pub invariant-nets : goal.invariant-nets
invariant-nets l = l.inputs.items ≡ spec.inputs_below l.design l.holders l.net
