-- Each input so far is held.
use Rattle.std.proofs.Common.{List}
use Rattle.recording_binding.specs.Holding.{Holds}
use Rattle.recording_binding.specs.Refusal.{AllBound}
use Rattle.recording_binding.specs.declared.binding.Bound.{Bound}
use Rattle.recording_binding.proofs.inputs.missing_input.Given as goal

abbrev pub invariant-nets : goal.invariant-nets
invariant-nets l = (bound : List Bound) → Holds l.design bound l.holders → AllBound l.design bound l.net
