-- What is seen of a sink in memory, and what a write does to that.
use Rattle.std.specs.Prelude.{◌≡◌, ◌↔◌, ℕ, List, [], length, min, Result, IsErrOf, IfOk}
use Rattle.base_shelf.specs.Plan.{PlanView, no_calls, FailsNext, called, counted, has_failed}
use Rattle.base_shelf.specs.Sink.{SinkView}
use Rattle.base_shelf.specs.declared.fault.IoErr.{IoErr}
use Rattle.base_shelf.specs.declared.fault.IoErr.TheVariants.{Failed}

-- A sink in memory: the most bytes it takes in a call, its bytes so far, its calls and its count of faults.
pub record MemSinkView : Type 0 where
  pub piece : ℕ
  pub bytes : List ℕ
  pub plan : PlanView
  pub faults : ℕ

-- No byte, no call, no fault.
abbrev pub empty_sink : ℕ → MemSinkView
empty_sink piece = record { piece = piece; bytes = []; plan = no_calls; faults = 0 }

-- The same sink with another plan.
abbrev pub sink_with_plan : MemSinkView → PlanView → MemSinkView
sink_with_plan sink plan = record { piece = sink.piece; bytes = sink.bytes; plan = plan; faults = sink.faults }

-- What is seen of it as a sink.
abbrev pub sink_of : MemSinkView → SinkView
sink_of sink = record { faults = sink.faults; bytes = sink.bytes }

-- `write`: it takes a piece, fails exactly where it is set to, and counts that.
pub record MemSinkStep (old new : MemSinkView) (bytes : List ℕ) (result : Result ℕ IoErr) : Type 0 where
  pub fails : IsErrOf result Failed ↔ FailsNext old.plan
  pub takes : IfOk result (λ n. n ≡ min old.piece (length bytes))
  pub piece : new.piece ≡ old.piece
  pub plan : new.plan ≡ called old.plan
  pub faults : new.faults ≡ counted old.faults (has_failed result)
