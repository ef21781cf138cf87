-- What is seen of a sink that notes what its writer took.
use Rattle.std.specs.Prelude.{ℕ, []}
use Rattle.base_shelf.specs.Sink.{SinkView}
use Rattle.base_trace.specs.Record.{traced_bytes}
use Rattle.base_trace.specs.declared.record.Record.{Record}

-- Its faults, and the bytes that were taken, in order. They have no name.
abbrev pub sink_seen : ℕ → Record → SinkView
sink_seen faults took = record { faults = faults; bytes = traced_bytes took.entries [] }
