-- What is seen of a sink in memory without faults.
use Rattle.std.specs.Prelude.{ℕ, List}
use Rattle.base_shelf.specs.Sink.{SinkView}

-- Its bytes so far; no fault is ever counted.
abbrev pub plain_sink_of : List ℕ → SinkView
plain_sink_of bytes = record { faults = 0; bytes = bytes }
