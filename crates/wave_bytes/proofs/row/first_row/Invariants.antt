-- So far the row has what stands there.
use Rattle.std.proofs.Common.{◌≡◌, ◌<◌, ℕ, length}
use Rattle.design_circuit.specs.Waveform.{written_at}
use Rattle.wave_bytes.proofs.row.first_row.Given as goal

abbrev pub invariant-positions : goal.invariant-positions
invariant-positions l = record {
  long : length l.row.items ≡ l.position;
  says : (position : ℕ) → position < l.position → position < length l.waveform.written
      → written_at l.row.items position ≡ written_at l.waveform.written position;
}
