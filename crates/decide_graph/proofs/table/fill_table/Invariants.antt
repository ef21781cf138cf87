-- The values of the numbers so far.
use Rattle.std.proofs.Common.{◌≡◌, ◌<◌, ℕ, length, slice_index_or}
use Rattle.design_cell.specs.declared.value.Value.TheVariants.{X}
use Rattle.design_circuit.specs.Waveform.{certain}
use Rattle.decide_nodes.specs.OfWave.{job}
use Rattle.decide_graph.specs.Table.{value_on}
use Rattle.decide_graph.proofs.table.fill_table.Given as goal

abbrev pub invariant-numbers : goal.invariant-numbers
invariant-numbers l = record {
  long : length l.values.items ≡ l.number;
  are_values : (m : ℕ) → m < l.number → slice_index_or l.values.items m X
      ≡ value_on (job l.wave) (certain l.wave.written) l.place l.places m;
}
