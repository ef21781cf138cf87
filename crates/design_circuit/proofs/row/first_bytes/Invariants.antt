-- The bytes so far are those of their nets.
use Rattle.std.proofs.Common.{◌≡◌, ◌<◌, ℕ, length, slice_index}
use Rattle.design_circuit.specs.History.{HasPlace, held_in, held_of_byte, net_place}
use Rattle.design_circuit.proofs.row.first_bytes.Given as goal

abbrev pub invariant-nets : goal.invariant-nets
invariant-nets l = record {
  long : length l.bytes.items ≡ l.history.nets;
  held : (n : ℕ) → n < l.net → HasPlace l.history (net_place 0 n) → held_of_byte (slice_index l.bytes.items n) ≡ held_in l.history (net_place 0 n);
}
