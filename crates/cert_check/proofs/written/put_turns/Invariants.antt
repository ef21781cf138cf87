-- What is put, with what is left, is the whole.
use Rattle.std.proofs.Common.{◌≡◌, ◌+◌, ◌≤◌, ◌++◌, length, map}
use Rattle.std.specs.List.{flat_map}
use Rattle.cert_turns.specs.TurnLines.{stated, turn_lines}
use Rattle.cert_writer.specs.Text.{turn_text, with_newline}
use Rattle.cert_check.proofs.written.put_turns.Given as goal

abbrev pub invariant-turns : goal.invariant-turns
invariant-turns l = record {
  text : l.text.items ++ flat_map with_newline (map turn_text (stated l.places l.turns))
      ≡ l.fn.text.items ++ flat_map with_newline (map turn_text (turn_lines l.condition));
  few : length l.fn.text.items + l.count ≤ length l.text.items;
  count : l.count + length (stated l.places l.turns) ≡ length (turn_lines l.condition);
}

abbrev pub decreases-turns : goal.decreases-turns
decreases-turns l = length l.turns
