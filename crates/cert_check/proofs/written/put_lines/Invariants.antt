-- What is put, with what is left, is the whole. There are no more lines than bytes.
use Rattle.std.proofs.Common.{◌≡◌, ◌+◌, ◌≤◌, ◌++◌, length, map}
use Rattle.std.specs.List.{flat_map}
use Rattle.cert_writer.specs.Text.{entry_text, with_newline}
use Rattle.cert_check.specs.Entries.{entries_of}
use Rattle.cert_check.proofs.written.put_lines.Given as goal

abbrev pub invariant-lines : goal.invariant-lines
invariant-lines l = record {
  text : l.text.items ++ flat_map with_newline (map entry_text (entries_of l.left l.unused))
      ≡ l.fn.text.items ++ flat_map with_newline (map entry_text (entries_of l.lines l.conditions));
  count : l.count + length (entries_of l.left l.unused) ≡ length (entries_of l.lines l.conditions);
  few : l.count ≤ length l.text.items;
}

abbrev pub decreases-lines : goal.decreases-lines
decreases-lines l = length l.left
