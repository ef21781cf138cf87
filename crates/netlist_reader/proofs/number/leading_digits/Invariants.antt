-- The digits so far and those of the rest are all the leading digits.
use Rattle.std.proofs.Common.{◌≡◌, ◌+◌, ◌≤◌, length}
use Rattle.std.specs.List.{prefix_len}
use Rattle.netlist_grammar.specs.Bytes.{is_digit}
use Rattle.netlist_reader.proofs.number.leading_digits.Given as goal

abbrev pub invariant-digits : goal.invariant-digits
invariant-digits l = record {
  digits : prefix_len is_digit l.fn.text + length l.rest ≡ length l.fn.text + prefix_len is_digit l.rest;
  shorter : length l.rest ≤ length l.fn.text;
}

abbrev pub decreases-digits : goal.decreases-digits
decreases-digits l = length l.rest
