-- The number so far, read on over the rest, is the number.
use Rattle.std.proofs.Common.{◌≡◌, ◌≤◌, length}
use Rattle.std.specs.List.{list_all}
use Rattle.netlist_grammar.specs.Bytes.{is_digit, number_from}
use Rattle.netlist_reader.proofs.number.int_of.Given as goal

abbrev pub invariant-digits : goal.invariant-digits
invariant-digits l = record {
  number : number_from 10 0 l.fn.text ≡ number_from 10 l.value l.rest;
  digits : list_all is_digit l.fn.text ≡ list_all is_digit l.rest;
  small : l.value ≤ 2147483649;
}

abbrev pub decreases-digits : goal.decreases-digits
decreases-digits l = length l.rest
