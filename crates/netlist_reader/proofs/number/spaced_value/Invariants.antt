-- The value so far, read on over the rest, is the number; it stays under 2^128.
use Rattle.std.proofs.Common.{◌≡◌, ◌<◌, ◌^◌, ◌==◌, not, length, filter}
use Rattle.netlist_grammar.specs.Bytes.{number_from}
use Rattle.netlist_grammar.specs.Numbers.{are_spaced_digits, spaced_number}
use Rattle.netlist_reader.proofs.Numbers.{go_on}
use Rattle.netlist_reader.proofs.number.spaced_value.Given as goal

abbrev pub invariant-digits : goal.invariant-digits
invariant-digits l = record {
  spaced : are_spaced_digits l.fn.base l.fn.text ≡ go_on l.fn.base l.is_end l.rest;
  number : spaced_number l.fn.base l.fn.text ≡ number_from l.fn.base l.value (filter (λ b. not (b == 95)) l.rest);
  small : l.value < 2 ^ 128;
}

abbrev pub decreases-digits : goal.decreases-digits
decreases-digits l = length l.rest
