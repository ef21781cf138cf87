-- The nets so far are those of the variables so far.
use Rattle.std.proofs.Common.{◌≡◌, ◌≤◌, ◌^◌, length, take}
use Rattle.report_bits.specs.Marked.{bit_nets}
use Rattle.report_bits.proofs.nets.nets_of.Given as goal

abbrev pub invariant-variables : goal.invariant-variables
invariant-variables l = record {
  nets : l.nets.items ≡ bit_nets (take l.variable-index l.bound);
  few : length l.nets.items ≤ 2 ^ 20;
}
