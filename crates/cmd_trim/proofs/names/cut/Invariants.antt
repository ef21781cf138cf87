-- The names so far, and those of what is left, are all.
use Rattle.std.proofs.Common.{◌≡◌, ◌++◌, length}
use Rattle.std.specs.Prelude.{◌==◌}
use Rattle.std.specs.List.{position_or_len}
use Rattle.base_line.specs.Line.{pieces_of}
use Rattle.netlist_stub.specs.Known.{texts_of}
use Rattle.cmd_trim.proofs.names.cut.Given as goal

abbrev pub invariant-names : goal.invariant-names
invariant-names l = record {
  all : texts_of l.names.items ++ pieces_of 44 l.rest ≡ pieces_of 44 l.fn.list;
  place_is : l.place ≡ position_or_len (λ b. b == 44) l.rest;
}

abbrev pub decreases-names : goal.decreases-names
decreases-names l = length l.rest
