-- The tokens so far open nothing.
use Rattle.std.proofs.Common.{◌≡◌, length}
use Rattle.netlist_trim.specs.Definition.{from_first, opens}
use Rattle.netlist_trim.proofs.reader.Reader.next_opening.Given as goal

abbrev pub invariant-tokens : goal.invariant-tokens
invariant-tokens l = record {
  rest : from_first opens l.fn.self.tokens ≡ from_first opens l.self.tokens;
  fault : l.self.fault ≡ l.fn.self.fault;
}

abbrev pub decreases-tokens : goal.decreases-tokens
decreases-tokens l = length l.self.tokens
