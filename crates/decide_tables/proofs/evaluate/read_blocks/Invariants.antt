-- The blocks so far are found.
use Rattle.std.proofs.Common.{◌≡◌, length}
use Rattle.decide_tables.specs.Evaluated.{AreFoundBlocks}
use Rattle.decide_tables.proofs.evaluate.read_blocks.Given as goal

abbrev pub invariant-nodes : goal.invariant-nodes
invariant-nodes l = record {
  long : length l.given ≡ 13;
  found : AreFoundBlocks l.tables l.nodes l.block l.given l.index;
}
