-- The blocks so far are those of the node.
use Rattle.std.proofs.Common.{◌≡◌, length}
use Rattle.decide_tables.specs.Evaluated.{AreFirstBlocks}
use Rattle.decide_tables.proofs.evaluate.node_blocks.Given as goal

abbrev pub invariant-numbers : goal.invariant-numbers
invariant-numbers l = record {
  long : length l.blocks.items ≡ l.block;
  are : AreFirstBlocks l.graph l.list l.node l.blocks.items;
}
