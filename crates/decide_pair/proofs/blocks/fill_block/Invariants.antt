-- The lanes so far are those of the block.
use Rattle.std.proofs.Common.{◌≡◌, length}
use Rattle.decide_pair.specs.Blocks.{IsLaneTableOf}
use Rattle.decide_pair.proofs.blocks.fill_block.Given as goal

abbrev pub invariant-sources : goal.invariant-sources
invariant-sources l = record {
  long : length l.given ≡ 16;
  lane_table : IsLaneTableOf l.block l.given l.source;
}
