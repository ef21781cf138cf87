-- Each pattern has the lane's bit, lane by lane.
use Rattle.std.proofs.Common.{◌≡◌, [], ◌∷◌, refl, arith}
use Rattle.decide_nodes.proofs.EachLane.{equal_parts}
use Rattle.decide_pair.proofs.BlockLanes.{low_by_lanes}
use Rattle.decide_pair.proofs.blocks.low_lanes.Goals as goal

pub returns-in-0 : goal.returns-in-0
returns-in-0 c = rw (c.in-0.is, c.new.ensures) (low_by_lanes 0 (equal_parts 0xaaaa_aaaa_aaaa_aaaa) refl)

pub returns-in-1 : goal.returns-in-1
returns-in-1 c = rw (c.in-1.is, c.new-in-1.ensures) (low_by_lanes 1 (equal_parts 0xcccc_cccc_cccc_cccc) refl)

pub returns-in-2 : goal.returns-in-2
returns-in-2 c = rw (c.in-2.is, c.new-in-2.ensures) (low_by_lanes 2 (equal_parts 0xf0f0_f0f0_f0f0_f0f0) refl)

pub returns-in-3 : goal.returns-in-3
returns-in-3 c = rw (c.in-3.is, c.new-in-3.ensures) (low_by_lanes 3 (equal_parts 0xff00_ff00_ff00_ff00) refl)

pub returns-in-4 : goal.returns-in-4
returns-in-4 c = rw (c.in-4.is, c.new-in-4.ensures) (low_by_lanes 4 (equal_parts 0xffff_0000_ffff_0000) refl)

pub returns-in-5 : goal.returns-in-5
returns-in-5 c = rw (c.in-5.is, c.new-in-5.ensures) (low_by_lanes 5 (equal_parts 0xffff_ffff_0000_0000) refl)

pub returns-in-6 : goal.returns-in-6
returns-in-6 c = rw (c.in-6.is, c.new-in-6.ensures) (low_by_lanes 6 (0 ∷ 0xffff_ffff_ffff_ffff ∷ 0 ∷ 0xffff_ffff_ffff_ffff ∷ []) refl)

pub returns-in_default : goal.returns-in_default
returns-in_default c =
    let seven : c.args.source ≡ 7 = omega arith in
    rw (seven, c.new-in_default.ensures) (low_by_lanes 7 (0 ∷ 0 ∷ 0xffff_ffff_ffff_ffff ∷ 0xffff_ffff_ffff_ffff ∷ []) refl)
