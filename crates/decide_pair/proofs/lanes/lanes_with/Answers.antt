-- Each has its lanes, lane by lane.
use Rattle.std.proofs.Common.{◌≡◌, [], ◌∷◌, refl, arith}
use Rattle.std.specs.Int.Count.{ones}
use Rattle.decide_pair.proofs.LeastLanes.{with_by_lanes}
use Rattle.decide_pair.proofs.lanes.lanes_with.Goals as goal

pub returns-in-0 : goal.returns-in-0
unfolding ones
returns-in-0 c = rw (c.in-0.is, c.new.ensures)
    (with_by_lanes (1 ∷ 0 ∷ 0 ∷ 0 ∷ []) 0 refl)

pub returns-in-1 : goal.returns-in-1
unfolding ones
returns-in-1 c = rw (c.in-1.is, c.new-in-1.ensures)
    (with_by_lanes (0x0000_0001_0001_0116 ∷ 1 ∷ 1 ∷ 0 ∷ []) 1 refl)

pub returns-in-2 : goal.returns-in-2
unfolding ones
returns-in-2 c = rw (c.in-2.is, c.new-in-2.ensures)
    (with_by_lanes (0x0001_0116_0116_1668 ∷ 0x0000_0001_0001_0116 ∷ 0x0000_0001_0001_0116 ∷ 1 ∷ []) 2 refl)

pub returns-in-3 : goal.returns-in-3
unfolding ones
returns-in-3 c = rw (c.in-3.is, c.new-in-3.ensures)
    (with_by_lanes (0x0116_1668_1668_6880 ∷ 0x0001_0116_0116_1668 ∷ 0x0001_0116_0116_1668 ∷ 0x0000_0001_0001_0116 ∷ []) 3 refl)

pub returns-in-4 : goal.returns-in-4
unfolding ones
returns-in-4 c = rw (c.in-4.is, c.new-in-4.ensures)
    (with_by_lanes (0x1668_6880_6880_8000 ∷ 0x0116_1668_1668_6880 ∷ 0x0116_1668_1668_6880 ∷ 0x0001_0116_0116_1668 ∷ []) 4 refl)

pub returns-in-5 : goal.returns-in-5
unfolding ones
returns-in-5 c = rw (c.in-5.is, c.new-in-5.ensures)
    (with_by_lanes (0x6880_8000_8000_0000 ∷ 0x1668_6880_6880_8000 ∷ 0x1668_6880_6880_8000 ∷ 0x0116_1668_1668_6880 ∷ []) 5 refl)

pub returns-in-6 : goal.returns-in-6
unfolding ones
returns-in-6 c = rw (c.in-6.is, c.new-in-6.ensures)
    (with_by_lanes (0x8000_0000_0000_0000 ∷ 0x6880_8000_8000_0000 ∷ 0x6880_8000_8000_0000 ∷ 0x1668_6880_6880_8000 ∷ []) 6 refl)

pub returns-in-7 : goal.returns-in-7
unfolding ones
returns-in-7 c = rw (c.in-7.is, c.new-in-7.ensures)
    (with_by_lanes (0 ∷ 0x8000_0000_0000_0000 ∷ 0x8000_0000_0000_0000 ∷ 0x6880_8000_8000_0000 ∷ []) 7 refl)

pub returns-in_default : goal.returns-in_default
unfolding ones
returns-in_default c =
    let eight : c.args.count ≡ 8 = omega arith in
    rw (eight, c.new-in_default.ensures) (with_by_lanes (0 ∷ 0 ∷ 0 ∷ 0x8000_0000_0000_0000 ∷ []) 8 refl)
