-- The lanes of a place by hand: the first 64 of net 0 at step 0.
use Rattle.std.proofs.Common.{◌≡◌, slice_index, refl}
use Rattle.decide_lane_nodes.specs.Given.{folded, given_by, given_lanes}

first_lanes : slice_index (given_lanes (record { step = 0; net = 0 })) 0 ≡ 6364136222910352128
unfolding folded given_by
first_lanes = refl
