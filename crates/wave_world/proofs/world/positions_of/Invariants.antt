-- The positions so far are those of the nets so far.
use Rattle.std.proofs.Common.{◌≡◌, map}
use Rattle.std.specs.List.{range_with_len}
use Rattle.design_circuit.specs.Order.{position_of}
use Rattle.wave_world.proofs.world.positions_of.Given as goal

abbrev pub invariant-nets : goal.invariant-nets
invariant-nets l = l.positions.items ≡ map (position_of l.order) (range_with_len 0 l.net)
