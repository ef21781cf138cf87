-- The positions of the arguments so far.
use Rattle.std.proofs.Common.{◌≡◌, ◌<◌, length, map, take, slice_index}
use Rattle.std.specs.List.{AllByRecursion}
use Rattle.decide_cone.proofs.positions.positions_of.Given as goal

abbrev pub invariant-arguments : goal.invariant-arguments
invariant-arguments l = record {
  count : length l.positions ≡ l.argument-index;
  within : AllByRecursion (λ p. p < length l.places) l.positions;
  are_places : map (slice_index l.places) l.positions ≡ take l.argument-index l.arguments;
}
