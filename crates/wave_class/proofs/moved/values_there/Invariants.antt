-- The pins so far are read.
use Rattle.std.proofs.Common.{◌≡◌, take, length}
use Rattle.wave_class.specs.Wires.{values_there}
use Rattle.wave_class.proofs.moved.values_there.Given as goal

abbrev pub invariant-pins : goal.invariant-pins
invariant-pins g l = record {
  long : length l.values ≡ 10;
  read : take l.index l.values ≡ values_there (g.E.Source.reads l.earlier) l.first (take l.index l.pins);
}
