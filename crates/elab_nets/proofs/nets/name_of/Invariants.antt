-- The parts so far.
use Rattle.std.proofs.Common.{◌≡◌, take}
use Rattle.elab_nets.proofs.nets.name_of.Given as goal

abbrev pub invariant-parts : goal.invariant-parts
invariant-parts l = l.parts.items ≡ take l.part-index l.prefix
