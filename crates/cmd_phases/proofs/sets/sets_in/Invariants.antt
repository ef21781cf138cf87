-- The pieces so far are those before this one.
use Rattle.std.proofs.Common.{◌≡◌, map, take}
use Rattle.cmd_phases.specs.Sets.{set_of}
use Rattle.cmd_phases.proofs.sets.sets_in.Given as goal

abbrev pub invariant-pieces : goal.invariant-pieces
invariant-pieces l = l.sets.items ≡ map set_of (take l.piece-index l.pieces)
