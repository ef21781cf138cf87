-- The parts so far were empty.
use Rattle.std.proofs.Common.{◌≡◌, length}
use Rattle.std.specs.Prelude.{filter}
use Rattle.sat_dimacs.specs.Lines.{is_filled}
use Rattle.sat_dimacs.proofs.words.Words.next.Given as goal

abbrev pub invariant-parts : goal.invariant-parts
invariant-parts l = l.fn.self ≡ filter is_filled l.self-inside.parts

abbrev pub decreases-parts : goal.decreases-parts
decreases-parts l = length l.self-inside.parts
