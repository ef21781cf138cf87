-- The first part ends at the first gap.
use Rattle.sat_dimacs.proofs.PartLaws.{parts_cut, parts_whole}
use Rattle.sat_dimacs.proofs.parts.split_part.Goals as goal

pub returns-in-Some : goal.returns-in-Some
returns-in-Some c = parts_cut _ _ _ _ (rw c.in-Some.is at c.split_at.ensures.cut)

pub returns-in-None : goal.returns-in-None
returns-in-None c = rw c.nothing_of.ensures (parts_whole _ _ _ c.requires (rw c.in-None.is at c.split_at.ensures.cut))
