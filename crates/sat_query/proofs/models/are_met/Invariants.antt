-- The clauses so far are true.
use Rattle.std.proofs.Common.{take}
use Rattle.std.specs.List.{All}
use Rattle.sat_proof.specs.Assignment.{IsMet, assigned}
use Rattle.sat_query.proofs.models.are_met.Given as goal

abbrev pub invariant-clauses : goal.invariant-clauses
invariant-clauses l = All (IsMet (assigned l.values)) (take l.place l.clauses)
