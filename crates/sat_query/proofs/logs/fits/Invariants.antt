-- The clauses so far fit.
use Rattle.std.proofs.Common.{take}
use Rattle.sat_proof.specs.Log.{Fit}
use Rattle.sat_query.proofs.logs.fits.Given as goal

abbrev pub invariant-clauses : goal.invariant-clauses
invariant-clauses l = Fit l.vars (take l.place l.clauses)
