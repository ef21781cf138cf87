-- The clauses so far are those of the first lists, all nodes of which have variables; none has a 0.
use Rattle.std.proofs.Common.{◌≡◌, true, map, take}
use Rattle.std.specs.List.{All, list_all}
use Rattle.decide_guess.specs.Renamed.{clause_by, have_variables}
use Rattle.sat_proof.specs.Assignment.{HasNoZero}
use Rattle.sat_proof.specs.Log.{Fit}
use Rattle.decide_guess.proofs.renamed.log_of.Given as goal

abbrev pub invariant-clauses : goal.invariant-clauses
invariant-clauses l = record {
  found : list_all (have_variables l.positions l.vars) (take l.k l.clauses) ≡ true;
  list : l.log.items ≡ map (clause_by l.positions) (take l.k l.clauses);
  fit : Fit l.vars l.log.items;
  no_zero : All HasNoZero l.log.items;
}
