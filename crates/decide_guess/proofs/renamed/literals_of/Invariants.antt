-- The literals so far are those of the first nodes, each of which has a variable; none is 0.
use Rattle.std.proofs.Common.{◌≡◌, ◌≤◌, true, map, nat_abs, take}
use Rattle.std.specs.List.{All, list_all}
use Rattle.decide_guess.specs.Renamed.{has_variable, literal_by}
use Rattle.sat_proof.specs.Assignment.{HasNoZero}
use Rattle.decide_guess.proofs.renamed.literals_of.Given as goal

abbrev pub invariant-nodes : goal.invariant-nodes
invariant-nodes l = record {
  found : list_all (has_variable l.positions l.vars) (take l.k l.clause) ≡ true;
  list : l.literals.items ≡ map (literal_by l.positions) (take l.k l.clause);
  fit : All (λ n. nat_abs n ≤ l.vars) l.literals.items;
  no_zero : HasNoZero l.literals.items;
}
