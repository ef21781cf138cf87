-- The clauses are among those of the formula, so they fit.
use Rattle.std.proofs.Common.{sym, subst}
use Rattle.std.specs.Prelude.{◌≤◌, nat_abs}
use Rattle.std.specs.List.{All}
use Rattle.sat_query.proofs.MoreClauses.{all_among}
use Rattle.sat_query.specs.Core.{AreAmong}
use Rattle.sat_query.proofs.solver.Solver.needed_clauses.Goals as goal

pub invariant_of-result-clause-few : goal.invariant_of-result-clause-few
invariant_of-result-clause-few c = c.args.formula.now.few

pub returns-clause-among : goal.returns-clause-among
returns-clause-among c =
    let among = subst (AreAmong c.clauses.needed.items) c.as_slice-clauses.ensures c.clauses.invariant in
    subst (λ needed. AreAmong needed c.args.formula.now.clauses) (sym c.from_vec.ensures) among

pub invariant_of-result-clause-fit : goal.invariant_of-result-clause-fit
invariant_of-result-clause-fit c =
    let among = subst (AreAmong c.clauses.needed.items) c.as_slice-clauses.ensures c.clauses.invariant in
    all_among (All (λ l. nat_abs l ≤ c.args.formula.now.vars)) c.from_vec.result c.args.formula.now.clauses
    (subst (λ needed. AreAmong needed c.args.formula.now.clauses) (sym c.from_vec.ensures) among)
    c.args.formula.now.fit
