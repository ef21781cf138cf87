-- The line is one of the log's own, and a formula whose log refutes it has no model.
use Rattle.std.proofs.Common.{subst, List, ℤ}
use Rattle.std.specs.List.{All}
use Rattle.sat_proof.specs.Assignment.{HasNoZero}
use Rattle.sat_proof.specs.Log.{IsBadLine, Refutes}
use Rattle.sat_proof.proofs.Sound.{no_model, bad_not_refutes}
use Rattle.sat_proof.proofs.checker.Checker.check.Goals as goal

pub returns-in-Some-clause-line : goal.returns-in-Some-clause-line
returns-in-Some-clause-line c =
    subst (λ (q : List (List ℤ)). IsBadLine q c.args.log c.in-Some.line) c.as_slice.ensures
    (subst (λ (g : List (List ℤ)). IsBadLine c.as_slice.result.now g c.in-Some.line) c.as_slice-2.ensures.value c.in-Some.ensures.some)

pub returns-in-Some-clause-exact : goal.returns-in-Some-clause-exact
returns-in-Some-clause-exact c = (
  (λ e. cc),
  (λ r. absurd (bad_not_refutes c.args.cnf.now.clauses c.args.log c.in-Some.line
      (subst (λ (q : List (List ℤ)). IsBadLine q c.args.log c.in-Some.line) c.as_slice.ensures
      (subst (λ (g : List (List ℤ)). IsBadLine c.as_slice.result.now g c.in-Some.line) c.as_slice-2.ensures.value c.in-Some.ensures.some)) r)),
)

pub returns-clause-no_model : goal.returns-clause-no_model
returns-clause-no_model c = no_model c.args.cnf.now.vars c.args.cnf.now.clauses c.args.log
    (subst (λ (g : List (List ℤ)). Refutes c.args.cnf.now.clauses g) c.from_log.ensures.log c.from_log.ensures.refutes)
    (subst (λ (g : List (List ℤ)). All HasNoZero g) c.as_slice-2.ensures.value c.as_slice-2.ensures.no_zero)
