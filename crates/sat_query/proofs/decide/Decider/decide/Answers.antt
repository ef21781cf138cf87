-- What a guess comes to holds for any limit.
use Rattle.std.proofs.Common.{IfSome, subst}
use Rattle.sat_query.specs.Decided.{IsDecided}
use Rattle.sat_query.proofs.decide.Decider.decide.Goals as goal

pub returns-in-Some : goal.returns-in-Some
returns-in-Some c = record {
  outcome = subst (λ found. IfSome found (IsDecided c.args.formula.now)) c.in-Some.is c.in_ok-outcome.ensures c.args.limit;
}
