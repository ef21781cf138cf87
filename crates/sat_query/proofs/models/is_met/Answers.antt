-- One literal more that isn't true, or the end.
use Rattle.std.proofs.Common.{rules, ◌≡◌, false, get_or, pos, subst, take_all, w32}
use Rattle.std.specs.List.{All}
use Rattle.sat_proof.specs.Assignment.{assigned, value_of}
use mir.Val.{SFits}
use Rattle.sat_query.proofs.StatedModels.{none_met, none_more}
use Rattle.sat_query.proofs.models.is_met.Goals as goal

pub literals-preserved : goal.literals-preserved
literals-preserved c =
    let fits : SFits w32 (get_or c.args.literals.now c.literals.literal-index (pos 0)) = search rules in
    none_more (assigned c.args.values.now) c.args.literals.now c.literals.literal-index c.is_true.result
    c.literals-test.true c.literals.invariant fits c.is_true.ensures c.if-is_true.false

pub returns : goal.returns
returns c = (
  λ no. absurd cc,
  λ met. absurd (none_met (assigned c.args.values.now) c.args.literals.now
      (subst (All (λ x. value_of (assigned c.args.values.now) x ≡ false))
      (take_all c.literals.literal-index c.args.literals.now c.literals-test.false) c.literals.invariant) met),
)
