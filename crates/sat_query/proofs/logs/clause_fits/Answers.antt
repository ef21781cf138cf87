-- One literal more, or the first that misfits.
use Rattle.std.proofs.Common.{rules, refl, w32, ◌≤◌, subst, get_or, pos, take_all}
use Rattle.std.specs.Prelude.{nat_abs}
use Rattle.std.specs.List.{All}
use Rattle.std.proofs.lemmas.List.Elements.{All-more}
use mir.Val.{SFits}
use Rattle.sat_query.proofs.Literals.{abs_le}
use Rattle.sat_query.proofs.logs.clause_fits.Goals as goal

pub literals-preserved : goal.literals-preserved
literals-preserved c =
    let x = get_or c.args.literals.now c.literals.literal-index (pos 0) in
    let fits : SFits w32 x = search rules in
    All-more (λ x. nat_abs x ≤ c.args.vars) c.args.literals.now c.literals.literal-index (pos 0) c.literals-test.true
    c.literals.invariant
    (abs_le x c.args.vars c.unsigned_abs.result fits c.unsigned_abs.ensures.value c.if-unsigned_abs-vars.false)

pub returns : goal.returns
returns c = (
  λ _. subst (All (λ x. nat_abs x ≤ c.args.vars))
      (take_all c.literals.literal-index c.args.literals.now c.literals-test.false) c.literals.invariant,
  λ _. refl,
)
