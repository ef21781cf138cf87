-- One clause more, or the end.
use Rattle.std.proofs.Common.{refl, ◌≤◌, ◌∙◌}
use Rattle.std.specs.Prelude.{nat_abs}
use Rattle.std.specs.List.{All}
use Rattle.sat_query.proofs.Literals.{item_all, item_more}
use Rattle.sat_query.proofs.logs.fits.Goals as goal

pub clauses-preserved : goal.clauses-preserved
clauses-preserved c =
    item_more (All (λ l. nat_abs l ≤ c.args.vars)) c.as_slice-clauses.result.now c.clauses.place
    c.index-clauses-place.result c.as_slice.result.now c.clauses-test.true c.clauses.invariant
    (c.as_slice.ensures.value ∙ c.index-clauses-place.is) (c.clause_fits.ensures.0 c.if-not-clause_fits.false)

pub returns : goal.returns
returns c = (
  λ _. item_all (All (λ l. nat_abs l ≤ c.args.vars)) c.as_slice-clauses.result.now c.args.log.now c.clauses.place
      c.clauses-test.false c.as_slice-clauses.ensures.value c.clauses.invariant,
  λ _. refl,
)
