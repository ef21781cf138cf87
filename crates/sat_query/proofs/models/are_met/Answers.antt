-- One clause more that is met, one that isn't, or the end.
use Rattle.std.proofs.Common.{◌∙◌, refl}
use Rattle.sat_proof.specs.Assignment.{IsMet, assigned}
use Rattle.sat_query.proofs.Literals.{item_all, item_more}
use Rattle.sat_query.proofs.StatedModels.{item_there}
use Rattle.sat_query.proofs.models.are_met.Goals as goal

pub returns-then-not-is_met : goal.returns-then-not-is_met
returns-then-not-is_met c = (
  λ no. absurd cc,
  λ all.
      (let met = c.is_met.ensures.1 (item_there (IsMet (assigned c.args.values.now)) c.args.clauses.now c.clauses.place
      c.index-clauses-place.result c.as_slice.result.now c.clauses-test.true all
      (c.as_slice.ensures.value ∙ c.index-clauses-place.is)) in
      let no = c.if-not-is_met.true in
      absurd cc),
)

pub clauses-preserved : goal.clauses-preserved
clauses-preserved c =
    item_more (IsMet (assigned c.args.values.now)) c.args.clauses.now c.clauses.place c.index-clauses-place.result
    c.as_slice.result.now c.clauses-test.true c.clauses.invariant (c.as_slice.ensures.value ∙ c.index-clauses-place.is)
    (c.is_met.ensures.0 c.if-not-is_met.false)

pub returns : goal.returns
returns c = (
  λ _. item_all (IsMet (assigned c.args.values.now)) c.args.clauses.now c.args.clauses.now c.clauses.place
      c.clauses-test.false refl c.clauses.invariant,
  λ _. refl,
)
