-- As many values as variables, by which each clause is met.
use Rattle.std.proofs.Common.{ap, ◌∙◌, length, sym}
use Rattle.sat_query.proofs.StatedModels.{met_same}
use Rattle.sat_query.proofs.models.is_model.Goals as goal

pub returns-then-values-query : goal.returns-then-values-query
returns-then-values-query c = (
  λ holds. record {
    count = ap length (sym c.as_slice-values.ensures) ∙ c.if-values-query.true;
    met = met_same c.as_slice-values.result.now c.args.model.now c.as_slice.result.now c.args.query.now.clauses
        c.as_slice-values.ensures c.as_slice.ensures (c.are_met.ensures.0 holds);
  },
  λ is. c.are_met.ensures.1 (met_same c.args.model.now c.as_slice-values.result.now c.args.query.now.clauses
      c.as_slice.result.now (sym c.as_slice-values.ensures) (sym c.as_slice.ensures) is.met),
)
