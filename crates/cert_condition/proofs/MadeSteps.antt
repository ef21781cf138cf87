-- Steps of a condition.
use Rattle.std.proofs.Common.{refl, ◌∙◌}
use Rattle.cert_condition.specs.View.{ConditionView, IsUnderWay, IsStep}

-- Where nothing is made yet.
pub not_begun : (old : ConditionView) → IsUnderWay old old
not_begun old = record { limit = refl; place = refl; boundary = refl; is = λ c root is. is }

pub step_more : (old now next : ConditionView) → IsUnderWay old now → IsStep now next → IsUnderWay old next
step_more old now next running step = record {
  limit = step.1.limit ∙ running.limit;
  place = step.1.place ∙ running.place;
  boundary = step.1.boundary ∙ running.boundary;
  is = λ c root is. step.1.is c root (running.is c root is);
}
