-- A pair falls, or one more rises.
use Rattle.design_circuit.specs.Circuit.{job_in}
use Rattle.design_circuit.specs.Job.{number_of}
use Rattle.design_circuit.proofs.Ascending.{falls, no_truth, rises_more}
use Rattle.design_circuit.proofs.filling.ascend.Goals as goal

pub returns-then-number_of : goal.returns-then-number_of
returns-then-number_of c = (
  λ none. absurd (no_truth none),
  λ ascending. absurd (falls (number_of (job_in c.args.circuit.now)) c.args.places.now c.places.index _ _ c.number_of-in-places.result c.number_of.result
      c.places.auto.index c.places-test.true c.number_of.ensures.number c.number_of-in-places.ensures.number c.if-number_of.true ascending),
)

pub places-preserved : goal.places-preserved
places-preserved c =
    rises_more (number_of (job_in c.args.circuit.now)) c.args.places.now c.places.index _ _ c.number_of-in-places.result c.number_of.result
    c.places.auto.index c.places-test.true c.number_of.ensures.number c.number_of-in-places.ensures.number c.if-number_of.false c.places.invariant
