-- The place is written, and its fillings are a pair of the next one.
use Rattle.std.proofs.Common.{ap, ◌∙◌}
use Rattle.design_circuit.specs.Fits.{place_at}
use Rattle.design_circuit.specs.Job.{Job}
use Rattle.decide_lanes.proofs.EqualNodes.{pair_again, place_written}
use Rattle.decide_lanes.proofs.shown.pair_as.Goals as goal

pub pair_of-requires : goal.pair_of-requires
pair_of-requires c =
    place_written c.args.wave.now c.args.place c.place_of.result c.circuit-circuit.ensures.wave c.requires.written c.requires.next
    (c.place_of.ensures ∙ ap (λ (j : Job). place_at j c.args.place) c.circuit-circuit.ensures.job)

pub from_law-requires-clause-law : goal.from_law-requires-clause-law
from_law-requires-clause-law c =
    pair_again c.args.wave.now c.args.place c.place_of.result (c.in-Some.zero, c.in-Some.one) c.circuit-circuit.ensures.wave
    c.requires.written c.requires.next c.requires.bits
    (c.place_of.ensures ∙ ap (λ (j : Job). place_at j c.args.place) c.circuit-circuit.ensures.job)
    (rw c.in-Some.is at c.in_ok-zero.ensures.both)
