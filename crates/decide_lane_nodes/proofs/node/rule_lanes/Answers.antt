-- The table gives in each lane what the place has there.
use Rattle.std.proofs.Common.{ap, ◌∙◌}
use Rattle.design_circuit.specs.Fits.{place_at}
use Rattle.design_circuit.specs.Job.{Job}
use Rattle.design_circuit.specs.Waveform.{certain}
use Rattle.law_model.proofs.Roots.{root_own}
use Rattle.wave_proved.specs.Contents.{job}
use Rattle.decide_lane_nodes.specs.Given.{given_lanes}
use Rattle.decide_lane_nodes.proofs.LiteralBits.{rule_bits, covered_arguments}
use Rattle.decide_lane_nodes.proofs.node.rule_lanes.Goals as goal

pub table_lanes-requires-clause-covered : goal.table_lanes-requires-clause-covered
table_lanes-requires-clause-covered c =
    covered_arguments c.args.wave.now c.args.covered c.args.place c.args.arguments.now c.args.values.now
    c.circuit-circuit.ensures.wave c.requires.reach c.requires.rule c.requires.covered

pub returns-clause-root : goal.returns-clause-root
returns-clause-root c =
    root_own (job c.args.wave.now) (certain c.args.wave.now.written) c.args.place c.requires.rule.free

pub returns-clause-bits : goal.returns-clause-bits
returns-clause-bits c =
    rule_bits c.args.wave.now c.args.covered c.args.place c.args.arguments.now c.args.values.now c.given-own.result
    c.table_lanes.result c.circuit-circuit.ensures.wave c.requires.reach c.requires.rule c.requires.covered
    (c.given-own.ensures ∙ ap given_lanes (c.place_of.ensures
    ∙ ap (λ (j : Job). place_at j c.args.place) c.circuit-circuit.ensures.job)) c.table_lanes.ensures
