-- The wave is finished, so it has the step.
use Rattle.std.proofs.Common.{◌∙◌, ap, sym, subst}
use Rattle.design_circuit.specs.Settled.{last_round}
use Rattle.design_circuit.specs.declared.stim.Stim.{Stim}
use Rattle.report_bits.specs.Finished.{HasStep}
use Rattle.report_bits.proofs.Reach.{moment_there}
use Rattle.report_bits.proofs.told.last_step.Goals as goal

pub returns-clause-there : goal.returns-clause-there
returns-clause-there c =
    let from = c.args.from.now in
    let wave = from.wave.now in
    let moment = c.args.moment in
    let step = c.last_round.ensures ∙ ap (λ (s : Stim). last_round s.rounds moment) c.stim.ensures in
    subst (HasStep wave) (sym step) (moment_there wave c.recall.ensures from.finished moment c.requires.moment)
