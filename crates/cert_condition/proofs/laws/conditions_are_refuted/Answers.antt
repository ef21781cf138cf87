-- Each law stands in its lemma.
use Rattle.cert_condition.proofs.TurnModels.{choices_are_models, models_are_choices, turn_law}
use Rattle.cert_condition.proofs.laws.conditions_are_refuted.Goals as goal

pub returns-clause-models : goal.returns-clause-models
returns-clause-models c = choices_are_models

pub returns-clause-choices : goal.returns-clause-choices
returns-clause-choices c = models_are_choices

pub returns-clause-refuted : goal.returns-clause-refuted
returns-clause-refuted c = turn_law
