-- Each law stands in its lemma.
use Rattle.law_model.proofs.LawProofs.{consistent_are_models, models_are_consistent}
use Rattle.law_model.proofs.laws.models_are_consistent.Goals as goal

pub returns-clause-models : goal.returns-clause-models
returns-clause-models c = consistent_are_models

pub returns-clause-consistent : goal.returns-clause-consistent
returns-clause-consistent c = models_are_consistent
