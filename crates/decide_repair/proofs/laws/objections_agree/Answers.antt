-- Each law stands in its lemma.
use Rattle.decide_repair.proofs.AgreeingObjections.{objections_are_exact, objections_object, objections_agree, waves_are_alike}
use Rattle.decide_repair.proofs.laws.objections_agree.Goals as goal

pub returns-clause-objects : goal.returns-clause-objects
returns-clause-objects c = objections_object

pub returns-clause-exact : goal.returns-clause-exact
returns-clause-exact c = objections_are_exact

pub returns-clause-one : goal.returns-clause-one
returns-clause-one c = objections_agree

pub returns-clause-waves : goal.returns-clause-waves
returns-clause-waves c = waves_are_alike
