-- Each stands in its lemma.
use Rattle.cert_condition.proofs.WorkedConditions.{dropped_holds, dropped_parts, needed_holds, needed_needs, needed_parts}
use Rattle.cert_condition.proofs.worked.conditions_by_hand.Goals as goal

pub returns-clause-needed : goal.returns-clause-needed
returns-clause-needed c = needed_parts

pub returns-clause-dropped : goal.returns-clause-dropped
returns-clause-dropped c = dropped_parts

pub returns-clause-needs : goal.returns-clause-needs
returns-clause-needs c = needed_needs

pub returns-clause-needed_holds : goal.returns-clause-needed_holds
returns-clause-needed_holds c = needed_holds

pub returns-clause-dropped_holds : goal.returns-clause-dropped_holds
returns-clause-dropped_holds c = dropped_holds
