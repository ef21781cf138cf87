-- Each law stands in its lemma.
use Rattle.law_waveforms.proofs.Audits.{first_listed, objection_listed, some_listed}
use Rattle.law_waveforms.proofs.Meetings.{meet_once, objection_met}
use Rattle.law_waveforms.proofs.laws.audits_list_the_first.Goals as goal

pub returns-clause-first : goal.returns-clause-first
returns-clause-first c = first_listed

pub returns-clause-objection : goal.returns-clause-objection
returns-clause-objection c = objection_listed

pub returns-clause-some : goal.returns-clause-some
returns-clause-some c = some_listed

pub returns-clause-once : goal.returns-clause-once
returns-clause-once c = meet_once

pub returns-clause-met : goal.returns-clause-met
returns-clause-met c = objection_met
