-- Each law stands in its lemma.
use Rattle.law_model.proofs.LawProofs.{worlds_are_consistent, consistent_are_worlds, sources_decide}
use Rattle.law_model.proofs.laws.worlds_are_consistent.Goals as goal

pub returns-clause-consistent : goal.returns-clause-consistent
returns-clause-consistent c = worlds_are_consistent

pub returns-clause-worlds : goal.returns-clause-worlds
returns-clause-worlds c = consistent_are_worlds

pub returns-clause-sources : goal.returns-clause-sources
returns-clause-sources c = sources_decide
