-- What the definitions compute stands in the lemmas.
use Rattle.law_quiet.proofs.WorkedQuiet.{certain_rests, edge_is_due, held_is_due, moments_are_due, restless_is_due}
use Rattle.law_quiet.proofs.WorkedQuiet.{second_is_due}
use Rattle.law_quiet.proofs.WorkedQuiet.{unclocked_is_due}
use Rattle.law_quiet.proofs.worked.quiet_by_hand.Goals as goal

pub returns-clause-edge : goal.returns-clause-edge
returns-clause-edge c = edge_is_due

pub returns-clause-unclocked : goal.returns-clause-unclocked
returns-clause-unclocked c = unclocked_is_due

pub returns-clause-certain : goal.returns-clause-certain
returns-clause-certain c = certain_rests

pub returns-clause-restless : goal.returns-clause-restless
returns-clause-restless c = restless_is_due

pub returns-clause-moments : goal.returns-clause-moments
returns-clause-moments c = moments_are_due

pub returns-clause-second : goal.returns-clause-second
returns-clause-second c = second_is_due

pub returns-clause-held : goal.returns-clause-held
returns-clause-held c = held_is_due
