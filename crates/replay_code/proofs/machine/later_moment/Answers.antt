-- The times up to the present moment are earlier.
use Rattle.replay_code.proofs.Steps.{earlier_times}
use Rattle.replay_code.proofs.machine.later_moment.Goals as goal

pub moment_from-requires-clause-earlier : goal.moment_from-requires-clause-earlier
moment_from-requires-clause-earlier c = λ k below. earlier_times _ c.args.progress.now c.in-Some.moment c.args.time k c.progress.view_is c.in-Some.is c.requires.there c.requires.later below
