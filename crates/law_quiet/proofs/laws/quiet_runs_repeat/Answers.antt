-- Each law stands in its lemma.
use Rattle.law_quiet.proofs.QuietRuns.{next_law, run_law}
use Rattle.law_quiet.proofs.StretchedRuns.{stretch_law}
use Rattle.law_quiet.proofs.laws.quiet_runs_repeat.Goals as goal

pub returns-clause-run : goal.returns-clause-run
returns-clause-run c = run_law

pub returns-clause-next : goal.returns-clause-next
returns-clause-next c = next_law

pub returns-clause-stretch : goal.returns-clause-stretch
returns-clause-stretch c = stretch_law
