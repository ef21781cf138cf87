-- Within a moment nothing is stirred; at its start what is listed is looked at.
use Rattle.std.proofs.Common.{◌∙◌, sym}
use Rattle.design_circuit.specs.Circuit.{job_in}
use Rattle.replay_fans.specs.Nets.{driver_on, net_on}
use Rattle.wave_due.proofs.ListedSources.{all_stirred, unstirred}
use Rattle.wave_due.proofs.sources.mark_sources.Goals as goal

pub returns-then-not-begins_moment-clause-stirred : goal.returns-then-not-begins_moment-clause-stirred
returns-then-not-begins_moment-clause-stirred c = λ p low none.
    (let j = job_in c.args.circuit.now in
    unstirred j c.args.step (net_on j p) (driver_on j p) (sym c.begins_moment.ensures ∙ c.if-not-begins_moment.true))

pub returns-clause-stirred : goal.returns-clause-stirred
returns-clause-stirred c =
    all_stirred (job_in c.args.circuit.now) c.args.step c.args.sources.now c.mark_listed.new.due c.requires.sources
    c.mark_listed.ensures.listed
