-- One source more is looked at.
use Rattle.std.proofs.Common.{◌∙◌}
use Rattle.design_circuit.specs.Circuit.{job_in}
use Rattle.wave_due.proofs.ListedSources.{sources_more}
use Rattle.wave_due.proofs.sources.mark_listed.Goals as goal

pub mark_source-requires-clause-position : goal.mark_source-requires-clause-position
mark_source-requires-clause-position c = c.requires.sources.within c.sources.position-index c.sources-test.true

pub sources-preserved : goal.sources-preserved
sources-preserved c = record {
  long = c.mark_source.ensures.long ∙ c.sources.invariant.long;
  more = λ position is. c.mark_source.ensures.more position (c.sources.invariant.more position is);
  listed = sources_more (job_in c.args.circuit.now) c.args.step c.args.sources.now c.sources.position-index
      c.sources.due
      c.mark_source.new.due c.mark_source.ensures.more c.mark_source.ensures.here c.sources.invariant.listed;
}
