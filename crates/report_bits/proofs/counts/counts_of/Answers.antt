-- The whole steps are counted, then the places that are left.
use Rattle.std.proofs.Common.{◌∙◌, ap}
use Rattle.report_bits.specs.Counts.{total}
use Rattle.report_bits.proofs.Counting.{total_below}
use Rattle.report_bits.proofs.counts.counts_of.Goals as goal

pub returns-clause-all : goal.returns-clause-all
returns-clause-all c = ap total c.count_rest.ensures ∙ total_below c.args.wave.now _
