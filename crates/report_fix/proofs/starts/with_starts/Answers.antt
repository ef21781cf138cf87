-- The starts are those of the pieces, and all else is copied.
use Rattle.std.proofs.Common.{rules}
use Rattle.report_fix.proofs.FittingStarts.{started_fits, started_sets}
use Rattle.report_fix.proofs.starts.with_starts.Goals as goal

pub returns-clause-fits : goal.returns-clause-fits
returns-clause-fits c =
    started_fits c.args.design.now c.args.stim.now c.args.sets.now _ c.requires.stim
    (record { fine = search rules; starts = search rules; others = search rules })

pub returns-clause-unknown : goal.returns-clause-unknown
returns-clause-unknown c =
    started_sets c.args.design.now c.args.stim.now c.args.sets.now _
    (record { fine = search rules; starts = search rules; others = search rules })
