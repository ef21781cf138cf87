-- Each turn looks at an earlier place of the trail.
use Rattle.sat_search.proofs.analysis.Analysis.find.Given as goal

abbrev pub decreases-points : goal.decreases-points
decreases-points l = l.at
