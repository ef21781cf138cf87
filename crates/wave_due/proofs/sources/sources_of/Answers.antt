-- At first there is none.
use Rattle.std.proofs.Common.{◌≡◌, [], rules, subst, sym}
use Rattle.design_circuit.specs.Circuit.{job_in}
use Rattle.wave_due.specs.Sources.{AreSources}
use Rattle.wave_due.proofs.ListedSources.{no_sources}
use Rattle.wave_due.proofs.sources.sources_of.Goals as goal

pub positions-init : goal.positions-init
positions-init c =
    let none : c.new-sources.result.items ≡ [] = search rules in
    subst (AreSources (job_in c.args.circuit.now) 0) (sym none) (no_sources (job_in c.args.circuit.now))
