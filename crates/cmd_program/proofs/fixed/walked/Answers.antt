-- The first wave is found, and then the second walk.
use Rattle.base_run.specs.Prepared.{answer_of}
use Rattle.base_run.proofs.Then.{searched_then}
use Rattle.cmd_program.specs.Fix.{fix_values, walk_set}
use Rattle.cmd_phases.specs.Phases.{itself, walk_cause}
use Rattle.cmd_phases.specs.Repair.{ReplayWalkComes, Walked}
use Rattle.cmd_phases.proofs.Jobs.{circuit_fits}
use Rattle.cmd_program.proofs.fixed.walked.Goals as goal

pub returns-clause-prepared : goal.returns-clause-prepared
returns-clause-prepared g c =
    let set = c.args.set.now in
    let w = fix_values set.words in
    let n = set.agreed.now.parts.netlist in
    let r = set.agreed.now.parts.recorded in
    searched_then (ReplayWalkComes w.limits n r.stim) walk_cause (λ (x : Walked). walk_set w n r set.stim.now x.wave) itself answer_of
    record { history = set.agreed.now.history; wave = c.in_ok-before.before } c.walked_set.result
    record {
      found = record { fits = circuit_fits n r c.args.set.now.agreed.now.fits; replay = c.args.set.now.agreed.now.replay; repaired = c.in_ok-before.ensures.repaired };
      refused = tt;
    }
    c.walked_set.ensures.prepared
