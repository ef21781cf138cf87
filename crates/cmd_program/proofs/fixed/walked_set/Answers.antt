-- The second wave is found, and what both come to.
use Rattle.std.proofs.Common.{rules, ◌≡◌, Err, Ok}
use Rattle.base_run.specs.Prepared.{answer_of}
use Rattle.base_run.specs.Phases.{Phases}
use Rattle.base_run.proofs.Then.{found_prepared, memory_out, searched_then}
use Rattle.cmd_program.specs.Fix.{fix_values, fix_answer, walk_set}
use Rattle.cmd_phases.specs.Phases.{itself, walk_cause}
use Rattle.cmd_phases.specs.Repair.{ReplayWalkComes, Walked}
use Rattle.cmd_program.proofs.Restarts.{are_beside, bound_there, set_fits}
use Rattle.base_run.specs.declared.refusal.Refusal.TheVariants.{Memory}
use Rattle.cmd_program.proofs.fixed.walked_set.Goals as goal

pub replay_of-requires : goal.replay_of-requires
replay_of-requires g c =
    let set = c.args.set.now in
    set_fits set.agreed.now.parts.netlist set.agreed.now.parts.recorded set.stim.now c.args.set.now.agreed.now.fits c.requires.set.fits_stim c.requires.set.others

pub replay_wave-requires-clause-fits : goal.replay_wave-requires-clause-fits
replay_wave-requires-clause-fits g c =
    let set = c.args.set.now in
    set_fits set.agreed.now.parts.netlist set.agreed.now.parts.recorded set.stim.now c.args.set.now.agreed.now.fits c.requires.set.fits_stim c.requires.set.others

pub listed-requires-clause-waves : goal.listed-requires-clause-waves
listed-requires-clause-waves g c =
    let set = c.args.set.now in
    are_beside set.words.limits set.agreed.now.parts.netlist set.agreed.now.parts.recorded.stim set.stim.now set.agreed.now.history c.in_ok-history.history c.args.before.now c.in_ok-after.after
    c.requires.set.others c.requires.before c.in_ok-after.ensures.repaired

pub listed-requires-clause-binding : goal.listed-requires-clause-binding
listed-requires-clause-binding g c =
    let set = c.args.set.now in
    bound_there set.words.limits set.agreed.now.parts.netlist set.agreed.now.parts.recorded set.agreed.now.history c.args.before.now c.args.set.now.agreed.now.fits c.requires.before

pub returns-clause-prepared : goal.returns-clause-prepared
returns-clause-prepared g c =
    let set = c.args.set.now in
    let w = fix_values set.words in
    let n = set.agreed.now.parts.netlist in
    let r = set.agreed.now.parts.recorded in
    searched_then (ReplayWalkComes w.limits n set.stim.now) walk_cause (λ (x : Walked). Phases.Finds (fix_answer w r c.args.before.now x.wave)) itself answer_of
    record { history = c.in_ok-history.history; wave = c.in_ok-after.after } (Ok c.in_ok-listed.field-0)
    record {
      found = record {
        fits = set_fits n r set.stim.now c.args.set.now.agreed.now.fits c.requires.set.fits_stim c.requires.set.others;
        replay = c.in_ok-history.ensures;
        repaired = c.in_ok-after.ensures.repaired;
      };
      refused = tt;
    }
    (λ told v. found_prepared told answer_of (fix_answer w r c.args.before.now c.in_ok-after.after) v c.in_ok-listed.field-0 c.in_ok-listed.ensures)

pub returns-in_err-listed-clause-prepared : goal.returns-in_err-listed-clause-prepared
returns-in_err-listed-clause-prepared g c =
    let is : c.from_residual-in_err-listed.result ≡ Err Memory = search rules in
    rw is (memory_out (walk_set (fix_values c.args.set.now.words) c.args.set.now.agreed.now.parts.netlist c.args.set.now.agreed.now.parts.recorded
    c.args.set.now.stim.now c.args.before.now) answer_of)
