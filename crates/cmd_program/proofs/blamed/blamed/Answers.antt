-- The wave is found, and what is listed of it.
use Rattle.std.proofs.Common.{rules, ◌≡◌, Err}
use Rattle.cmd_program.specs.Blame.{BlameComes, blame_values, walk_blamed}
use Rattle.cmd_program.proofs.Walk.{listed_found}
use Rattle.base_run.specs.declared.refusal.Refusal.TheVariants.{Memory}
use Rattle.base_run.proofs.Then.{memory_out}
use Rattle.base_run.specs.Prepared.{answer_of}
use Rattle.recording_shown.specs.History.{shown_history}
use Rattle.recording_shown.proofs.Showing.{shows_wave}
use Rattle.cmd_program.proofs.blamed.blamed.Goals as goal

pub returns-clause-prepared : goal.returns-clause-prepared
returns-clause-prepared g c =
    listed_found c.args.words.now.limits c.args.agreed.now.parts.netlist c.args.agreed.now.parts.recorded (BlameComes c.args.agreed.now.parts.recorded.binding.bound)
    record { history = c.args.agreed.now.history; wave = c.in_ok-wave.wave; shown = shown_history c.in_ok-wave.wave }
    c.in_ok-listed.field-0
    record {
      fits = c.args.agreed.now.fits;
      replay = c.args.agreed.now.replay;
      repaired = c.in_ok-wave.ensures.repaired;
      shows = shows_wave c.in_ok-wave.wave;
    }
    c.in_ok-listed.ensures

pub returns-in_err-listed-clause-prepared : goal.returns-in_err-listed-clause-prepared
returns-in_err-listed-clause-prepared g c =
    let is : c.from_residual-in_err-listed.result ≡ Err Memory = search rules in
    rw is (memory_out (walk_blamed (blame_values c.args.words.now) c.args.agreed.now.parts) answer_of)
