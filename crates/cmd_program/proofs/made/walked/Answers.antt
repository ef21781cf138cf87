-- The wave is found, and what is printed of it.
use Rattle.std.proofs.Common.{rules, ◌≡◌, Err}
use Rattle.cmd_program.specs.Make.{make_values, walk_made}
use Rattle.cmd_program.proofs.Walk.{made_found}
use Rattle.base_run.specs.declared.refusal.Refusal.TheVariants.{Memory}
use Rattle.base_run.proofs.Then.{memory_out}
use Rattle.base_run.specs.Prepared.{answer_of}
use Rattle.recording_shown.specs.History.{shown_history}
use Rattle.recording_shown.proofs.Showing.{shows_wave}
use Rattle.cmd_program.proofs.made.walked.Goals as goal

pub returns-clause-prepared : goal.returns-clause-prepared
returns-clause-prepared g c =
    made_found (make_values c.args.texts.words) c.args.texts.recording.items c.args.agreed.now.parts.netlist c.args.agreed.now.parts.recorded
    record { history = c.args.agreed.now.history; wave = c.in_ok-wave.wave; shown = shown_history c.in_ok-wave.wave }
    c.in_ok-answered.field-0
    record {
      fits = c.args.agreed.now.fits;
      replay = c.args.agreed.now.replay;
      repaired = c.in_ok-wave.ensures.repaired;
      shows = shows_wave c.in_ok-wave.wave;
    }
    c.in_ok-answered.ensures

pub returns-in_err-answered-clause-prepared : goal.returns-in_err-answered-clause-prepared
returns-in_err-answered-clause-prepared g c =
    let is : c.from_residual-in_err-answered.result ≡ Err Memory = search rules in
    rw is (memory_out (walk_made (make_values c.args.texts.words) c.args.texts.recording.items c.args.agreed.now.parts.netlist
    c.args.agreed.now.parts.recorded) answer_of)
