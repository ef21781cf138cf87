-- The wave is found, and its texts.
use Rattle.cmd_program.specs.Export.{ExportComes}
use Rattle.cmd_program.proofs.Walk.{listed_found}
use Rattle.recording_shown.specs.History.{shown_history}
use Rattle.recording_shown.proofs.Showing.{shows_wave}
use Rattle.cmd_program.proofs.exported.exported.Goals as goal

pub returns-clause-prepared : goal.returns-clause-prepared
returns-clause-prepared g c =
    listed_found c.args.words.now.limits c.args.agreed.now.parts.netlist c.args.agreed.now.parts.recorded (ExportComes c.args.words.now.prefix.now)
    record { history = c.args.agreed.now.history; wave = c.in_ok-wave.wave; shown = shown_history c.in_ok-wave.wave }
    c.in_ok-export_texts.field-0
    record {
      fits = c.args.agreed.now.fits;
      replay = c.args.agreed.now.replay;
      repaired = c.in_ok-wave.ensures.repaired;
      shows = shows_wave c.in_ok-wave.wave;
    }
    c.in_ok-export_texts.ensures
