-- A command that is prepared is delivered, or refused.
use Rattle.std.proofs.Common.{sym}
use Rattle.base_run.specs.Ends.{reporting_of}
use Rattle.base_run.specs.Prepared.{answer_of}
use Rattle.base_run.specs.Rows.{start_with}
use Rattle.base_run.proofs.Runs.{delivered_row, refused_row}
use Rattle.base_run.proofs.command.run_command.Goals as goal

pub returns-in-Ok : goal.returns-in-Ok
returns-in-Ok g c = λ line.
    let ready = c.in-Ok.ensures.prepared in
    let reporting = reporting_of g.W.Cause.Cause.status_of g.W.Cause.Cause.text_of in
    let s = start_with line g.S.Shelf.told g.O.Sink.told (g.S.Shelf.view c.args.shelf.now) (g.O.Sink.view c.prepare.new.out) in
    rw (sym c.in-Ok.ensures.out) (delivered_row (g.W.Prepare.phases c.args.words.now) reporting s (answer_of c.in-Ok.ready) (g.S.Shelf.view c.prepare.new.shelf) (g.S.Shelf.view c.deliver_ready.new.shelf)
    (g.O.Sink.view c.deliver_ready.new.out) c.deliver_ready.result ready.comes ready.later ready.files ready.written ready.kept ready.closed c.deliver_ready.ensures)

pub returns-in-Err : goal.returns-in-Err
returns-in-Err g c = λ line.
    let ready = c.in-Err.ensures.prepared in
    let reporting = reporting_of g.W.Cause.Cause.status_of g.W.Cause.Cause.text_of in
    let s = start_with line g.S.Shelf.told g.O.Sink.told (g.S.Shelf.view c.args.shelf.now) (g.O.Sink.view c.prepare.new.out) in
    rw (sym c.in-Err.ensures.out) (refused_row (g.W.Prepare.phases c.args.words.now) reporting s (g.S.Shelf.view c.prepare.new.shelf) (g.O.Sink.view c.refuse.new.out) c.refuse.result
    c.in-Err.refusal ready.files ready.refused c.refuse.ensures)
