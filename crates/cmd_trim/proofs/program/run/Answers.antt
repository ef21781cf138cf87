-- What a run comes to, from its row.
use Rattle.base_run.specs.Rows.{start_of}
use Rattle.cmd_trim.proofs.Runs.{all_comes, done_says, refuses_text}
use Rattle.cmd_trim.proofs.program.run.Goals as goal

pub returns : goal.returns
returns g c =
    let s = start_of c.args.words.now g.S.Shelf.told g.O.Sink.told (g.S.Shelf.view c.args.shelf.now) (g.O.Sink.view c.args.out.now) in
    let shelf = g.S.Shelf.view c.ended.new.shelf in
    let sink = g.O.Sink.view c.ended.new.out in
    let all = all_comes s shelf sink c.ended.result c.ended.ensures in
    record { comes = all; done = done_says s shelf sink c.ended.result all; refused = refuses_text s shelf sink c.ended.result all }
