-- What a run comes to, from its row.
use Rattle.base_run.specs.Rows.{start_of}
use Rattle.cmd_set.proofs.Runs.{all_comes, done_says, in_order_ends, refuses_texts}
use Rattle.cmd_phases.proofs.Statuses.{IsOfTexts, statuses}
use Rattle.cmd_program.specs.Commands.{command_of, reporting}
use Rattle.cmd_program.proofs.Lawful.{apart, lawful_of}
use Rattle.cmd_program.proofs.program.run.Goals as goal

pub returns : goal.returns
returns g c =
    let s = start_of c.args.words.now g.S.Shelf.told g.O.Sink.told (g.S.Shelf.view c.args.shelf.now) (g.O.Sink.view c.args.out.now) in
    let shelf = g.S.Shelf.view c.ended.new.shelf in
    let sink = g.O.Sink.view c.ended.new.out in
    let all = all_comes command_of reporting apart IsOfTexts statuses lawful_of s shelf sink c.ended.result c.ended.ensures in
    record {
      comes = all;
      done = done_says command_of reporting apart IsOfTexts statuses lawful_of s shelf sink c.ended.result all;
      refused = refuses_texts command_of reporting apart IsOfTexts statuses lawful_of s shelf sink c.ended.result all;
      complete = in_order_ends command_of reporting apart IsOfTexts statuses lawful_of s shelf sink c.ended.result all;
    }
