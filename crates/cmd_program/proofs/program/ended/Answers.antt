-- A command of the set ran, or the words are outside of it.
use Rattle.std.proofs.Common.{rules, map, ◌≡◌, ◌∷◌}
use Rattle.std.specs.Prelude.{string_bytes}
use Rattle.base_run.specs.Rows.{start_of}
use Rattle.cmd_set.proofs.Runs.{of_set}
use Rattle.cmd_program.specs.Commands.{command_of, reporting, word_of}
use Rattle.cmd_program.proofs.Lawful.{apart}
use Rattle.cmd_program.proofs.program.ended.Goals as goal

pub returns-in-Some : goal.returns-in-Some
returns-in-Some g c =
    let words = map string_bytes c.args.words.now in
    let s = start_of c.args.words.now g.S.Shelf.told g.O.Sink.told (g.S.Shelf.view c.args.shelf.now) (g.O.Sink.view c.args.out.now) in
    let name = c.in-Some.name in
    let rest = map string_bytes c.in-Some.rest.now in
    let is : words ≡ word_of name ∷ rest = search rules in
    of_set command_of reporting apart s (g.S.Shelf.view c.run_named.new.shelf) (g.O.Sink.view c.run_named.new.out) c.run_named.result name rest is (c.run_named.ensures words)
