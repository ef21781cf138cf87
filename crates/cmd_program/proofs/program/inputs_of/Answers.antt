-- The files of the command that the words begin with.
use Rattle.std.proofs.Common.{rules, map, ◌≡◌, ◌∷◌}
use Rattle.std.specs.Prelude.{string_bytes}
use Rattle.cmd_set.proofs.Runs.{inputs_read}
use Rattle.cmd_phases.proofs.Statuses.{IsOfTexts}
use Rattle.cmd_program.specs.Commands.{command_of, reporting, word_of}
use Rattle.cmd_program.proofs.Lawful.{apart, lawful_of}
use Rattle.cmd_program.proofs.program.inputs_of.Goals as goal

pub returns-in-Some : goal.returns-in-Some
returns-in-Some c =
    let words = map string_bytes c.args.words.now in
    let name = c.in-Some.name in
    let rest = map string_bytes c.in-Some.rest.now in
    let is : words ≡ word_of name ∷ rest = search rules in
    inputs_read command_of reporting apart IsOfTexts lawful_of words name rest is c.inputs_named.result c.inputs_named.ensures
