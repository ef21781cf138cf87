-- By the laws of the commands.
use Rattle.cmd_set.proofs.Runs.{one_meaning}
use Rattle.cmd_phases.proofs.Statuses.{IsOfTexts}
use Rattle.cmd_program.specs.Commands.{command_of, reporting}
use Rattle.cmd_program.proofs.Lawful.{apart, lawful_of}
use Rattle.cmd_program.proofs.laws.words_mean_one.Goals as goal

pub returns : goal.returns
returns c = λ words v means other again. one_meaning command_of reporting apart IsOfTexts lawful_of words v other means again
