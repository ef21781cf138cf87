-- The command of the line ran.
use Rattle.base_run.specs.Ends.{RanWords}
use Rattle.cmd_trim.specs.Words.{trim_values}
use Rattle.cmd_trim.proofs.program.run_words.Goals as goal

pub returns : goal.returns
returns g c = λ line means. RanWords.ends_within (trim_values c.args.words) means (c.run_command.ensures line)
