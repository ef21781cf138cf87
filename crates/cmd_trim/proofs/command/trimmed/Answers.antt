-- With no stubs, the text as it is.
use Rattle.cmd_trim.specs.Words.{trim_values}
use Rattle.cmd_trim.proofs.Cutting.{no_names}
use Rattle.cmd_trim.proofs.Stubbing.{unstubbed}
use Rattle.cmd_trim.proofs.command.trimmed.Goals as goal

pub returns-in-None : goal.returns-in-None
returns-in-None c = unstubbed (trim_values c.args.words.now) c.args.text.now (no_names c.args.words.now.stubs c.in-None.is) c.kept.result c.kept.ensures
