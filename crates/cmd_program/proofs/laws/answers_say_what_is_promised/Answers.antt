-- By the laws of the commands.
use Rattle.cmd_program.proofs.Lawful.{lawful_of}
use Rattle.cmd_program.proofs.laws.answers_say_what_is_promised.Goals as goal

pub returns : goal.returns
returns c = λ told files line words answer reports means comes. (lawful_of words.0).says told means.rest files words.1 answer reports means.line comes
