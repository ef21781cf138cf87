-- With supplies there are stubs.
use Rattle.cmd_trim.proofs.Cutting.{used_none, used_some}
use Rattle.cmd_trim.proofs.words.is_used.Goals as goal

pub returns-in-Some : goal.returns-in-Some
returns-in-Some c = used_some c.args.stubs c.args.supplies c.in-Some.field-0 c.is_some.result c.in-Some.is c.is_some.ensures

pub returns-in-None : goal.returns-in-None
returns-in-None c = used_none c.args.stubs c.args.supplies c.in-None.is
