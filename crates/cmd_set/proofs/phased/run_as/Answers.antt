-- The command ran on its words.
use Rattle.cmd_set.specs.Set.{RanAs}
use Rattle.cmd_set.proofs.phased.run_as.Goals as goal

pub returns-in-Ok-Some : goal.returns-in-Ok-Some
returns-in-Ok-Some g c = λ line.
    let means = rw c.in-Ok-Some.field-0-is at c.in-Ok-Some.ensures.set in
    RanAs.ends_within (g.C.Run.values c.in-Ok-Some.command) means (c.run_command.ensures line)
