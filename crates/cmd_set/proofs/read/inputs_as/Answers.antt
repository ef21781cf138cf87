-- The files of a line are those of what it names.
use Rattle.cmd_set.proofs.read.inputs_as.Goals as goal

pub returns-in-Some : goal.returns-in-Some
returns-in-Some g c =
    let line = rw c.in-Some.is at c.in_ok-command.ensures.set in
    record { values = g.C.Run.values c.in-Some.command; line = line; names = c.inputs.ensures.names; most = c.inputs.ensures.most }

pub returns-in-None : goal.returns-in-None
returns-in-None g c = rw c.in-None.is at c.in_ok-command.ensures.none
