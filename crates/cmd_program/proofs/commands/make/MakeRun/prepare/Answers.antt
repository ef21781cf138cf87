-- No file is read.
use Rattle.cmd_program.proofs.commands.make.MakeRun.prepare.Goals as goal

pub returns-clause-prepared : goal.returns-clause-prepared
returns-clause-prepared g c = c.made.ensures.prepared g.S.Shelf.told (g.S.Shelf.view c.args._shelf.now)
