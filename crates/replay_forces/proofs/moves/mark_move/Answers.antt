-- The position of the net and the readers of it are due.
use Rattle.design_circuit.specs.Circuit.{job_in}
use Rattle.replay_forces.proofs.Moving.{looked_marked, watched_marked}
use Rattle.replay_forces.proofs.moves.mark_move.Goals as goal

pub returns-clause-due : goal.returns-clause-due
returns-clause-due c =
    watched_marked (job_in c.args.circuit.now) c.args.circuit.now.fits.fits_job c.args.fans.now.cells c.args.position c.net-net.result c.args.waiting.now.due c.insert.new.self c.mark_readers.new.waiting.due c.requires.position c.requires.fans.cells c.requires.due c.insert.ensures.long c.mark_readers.ensures.due_long c.insert.ensures.here c.insert.ensures.others c.mark_readers.ensures.due c.net-net.ensures

pub returns-clause-ahead : goal.returns-clause-ahead
returns-clause-ahead c =
    looked_marked (job_in c.args.circuit.now) c.args.fans.now.registers c.args.position c.net-net.result c.args.waiting.now.ahead c.mark_readers.new.waiting.ahead c.requires.fans.registers c.requires.ahead c.mark_readers.ensures.ahead_long c.mark_readers.ensures.ahead c.net-net.ensures
