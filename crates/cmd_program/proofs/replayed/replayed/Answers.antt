-- The replay is found, and its texts.
use Rattle.cmd_program.specs.Replay.{replay_values}
use Rattle.cmd_program.proofs.Walk.{replay_found}
use Rattle.cmd_program.proofs.replayed.replayed.Goals as goal

pub returns : goal.returns
returns c = replay_found (replay_values c.args.words.now) c.args.job.now.parts c.args.forces.now c.in_ok-history.history
    c.in_ok-texts_of.field-0 c.in_ok-history.ensures c.in_ok-texts_of.ensures
