-- The forces are those of what the wave shows.
use Rattle.cmd_program.specs.Make.{make_values}
use Rattle.cmd_program.proofs.TextsOf.{made_texts}
use Rattle.cmd_program.proofs.Walk.{forces_are}
use Rattle.cmd_program.proofs.made.answered.Goals as goal

pub returns : goal.returns
returns c = made_texts (make_values c.args.texts.words) c.args.texts.netlist.items c.args.texts.recording.items c.in_ok-head.head.items c.args.wave.now
    c.in_ok-forces.forces c.args.texts.netlist_is (forces_are c.args.wave.now c.in_ok-forces.forces c.in_ok-forces.ensures) c.in_ok-head.ensures
    c.ready_with.result c.ready_with.ensures
