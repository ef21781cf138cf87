-- A net has its driver, where there is one.
use Rattle.elab_nets.proofs.BoardLemmas.{driver_given, board_given, none_given}
use Rattle.elab_nets.proofs.nets.set_driver.Goals as goal

pub returns-then-place-nets-clause-given : goal.returns-then-place-nets-clause-given
returns-then-place-nets-clause-given c = driver_given c.args.nets.now c.args.driven.now c.args.place c.args.driver c.requires.board c.index-nets-place.result

pub returns-then-place-nets-clause-board : goal.returns-then-place-nets-clause-board
returns-then-place-nets-clause-board c = board_given c.args.nets.now c.args.driven.now c.args.place c.args.driver c.requires.board _

pub returns-else-place-nets-clause-given : goal.returns-else-place-nets-clause-given
returns-else-place-nets-clause-given c = none_given c.args.nets.now c.args.driven.now c.args.place c.args.driver c.requires.board c.if-place-nets.false
