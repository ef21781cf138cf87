-- What isn't under its name is given up.
use Rattle.std.proofs.Common.{map}
use Rattle.base_run.specs.Outputs.{file_of}
use Rattle.base_run.proofs.Deliveries.{discarded}
use Rattle.base_run.proofs.delivery.deliver_outputs.Goals as goal

pub returns-in-Err-clause-delivered : goal.returns-in-Err-clause-delivered
returns-in-Err-clause-delivered g c =
    discarded g.S.Shelf.told (map file_of c.args.outputs.now) (g.S.Shelf.view c.args.shelf.now) (g.S.Shelf.view c.write_then_put.new.shelf) (g.S.Shelf.view c.discard.new.self) c.in-Err.undelivered
    c.in-Err.ensures c.discard.ensures
