-- All outputs are written before the first is put.
use Rattle.std.proofs.Common.{rules, ◌≡◌, Err, map}
use Rattle.base_run.specs.Outputs.{file_of}
use Rattle.base_run.proofs.Deliveries.{unwritten, written_put}
use Rattle.base_run.proofs.Files.{all_whole}
use Rattle.base_run.proofs.delivery.write_then_put.Goals as goal

pub put_outputs-requires-clause-written : goal.put_outputs-requires-clause-written
put_outputs-requires-clause-written g c =
    let step = c.in_ok-write_outputs.ensures in
    all_whole g.S.Shelf.told (map file_of c.args.outputs.now) (g.S.Shelf.view c.args.shelf.now).written (g.S.Shelf.view c.write_outputs.new.shelf).written step.ends.0

pub returns-in_err-write_outputs : goal.returns-in_err-write_outputs
returns-in_err-write_outputs g c =
    let e = c.in_err-write_outputs.field-0.0 in
    let is : c.from_residual.result ≡ Err e = search rules in
    rw is (unwritten g.S.Shelf.told (map file_of c.args.outputs.now) (g.S.Shelf.view c.args.shelf.now) (g.S.Shelf.view c.write_outputs.new.shelf) e c.in_err-write_outputs.ensures)

pub returns : goal.returns
returns g c =
    written_put g.S.Shelf.told (map file_of c.args.outputs.now) (g.S.Shelf.view c.args.shelf.now) (g.S.Shelf.view c.write_outputs.new.shelf) (g.S.Shelf.view c.put_outputs.new.shelf) c.put_outputs.result
    c.in_ok-write_outputs.ensures c.put_outputs.ensures
