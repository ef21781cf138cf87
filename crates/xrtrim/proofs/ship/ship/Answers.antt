-- What status 0 says of the calls that were noted.
use Rattle.std.proofs.Common.{map, string_bytes, subst}
use Rattle.base_files.proofs.Shipped.{shipped, started}
use Rattle.base_files.specs.Seen.{shelf_seen}
use Rattle.base_files.specs.Sink.{sink_seen}
use Rattle.base_run.specs.Ends.{Comes}
use Rattle.base_run.specs.Rows.{Start}
use Rattle.cmd_trim.specs.Commands.{commands}
use Rattle.xrtrim.proofs.Laws.{kept}
use Rattle.xrtrim.specs.Reads.{read_by}
use Rattle.xrtrim.proofs.ship.ship.Goals as goal

pub returns-clause-shipped : goal.returns-clause-shipped
returns-clause-shipped g c = λ zero.
    let line = map string_bytes c.args.words.now in
    let fetched = c.args.fetched.now in
    let before = sink_seen c.args.out.now.faults c.args.out.now.took in
    let left = c.run-status.new.shelf in
    let after = sink_seen c.run-status.new.out.faults c.run-status.new.out.took in
    let new = c.new-shelf.ensures in
    let begun = started line fetched before _ c.new-shelf.result.fetched.now _ _ new.stage new.fetched new.reads new.writes in
    let comes = subst (λ (s : Start). Comes commands s (shelf_seen left.stage left.fetched.now.texts left.read_faults left.write_faults) after c.run-status.result) begun c.run-status.ensures.comes in
    shipped commands read_by kept line fetched before left.stage left.fetched.now.texts left.read_faults left.write_faults after c.requires c.run-status.result comes zero
