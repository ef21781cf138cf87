-- A name more.
use Rattle.netlist_trim.proofs.Growing.{grows_more_at}
use Rattle.netlist_trim.proofs.needed.add_names.Goals as goal

pub names-preserved : goal.names-preserved
names-preserved c =
    grows_more_at c.args.library.now c.args.names.now c.names.name-index _ c.args.numbers.now c.names.numbers c.add_name.new.numbers c.names-test.true c.in_ok-add_name.ensures c.names.invariant
