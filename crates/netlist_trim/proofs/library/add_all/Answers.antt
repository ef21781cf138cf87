-- One definition more.
use Rattle.netlist_trim.proofs.Numbering.{finds_more_at}
use Rattle.netlist_trim.proofs.library.add_all.Goals as goal

pub definitions-preserved : goal.definitions-preserved
definitions-preserved c =
    finds_more_at c.args.definitions.now c.definitions.number c.index-definitions-number.result c.definitions.numbers c.add.new.self c.name.result.now c.definitions-test.true c.index-definitions-number.is c.name.ensures
    c.in_ok-add.ensures c.definitions.invariant
