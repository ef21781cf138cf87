-- The clauses that force either bit are those of the table.
use Rattle.std.proofs.lemmas.Result.{on_ok_weaker}
use Rattle.decide_cnf.proofs.GrownLists.{table_grown}
use Rattle.decide_cnf.proofs.tables.add_table.Goals as goal

pub returns : goal.returns
returns c = on_ok_weaker c.add_bit-2.result (table_grown c.args.table.now.literals.now c.args.table.now.arguments.now
    c.args.table.now.values.now c.args.table.now.position c.args.lists.now c.add_bit.new.lists c.add_bit-2.new.lists
    c.in_ok-add_bit.ensures) c.add_bit-2.ensures
