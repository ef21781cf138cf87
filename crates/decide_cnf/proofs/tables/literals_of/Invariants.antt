-- The literals that deny the bits of the arguments so far.
use Rattle.std.proofs.Common.{◌≡◌}
use Rattle.decide_cnf.specs.Clauses.{node_says}
use Rattle.decide_cnf.specs.Growth.{denied}
use Rattle.decide_cnf.proofs.tables.literals_of.Given as goal

abbrev pub invariant-arguments : goal.invariant-arguments
invariant-arguments l =
    l.wanted.items ≡ denied (node_says l.table.literals.now l.table.arguments.now l.table.position) l.choice l.argument
