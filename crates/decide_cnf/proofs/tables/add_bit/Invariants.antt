-- The lists have grown by the clauses of the choices so far.
use Rattle.std.proofs.Common.{take}
use Rattle.decide_cnf.specs.Growth.{IsGrown, IsSomeClause}
use Rattle.decide_cnf.proofs.tables.add_bit.Given as goal

abbrev pub invariant-choices : goal.invariant-choices
invariant-choices l = IsGrown (IsSomeClause l.table.literals.now l.table.arguments.now l.table.position l.bit
    (take l.choice-index l.choice-items)) l.initial.lists l.lists
