-- The literals so far.
use Rattle.std.proofs.Common.{◌≡◌, take}
use Rattle.std.specs.List.{fold}
use Rattle.decide_repair.specs.Kept.{mixed, with_literal}
use Rattle.decide_repair.proofs.copies.with_clause.Given as goal

abbrev pub invariant-literals : goal.invariant-literals
invariant-literals l = l.code ≡ fold with_literal (mixed l.before 0) (take l.literal-index l.literals)
