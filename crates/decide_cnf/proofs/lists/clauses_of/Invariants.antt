-- The clauses so far are the lists so far.
use Rattle.std.proofs.Common.{◌≡◌, map}
use Rattle.decide_cnf.proofs.lists.clauses_of.Given as goal

abbrev pub invariant-lists : goal.invariant-lists
invariant-lists l = l.clauses.items ≡ map (λ v. v.items) l.yielded
