-- The lists that stand once have no 0 where all lists have none.
use Rattle.std.proofs.Common.{map, subst, sym}
use Rattle.std.specs.List.{All}
use Rattle.sat_proof.specs.Assignment.{HasNoZero}
use Rattle.decide_cnf.proofs.OnceLists.{once_no_zero}
use Rattle.decide_cnf.proofs.lists.Lists.into_clauses.Goals as goal

pub clauses_of-requires : goal.clauses_of-requires
clauses_of-requires c = once_no_zero (map (λ v. v.items) c.self.inside.lists.items)
    (map (λ v. v.items) c.in_ok-lists.lists.items) c.in_ok-lists.ensures
    (subst (All HasNoZero) (sym c.self.view_is) c.requires)
