-- The next list has no 0.
use Rattle.std.proofs.Common.{length, rules, subst, sym}
use Rattle.std.proofs.lemmas.Iterator.Adapters.{YieldsList-from_vec}
use Rattle.std.proofs.lemmas.Iterator.Consumers.{YieldsList-turn}
use Rattle.sat_proof.specs.Assignment.{HasNoZero}
use Rattle.decide_cnf.proofs.OnceLists.{no_zero_at}
use Rattle.decide_cnf.proofs.lists.clauses_of.Goals as goal

pub from_vec-requires : goal.from_vec-requires
from_vec-requires c =
    let t = YieldsList-turn (YieldsList-from_vec {s = c.into_iter-list-iterator.result} c.args.lists.items
    (search rules) (search rules)) c.lists.yielded c.lists.list-iterator
    c.lists.yielded_by c.next.result c.next.new.self c.in-Some.list c.in-Some.is c.next.ensures.steps in
    subst HasNoZero (sym c.in_ok-literals.ensures.ok) (no_zero_at (λ v. v.items) c.args.lists.items (length c.lists.yielded) c.in-Some.list c.requires t.0 t.1)
