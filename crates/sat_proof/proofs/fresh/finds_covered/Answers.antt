-- The chain of a literal has each clause that holds it.
use Rattle.std.proofs.Common.{subst}
use Rattle.sat_proof.specs.Premises.{all_in}
use Rattle.sat_proof.specs.Fresh.{AreUncovered}
use Rattle.sat_proof.specs.Index.{Reaches}
use Rattle.sat_proof.proofs.News.{chain_unmatched}
use Rattle.sat_proof.proofs.fresh.finds_covered.Goals as goal

pub returns-then-index-clause-no : goal.returns-then-index-clause-no
returns-then-index-clause-no c e = chain_unmatched c.args.marks.now c.args.index.now (all_in c.args.clauses.now) c.args.literals.now c.rarest-k.result
    (c.requires.served c.if-index.true) c.rarest-k.ensures
    (subst (λ head. AreUncovered c.args.marks.now (all_in c.args.clauses.now) (λ n. Reaches c.args.index.now.nexts.items c.args.index.now.owners.items n head))
    c.head_at-head.ensures (c.chain_covers.ensures.no e))
