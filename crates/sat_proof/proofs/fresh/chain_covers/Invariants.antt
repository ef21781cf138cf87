-- The entries of the chain so far name no clause whose literals are all marked.
use Rattle.std.proofs.Common.{◌≤◌}
use Rattle.sat_proof.specs.Premises.{all_in}
use Rattle.sat_proof.specs.Fresh.{AreUncovered}
use Rattle.sat_proof.specs.Index.{Reaches}
use Rattle.sat_proof.proofs.fresh.chain_covers.Given as goal

abbrev pub invariant-loop-at : goal.invariant-loop-at
invariant-loop-at l = record {
  high : l.at ≤ l.index.used;
  passed : AreUncovered l.marks (all_in l.clauses) (λ n. Reaches l.index.nexts.items l.index.owners.items n l.head
      × (Reaches l.index.nexts.items l.index.owners.items n l.at → ⊥));
}

abbrev pub decreases-loop-at : goal.decreases-loop-at
decreases-loop-at l = l.at
