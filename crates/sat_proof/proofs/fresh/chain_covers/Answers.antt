-- One more entry of the chain, whose clause is not covered.
use Rattle.std.proofs.Common.{◌≡◌, ◌-◌, ◌∙◌, List, ℤ, subst, arith, slice_index_or}
use Rattle.std.proofs.lemmas.Bool.{iff_false}
use Rattle.std.proofs.lemmas.Grind.{get_or_default_zero}
use Rattle.sat_proof.specs.Premises.{all_in}
use Rattle.sat_proof.specs.Closed.{IsFalse}
use Rattle.sat_proof.specs.Code.{is_false}
use Rattle.sat_proof.specs.Log.{clause_at}
use Rattle.sat_proof.proofs.Chains.{passed_more}
use Rattle.sat_proof.proofs.fresh.chain_covers.Goals as goal

pub loop-at-preserved : goal.loop-at-preserved
loop-at-preserved c =
    let owner : c.index-owner.result.now ≡ slice_index_or c.args.index.now.owners.items (c.loop-at.at - 1) 0 =
    c.index-owner.ensures ∙ get_or_default_zero c.args.index.now.owners.items (c.loop-at.at - 1) c.index-owner.result.now (omega arith) in
    let next : c.index-at.result.now ≡ slice_index_or c.args.index.now.nexts.items (c.loop-at.at - 1) 0 =
    c.index-at.ensures ∙ get_or_default_zero c.args.index.now.nexts.items (c.loop-at.at - 1) c.index-at.result.now (omega arith) in
    record {
      high = omega (arith, next, c.requires.indexed.nexts (c.loop-at.at - 1) (omega arith));
      passed = passed_more c.args.index.now.nexts.items c.args.index.now.owners.items c.args.head c.loop-at.at c.index-owner.result.now c.index-at.result.now
          (λ n. IsFalse (is_false c.args.marks.now) (clause_at (all_in c.args.clauses.now) n) → ⊥) (omega arith) owner next c.loop-at.invariant.passed
          (subst (λ (d : List ℤ). IsFalse (is_false c.args.marks.now) d → ⊥) c.literals.ensures.value (λ bad. iff_false c.covers.ensures c.if-covers.false bad));
    }
