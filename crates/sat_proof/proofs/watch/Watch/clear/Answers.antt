-- Watches that are cleared are those of no clause.
use Rattle.std.proofs.Common.{refl, arith}
use Rattle.std.proofs.lemmas.Grind.{common_steps}
use Rattle.sat_proof.proofs.Stages.{chained_none}
use Rattle.sat_proof.proofs.watch.Watch.clear.Goals as goal

pub returns-clause-none : goal.returns-clause-none
returns-clause-none c = record {
  chained = chained_none _ (λ k. grind (arith, common_steps)) (λ k. grind (arith, common_steps)) refl;
  used = refl;
  pairs = λ n lt. absurd (omega arith);
}
