-- All turns of the condition of the cone.
use Rattle.std.proofs.Common.{◌<◌, ◌∙◌, subst, sym}
use Rattle.std.proofs.lemmas.Result.{IfOk-weaker}
use Rattle.cert_condition.specs.First.{IsConditionOfCone}
use Rattle.cert_condition.specs.View.{IsFinishedFrom}
use Rattle.cert_condition.proofs.made.condition_of.Goals as goal

pub finish-requires-clause-limit : goal.finish-requires-clause-limit
finish-requires-clause-limit c = c.requires.limit ∙ sym c.in_ok-condition.ensures.limit

pub finish-requires-clause-some : goal.finish-requires-clause-some
finish-requires-clause-some c = subst (λ n. 0 < n) (sym c.requires.limit) c.recall.ensures.limited.some

pub returns-clause-condition : goal.returns-clause-condition
returns-clause-condition c = IfOk-weaker c.finish.result (IsFinishedFrom c.in_ok-condition.condition)
    (IsConditionOfCone c.args.wave.now c.args.cone.nodes)
    (λ condition all root of. all.is c.args.wave.now root (c.in_ok-condition.ensures.condition root of)) c.finish.ensures
