-- The log of the verdict refutes the query, and no clause of it has the literal 0.
use Rattle.std.proofs.Common.{sym, subst}
use Rattle.std.specs.List.{All}
use Rattle.sat_proof.specs.Assignment.{HasNoZero}
use Rattle.law_model.specs.declared.line.Body.TheVariants.{Refuted}
use Rattle.decide_nodes.specs.Nodes.{nothing, root_bit}
use Rattle.wave_proved.specs.Token.{HoldsNext}
use Rattle.decide_cnf.proofs.NextAnswers.{refuted_next}
use Rattle.decide_cnf.proofs.answers.conclude.Goals as goal

pub from_law-requires-clause-law : goal.from_law-requires-clause-law
from_law-requires-clause-law c =
    subst (λ bit. HoldsNext c.args.wave.now (Refuted bit c.into_log.result)) (sym c.base.ensures)
    (subst (λ log. HoldsNext c.args.wave.now (Refuted (root_bit nothing c.args.cone.now.nodes) log))
    (sym c.into_log.ensures.value)
    (refuted_next c.args.wave.now c.args.cone.now.nodes c.args.proof c.requires.cone c.requires.refutes
    (subst (All HasNoZero) c.into_log.ensures.value c.into_log.ensures.no_zero)))
