-- The log of the verdict is a licence of the next place.
use Rattle.std.proofs.Common.{sym, subst}
use Rattle.law_model.specs.declared.line.Body.TheVariants.{Undecided}
use Rattle.wave_proved.specs.Token.{HoldsNext}
use Rattle.decide_cnf.proofs.NextAnswers.{licence_next}
use Rattle.decide_cnf.proofs.answers.give_up.Goals as goal

pub from_law-requires-clause-law : goal.from_law-requires-clause-law
from_law-requires-clause-law c =
    subst (λ log. HoldsNext c.args.wave.now (Undecided log)) (sym c.into_log.ensures.value)
    (licence_next c.args.wave.now c.args.cone.now.nodes c.args.proof c.requires.cone c.requires.fresh c.requires.many
    c.requires.long)
