-- What is kept at the code.
use Rattle.std.proofs.Common.{sym, ap, ◌∙◌}
use Rattle.std.specs.Bool.{nat_eq}
use Rattle.std.specs.Map.{lookup}
use Rattle.decide_repair.specs.Kept.{KeptView}
use Rattle.decide_repair.proofs.RecalledAnswers.{recalled}
use Rattle.decide_repair.proofs.answers.Answers.recall.Goals as goal

pub returns-in-Some-clause-recalled : goal.returns-in-Some-clause-recalled
returns-in-Some-clause-recalled c =
    recalled c.args.self.now c.in-Some.answered.now c.args.query.now c.args.limit c.again.result
    (ap (λ code. lookup (nat_eq code) c.args.self.now.entries) (sym c.requires.code)
    ∙ (sym (ap (λ (k : KeptView). lookup (nat_eq c.args.code) k.entries) c.self.view_is) ∙ sym c.in-Some.ensures.value))
    c.again.ensures.again
