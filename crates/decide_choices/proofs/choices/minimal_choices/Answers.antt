use Rattle.std.proofs.Common.{sym, ◌∙◌, subst}
use Rattle.decide_choices.specs.Choices.{AreChoices}
use Rattle.decide_choices.proofs.EmptyTables.{one_count}
use Rattle.decide_choices.proofs.choices.minimal_choices.Goals as goal

pub returns : goal.returns
returns c = λ count long. subst (λ n. AreChoices c.args.values.now n c.args.bit c.in_ok-list.list.items)
    (one_count c.count_of.result count (sym c.count_of.ensures.long ∙ long))
    (subst (AreChoices c.args.values.now c.count_of.result c.args.bit) (sym c.in_ok-list.ensures.ok)
    c.in_ok-choices.ensures)
