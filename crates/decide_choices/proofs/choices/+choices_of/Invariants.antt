use Rattle.decide_choices.proofs.choices.+choices_of.Given as goal

abbrev pub decreases-choices_of : goal.decreases-choices_of
decreases-choices_of l = l.count
