use Rattle.decide_choices.proofs.halves.+forces.Given as goal

abbrev pub decreases-forces : goal.decreases-forces
decreases-forces l = l.count
