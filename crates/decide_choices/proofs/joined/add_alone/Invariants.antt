use Rattle.std.proofs.Common.{take}
use Rattle.decide_choices.specs.Halves.{AreAdded}
use Rattle.decide_choices.proofs.joined.add_alone.Given as goal

abbrev pub invariant-found : goal.invariant-found
invariant-found l = AreAdded l.other l.count l.bit l.last l.initial.choices.items
    (take l.choice-index l.found) l.choices.items
