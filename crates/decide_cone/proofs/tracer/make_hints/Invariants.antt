-- There is one hint more.
use Rattle.std.proofs.Common.{◌+◌, ◌-◌, vec_len}
use Rattle.decide_cone.proofs.tracer.make_hints.Given as goal

abbrev pub invariant-slots : goal.invariant-slots
invariant-slots l = Unit {0}

abbrev pub decreases-slots : goal.decreases-slots
decreases-slots l = l.slot + 1 - vec_len l.hints
