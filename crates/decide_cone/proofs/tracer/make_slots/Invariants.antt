-- Nothing stands in the slots that are made.
use Rattle.std.proofs.Common.{◌+◌, ◌-◌, vec_len}
use Rattle.decide_cone.specs.Known.{IsSameKnown}
use Rattle.decide_cone.proofs.tracer.make_slots.Given as goal

abbrev pub invariant-slots : goal.invariant-slots
invariant-slots l = IsSameKnown l.initial.slots.items l.slots.items

abbrev pub decreases-slots : goal.decreases-slots
decreases-slots l = l.slot + 1 - vec_len l.slots
