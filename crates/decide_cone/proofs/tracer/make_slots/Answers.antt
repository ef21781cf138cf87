-- One slot more in which nothing stands tells nothing.
use Rattle.decide_cone.proofs.KnownBodies.{same_more}
use Rattle.decide_cone.proofs.tracer.make_slots.Goals as goal

pub slots-preserved : goal.slots-preserved
slots-preserved c =
    same_more c.args.slots.now.items c.slots.slots.items c.push.new.self.items c.slots.invariant
    c.in_ok-push.ensures.items
