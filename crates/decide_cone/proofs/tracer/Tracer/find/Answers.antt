-- What is found is right.
use Rattle.std.proofs.Common.{subst, sym}
use Rattle.decide_cone.specs.Known.{IsRightOf}
use Rattle.decide_cone.proofs.KnownBodies.{right_with}
use Rattle.decide_cone.proofs.tracer.Tracer.find.Goals as goal

pub returns-in_ok-keep-in-None-clause-right : goal.returns-in_ok-keep-in-None-clause-right
returns-in_ok-keep-in-None-clause-right c =
    right_with c.args.wave.now (record { slots = c.self.inside.slots.items }) c.keep.new.self c.args.place
    c.in_ok-body-in-None.body (subst (IsRightOf c.args.wave.now) (sym c.self.view_is) c.requires.right)
    (record { reach = c.requires.reach; is = c.in_ok-body-in-None.ensures }) c.in_ok-keep-in-None.ensures
