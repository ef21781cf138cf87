-- What helps to find the cones of a walk is right of its wave.
use Rattle.decide_cone.specs.Known.{IsRightOf as KnowsRight}
use Rattle.decide_cone.specs.declared.cones.Cones.{Cones}
use Rattle.decide_lanes.specs.Lanes.{IsRightOf}
use Rattle.wave_proved.specs.Contents.{Contents}

pub record AreRightOf (c : Contents) (cones : Cones) : Type 0 where
  pub tracer : KnowsRight c cones.tracer
  pub lanes : IsRightOf c cones.lanes
