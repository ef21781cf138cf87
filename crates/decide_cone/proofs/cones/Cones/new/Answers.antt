-- A new tracer and new lanes are right of every wave.
use Rattle.decide_cone.proofs.cones.Cones.new.Goals as goal

pub returns : goal.returns
returns c = λ d. record { tracer = c.new.ensures.right d; lanes = c.in_ok-new.ensures d }
