-- Where the value is x, the lanes with its number have the filling's bits.
use Rattle.std.proofs.Common.{◌∙◌, refl}
use Rattle.decide_nodes.proofs.evaluate.part_lanes.Goals as goal

pub returns-in-X : goal.returns-in-X
returns-in-X c = λ lane less. c.and.ensures lane less ∙ rw (c.lanes_at-in-X.ensures lane less, c.in-X.is) refl

pub returns-in-Z : goal.returns-in-Z
returns-in-Z c = λ lane less. c.and-in-Z.ensures lane less ∙ rw (c.lanes_at-in-Z.ensures lane less, c.in-Z.is) refl
