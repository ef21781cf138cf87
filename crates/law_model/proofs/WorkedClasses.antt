-- Classes worked by hand: the definitions compute to what stands in specs/WorkedClasses.
use Rattle.std.proofs.Common.{refl}
use Rattle.design_circuit.specs.Rule.{rule, arguments}
use Rattle.law_model.specs.Assignment.{for_every}
use Rattle.law_model.specs.WorkedClasses.{EachKind}

pub each_kind : EachKind
unfolding rule arguments for_every
each_kind = refl
