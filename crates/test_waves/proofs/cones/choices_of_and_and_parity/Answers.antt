use Rattle.std.proofs.Common.{refl, arith}
use Rattle.test_waves.proofs.cones.choices_of_and_and_parity.Goals as goal

pub minimal_choices-requires : goal.minimal_choices-requires
minimal_choices-requires g c = (2, record { few = omega arith; long = refl })

pub minimal_choices-requires-2 : goal.minimal_choices-requires-2
minimal_choices-requires-2 g c = (3, record { few = omega arith; long = refl })
