-- One more place is looked at.
use Rattle.std.proofs.Common.{take, sym, subst}
use Rattle.std.proofs.lemmas.List.{take_more}
use Rattle.wave_class.specs.Arguments.{IsLeastFrom}
use Rattle.wave_class.proofs.arguments.least_from.Goals as goal

pub places-preserved : goal.places-preserved
places-preserved c =
    subst (λ xs. IsLeastFrom xs c.args.bound c.lesser-least.result)
    (sym (take_more c.args.places.now c.places.place-index 0 c.places-test.true))
    (c.lesser-least.ensures (take c.places.place-index c.args.places.now) c.places.invariant)
