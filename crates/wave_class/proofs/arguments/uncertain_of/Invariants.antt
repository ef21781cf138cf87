-- The places so far are looked at.
use Rattle.std.proofs.Common.{◌≡◌, filter, take}
use Rattle.design_cell.specs.Value.{is_unknown}
use Rattle.wave_class.proofs.arguments.uncertain_of.Given as goal

abbrev pub invariant-places : goal.invariant-places
invariant-places g l = l.uncertain ≡ filter (λ k. is_unknown (g.C.Source.reads l.certain k))
    (take l.place-index l.places)
