-- The bits of places and of their roots.
use Rattle.std.specs.Prelude.{◌≡◌, ℕ, List}
use Rattle.design_circuit.specs.declared.place.Place.{Place}
use Rattle.design_circuit.specs.Filling.{IsFilling}
use Rattle.design_circuit.specs.Waveform.{certain}
use Rattle.law_model.specs.Class.{flipped}
use Rattle.law_model.specs.Laws.{InReach, InSound, world_over}
use Rattle.law_model.specs.Root.{root_of}

-- In the world of every filling a place has the bit of its root, or its complement where the way to it inverts.
abbrev pub RootLaw : Type 0
RootLaw = InSound (λ j waveform. (place : ℕ) (filling : List Place) → InReach j waveform place → IsFilling j filling
    → world_over j waveform filling place ≡ flipped (root_of j (certain waveform) place).inverted
    (world_over j waveform filling (root_of j (certain waveform) place).place))
