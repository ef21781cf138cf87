-- The bits so far are the world's, and what is left of the filling decides from here on.
use Rattle.std.proofs.Common.{◌≡◌}
use Rattle.design_circuit.specs.Filling.{bit_of}
use Rattle.design_circuit.specs.Waveform.{certain}
use Rattle.design_circuit.specs.World.{world}
use Rattle.wave_proved.specs.Contents.{job}
use Rattle.wave_world.specs.Left.{Decides, IsLeft}
use Rattle.wave_world.proofs.bits.bits_of.Given as goal

abbrev pub invariant-places : goal.invariant-places
invariant-places l = record {
  bits : l.bits.items ≡ world (job l.wave) (certain l.wave.written) (bit_of (job l.wave) l.filling) l.place;
  left : IsLeft (job l.wave) l.place l.left;
  decides : Decides (job l.wave) l.place l.left l.filling;
}
