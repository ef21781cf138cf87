-- Another finished wave over the same design has each bound bit.
use Rattle.std.proofs.Common.{◌*◌, ◌<◌, length}
use Rattle.recording_binding.specs.BoundBits.{IsBitOf}
use Rattle.recording_binding.specs.declared.bound_bits.BoundBit.{BoundBit}
use Rattle.wave_proved.specs.Contents.{Contents, IsWave}
use Rattle.report_bits.proofs.FinishedBits.{bit_there}
use Rattle.report_bits.specs.BoundPlaces.{HasBit}
use Rattle.report_fix.specs.Gained.{AreBeside}

pub bit_beside : (before after : Contents) → IsWave after → AreBeside before after → (bit : BoundBit)
    → IsBitOf before.design (length before.stim.times) bit → HasBit after bit
bit_beside before after wave are bit is =
    bit_there after wave are.finished_too bit (record { moment = rw are.moments is.moment; net = rw are.design is.net })
