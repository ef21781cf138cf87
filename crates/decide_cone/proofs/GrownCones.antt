-- What helps to find cones stays right of a wave that gets one place more.
use Rattle.std.proofs.Common.{◌≡◌, [], ◌∷◌, ◌++◌, refl}
use Rattle.design_circuit.specs.declared.waveform.Written.{Written}
use Rattle.decide_lanes.proofs.GrownLanes.{right_grows}
use Rattle.law_along.proofs.GoingWaves.{goes_wave}
use Rattle.wave_proved.specs.Advance.{GoesOn, more, plain_written, stays, with_written}
use Rattle.wave_proved.specs.Contents.{Contents, IsWave, job}
use Rattle.decide_cone.specs.Cones.{AreRightOf}
use Rattle.decide_cone.specs.declared.cones.Cones.{Cones}
use Rattle.decide_cone.proofs.KnownBodies.{known_grows}

pub cones_grow : (c d : Contents) (cones : Cones) (v : Written) → IsWave c → job d ≡ job c
    → d.written ≡ c.written ++ v ∷ [] → AreRightOf c cones → AreRightOf d cones
cones_grow c d cones v wave same grown right = record {
  tracer = known_grows c d cones.tracer v wave.fits.fits_job same grown right.tracer;
  lanes = right_grows c d cones.lanes v wave same grown right.lanes;
}

-- So it does of a wave that goes on.
pub cones_go : {a b : Contents} → GoesOn a b → (cones : Cones) → IsWave a → AreRightOf a cones → AreRightOf b cones
cones_go stays cones wave right = right
cones_go (more {c = c} goes plain agrees) cones wave right =
    cones_grow c (with_written c (plain_written c)) cones (plain_written c) (goes_wave goes wave) refl refl
    (cones_go goes cones wave right)
