-- Cones of places that are certainly 0.
use Rattle.std.proofs.Common.{◌≡◌, ℕ, List, refl}
use Rattle.design_cell.specs.declared.value.Value.TheVariants.{Zero}
use Rattle.design_circuit.specs.declared.place.Place.{Place}
use Rattle.design_circuit.specs.declared.waveform.Mark.TheVariants.{Certain}
use Rattle.design_circuit.specs.declared.waveform.Written.{Written}
use Rattle.design_circuit.specs.Job.{number_of}
use Rattle.design_circuit.specs.Waveform.{certain, written_at}
use Rattle.wave_proved.specs.Contents.{Contents, IsWritten, job, written_of}
use Rattle.decide_nodes.specs.declared.node.Node.{Node}
use Rattle.decide_nodes.specs.Traced.{IsWholeCone}
use Rattle.cert_condition.specs.First.{IsCertainCone}

certainly_zero : (waveform : List Written) (k : ℕ) → (written_at waveform k).mark ≡ Certain
    → (written_at waveform k).value ≡ Zero → certain waveform k ≡ Zero
unfolding certain
certainly_zero waveform k mark value = rw (mark, value) refl

pub zero_cone : (c : Contents) (place : Place) (nodes : List Node) → IsWritten c place
    → IsWholeCone c (number_of (job c) place) nodes → (written_of c place).mark ≡ Certain
    → (written_of c place).value ≡ Zero → IsCertainCone c nodes
zero_cone c place nodes written whole mark value = (
  number_of (job c) place,
  record {
    whole = whole;
    has = record {
      written = written.written;
      within = whole.reach.within;
      free = whole.free;
      has = rw (certainly_zero c.written (number_of (job c) place) mark value) refl;
    };
  },
)
