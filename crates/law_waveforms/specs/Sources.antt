-- The laws of sources, which the functions of src/laws.rt ensure.
use Rattle.std.specs.Prelude.{◌≡◌, ℕ, ◌<◌, ◌==◌, ◌&&◌, ◌||◌, Bool, false, List}
use Rattle.std.specs.List.{list_any}
use Rattle.design_cell.specs.declared.value.Value.{Value}
use Rattle.design_circuit.specs.declared.waveform.Written.{Written}
use Rattle.design_circuit.specs.Filling.{IsFilling}
use Rattle.design_circuit.specs.Fits.{Fits}
use Rattle.design_circuit.specs.Job.{Job, places_of}
use Rattle.design_circuit.specs.Waveform.{certain}
use Rattle.design_circuit.specs.World.{world_bit}
use Rattle.law_model.specs.Class.{class_of}
use Rattle.law_model.specs.Cone.{essentials, reads_filling, is_carried, is_source, source_filling, sources}
use Rattle.law_model.specs.Laws.{InReach, InSound, world_over}
use Rattle.law_model.specs.Line.{IsOfSources}
use Rattle.law_model.specs.Root.{root_of}
use Rattle.law_model.specs.declared.class.ClassByNumber.TheVariants.{Carried}

-- The bit of a place where each place is given the bit that a function says.
abbrev pub bit_given : Job → List Written → (ℕ → Bool) → ℕ → Bool
bit_given j waveform given place = world_bit j (certain waveform) given place

-- Cut down to the sources of a place, what is given is a filling of them, in whose world the place has the same bit.
pub record IsCutDown (j : Job) (waveform : List Written) (given : ℕ → Bool) (place : ℕ) : Type 0 where
  pub filling : IsFilling j (source_filling j (certain waveform) place given)
  pub alone : IsOfSources j waveform place (source_filling j (certain waveform) place given)
  pub same : bit_given j waveform given place
      ≡ world_over j waveform (source_filling j (certain waveform) place given) place

abbrev pub CutLaw : Type 0
CutLaw = InSound (λ j waveform. (given : ℕ → Bool) (place : ℕ) → InReach j waveform place
    → IsCutDown j waveform given place)

-- A source of a place that isn't carried is a source of one of its essential arguments, or the place itself, which is
-- one where its rule gives x for some assignment.
abbrev pub UnionLaw : Type 0
UnionLaw = (j : Job) (certain : ℕ → Value) (place k : ℕ) → Fits j → place < places_of j
    → is_carried (class_of j certain place) ≡ false
    → is_source j certain place k
    ≡ ((place == k) && reads_filling j certain place) || list_any (λ argument. is_source j certain argument k)
    (essentials j certain place)

-- A carried place has the sources of the place that it is carried from,
abbrev pub CarriedLaw : Type 0
CarriedLaw = (j : Job) (certain : ℕ → Value) (place from : ℕ) (inverted : Bool) → Fits j → place < places_of j
    → class_of j certain place ≡ Carried from inverted → sources j certain place ≡ sources j certain from

-- and so those of its root.
abbrev pub RootLaw : Type 0
RootLaw = (j : Job) (certain : ℕ → Value) (place : ℕ) → Fits j → place < places_of j
    → sources j certain place ≡ sources j certain (root_of j certain place).place
