-- What is told of a bit, as the lines are made. No contract of a public call names these.
use Rattle.std.specs.Prelude.{ℕ, ◌==◌, Bool, ◌&&◌, List, [], ◌∷◌, ◌++◌, bytes_eq, codes, decimal}
use Rattle.base_lists.specs.Text.{line}
use Rattle.design_cell.specs.Value.{letter_of}
use Rattle.design_circuit.specs.Design.{name_in}
use Rattle.design_circuit.specs.Name.{written_name}
use Rattle.design_circuit.specs.declared.design.Design.{Design}
use Rattle.design_circuit.specs.declared.place.Place.{Place}
use Rattle.report_bits.specs.Bits.{recorded_in, result_of}
use Rattle.report_bits.specs.declared.told.Told.{Told}
use Rattle.wave_proved.specs.Contents.{Contents, written_of}

-- What a wave and its history have at a place.
abbrev pub told_at : Contents → Place → Told
told_at c place = record { net = place.net; recorded = recorded_in c place; written = written_of c place }

-- What became of it.
abbrev pub told_result : Told → List ℕ
told_result told = result_of told.written.mark told.written.value

-- The line that tells it.
abbrev pub told_text : Design → ℕ → Told → List ℕ
told_text design time told =
    line (codes "#" ++ decimal time ++ codes " " ++ written_name (name_in design told.net) ++ codes " "
    ++ letter_of told.recorded ∷ [] ++ codes " " ++ told_result told)

-- The same is told twice.
abbrev pub is_same_told : Told → Told → Bool
is_same_told told other =
    letter_of told.recorded == letter_of other.recorded && bytes_eq (told_result told) (told_result other)
