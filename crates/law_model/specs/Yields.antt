-- When a list of lines yields a waveform for a history. `shown` is what the history that was handed in shows at each
-- place.
use Rattle.std.specs.Prelude.{◌≡◌, ℕ, ◌<◌, ◌≤◌, Bool, true, false, Option, Some, None, List, map, length}
use Rattle.design_cell.specs.declared.value.Value.{Value}
use Rattle.design_cell.specs.declared.value.Value.TheVariants.{Zero, One, X, Z}
use Rattle.design_cell.specs.Value.{bit_value}
use Rattle.design_circuit.specs.declared.place.Place.{Place}
use Rattle.design_circuit.specs.declared.waveform.Written.{Written}
use Rattle.design_circuit.specs.declared.waveform.Mark.{Mark}
use Rattle.design_circuit.specs.declared.waveform.Mark.TheVariants.{Certain, Unknown, Undecided}
use Rattle.design_circuit.specs.Job.{Job, places_of}
use Rattle.design_circuit.specs.Fits.{place_at}
use Rattle.design_circuit.specs.Waveform.{written_at, certain}
use Rattle.law_model.specs.Places.{places_where}
use Rattle.law_model.specs.Class.{class_of, flipped}
use Rattle.law_model.specs.Line.{BodyHolds}
use Rattle.law_model.specs.Stated.{body_at}
use Rattle.law_model.specs.declared.class.ClassByNumber.{ClassByNumber}
use Rattle.law_model.specs.declared.class.ClassByNumber.TheVariants.{Local, Free, Carried, Line}
use Rattle.law_model.specs.declared.line.Line.{Line as ALine}
use Rattle.law_model.specs.declared.line.Body.{Body}
use Rattle.law_model.specs.declared.line.Body.TheVariants.{Enumerated, Refuted, Pair, Undecided as Budget}
use Rattle.law_model.specs.declared.limits.Limits.{Limits}

abbrev pub is_line : ClassByNumber → Bool
is_line (Local bit) = false
is_line Free = false
is_line (Carried from inverted) = false
is_line Line = true

-- The Line places among the first n, in place order.
abbrev pub line_places : Job → (ℕ → Value) → ℕ → List ℕ
line_places j certain = places_where (λ place. is_line (class_of j certain place))

abbrev pub certain_bit : Bool → Written
certain_bit bit = record { value = bit_value bit; mark = Certain }

-- An uncertain place shows what the history shows.
abbrev pub uncertain : Mark → Value → Written
uncertain mark shown = record { value = shown; mark = mark }

abbrev pub flipped_value : Bool → Value → Value
flipped_value inverted Zero = bit_value (flipped inverted false)
flipped_value inverted One = bit_value (flipped inverted true)
flipped_value inverted X = X
flipped_value inverted Z = Z

-- A carried place has the mark of the place that it is carried from, and a certain one its value, inverted where the
-- class says so.
abbrev pub carried_of : Bool → Mark → Value → Value → Written
carried_of inverted Certain value shown = record { value = flipped_value inverted value; mark = Certain }
carried_of inverted Unknown value shown = uncertain Unknown shown
carried_of inverted Undecided value shown = uncertain Undecided shown

-- A Line place has what its line says.
abbrev pub line_of : Option Body → Value → Written
line_of None shown = uncertain Undecided shown
line_of (Some (Enumerated bit)) shown = certain_bit bit
line_of (Some (Refuted bit log)) shown = certain_bit bit
line_of (Some (Pair first second)) shown = uncertain Unknown shown
line_of (Some (Budget log)) shown = uncertain Undecided shown

-- What stands at a place, from its class, its line, the places before it and what the history shows.
abbrev pub written_by : (ℕ → Written) → ClassByNumber → Option Body → Value → Written
written_by earlier (Local bit) body shown = certain_bit bit
written_by earlier Free body shown = uncertain Unknown shown
written_by earlier (Carried from inverted) body shown =
    carried_of inverted (earlier from).mark (earlier from).value shown
written_by earlier Line body shown = line_of body shown

-- The same of a place of a waveform, whose lines are given.
abbrev pub written_in : Job → (ℕ → Value) → List Written → List ALine → ℕ → Written
written_in j shown waveform lines place =
    written_by (written_at waveform) (class_of j (certain waveform) place) (body_at j lines place) (shown place)

-- The places of lines.
abbrev pub places_of_lines : List ALine → List Place
places_of_lines lines = map (λ (line : ALine). line.place) lines

-- A list of lines yields a waveform where it has one line for each Line place, in place order, and none other, each
-- body holds, and each place is written as its class and its line say.
pub record Yields (j : Job) (limits : Limits) (shown : ℕ → Value) (waveform : List Written)
    (lines : List ALine) : Type 0 where
  pub within : length waveform ≤ places_of j
  pub places : places_of_lines lines ≡ map (place_at j) (line_places j (certain waveform) (length waveform))
  pub bodies : (place : ℕ) (body : Body) → place < length waveform → body_at j lines place ≡ Some body
      → BodyHolds j limits waveform place body
  pub written : (place : ℕ) → place < length waveform
      → written_at waveform place ≡ written_in j shown waveform lines place
