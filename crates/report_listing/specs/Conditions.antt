-- What is printed of conditions: the certain places that the values of places need.
use Rattle.std.specs.Prelude.{ℕ, List, [], ◌∷◌, ◌++◌, codes, decimal, if◌then◌else◌, length, nat_lt}
use Rattle.std.specs.List.{flat_map}
use Rattle.design_cell.specs.Value.{letter_of}
use Rattle.cert_condition.specs.View.{ConditionView, IsConditionOf}
use Rattle.design_circuit.specs.Job.{number_of}
use Rattle.design_circuit.specs.Waveform.{certain}
use Rattle.design_circuit.specs.declared.place.Place.{Place}
use Rattle.base_lists.specs.Text.{line}
use Rattle.wave_proved.specs.Contents.{Contents, job}
use Rattle.report_listing.specs.Places.{timed_text}

-- It is that of some place of a wave.
abbrev pub IsSomeCondition : Contents → ConditionView → Type 0
IsSomeCondition c view = (root : ℕ) × IsConditionOf c root view

-- `#T round J NAME V`, with the certain value of the place
unfoldable pub valued_text : Contents → Place → List ℕ
valued_text c place =
    timed_text c place ++ codes " " ++ letter_of (certain c.written (number_of (job c) place)) ∷ []

abbrev pub next_text : Contents → Place → List ℕ
next_text c place = codes " ; " ++ valued_text c place

-- `none`, or places with ` ; ` between them
abbrev pub places_text : Contents → List Place → List ℕ
places_text c [] = codes "none"
places_text c (place ∷ places) = valued_text c place ++ flat_map (next_text c) places

-- `all K` of a boundary of more than 64 certain places, K of them; else those that the value needs
unfoldable pub needs_text : Contents → ℕ → List Place → List ℕ
needs_text c count places = if nat_lt 64 count then codes "all " ++ decimal count else places_text c places

-- `condition #T round J NAME V needs LIST`
abbrev pub condition_line : Contents → ConditionView → List ℕ
condition_line c view =
    line (codes "condition " ++ valued_text c view.place ++ codes " needs "
    ++ needs_text c (length view.boundary) view.listed)

abbrev pub conditions_text : Contents → List ConditionView → List ℕ
conditions_text c views = flat_map (condition_line c) views
