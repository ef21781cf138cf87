-- The fillings that are stated for a place: those of its root.
use Rattle.std.specs.Prelude.{ℕ, ◌==◌, Bool, true, false, Option, Some, None, List, [], ◌∷◌, if◌then◌else◌}
use Rattle.design_cell.specs.declared.value.Value.{Value}
use Rattle.design_circuit.specs.declared.place.Place.{Place}
use Rattle.design_circuit.specs.Job.{Job, number_of}
use Rattle.design_circuit.specs.Fits.{place_at}
pub use Rattle.design_circuit.specs.Waveform.{Stated}
use Rattle.law_model.specs.Class.{class_of}
use Rattle.law_model.specs.Root.{Root, root_of}
use Rattle.law_model.specs.declared.class.ClassByNumber.{ClassByNumber}
use Rattle.law_model.specs.declared.class.ClassByNumber.TheVariants.{Local, Free, Carried, Line}
use Rattle.law_model.specs.declared.line.Line.{Line as ALine}
use Rattle.law_model.specs.declared.line.Body.{Body}
use Rattle.law_model.specs.declared.line.Body.TheVariants.{Enumerated, Refuted, Pair, Undecided}

-- What the line of a place says, if there is one.
abbrev pub body_at : Job → List ALine → ℕ → Option Body
body_at j [] place = None
body_at j (line ∷ lines) place = if number_of j line.place == place then Some line.body else body_at j lines place

abbrev pub pair_of : List Place → List Place → Stated
pair_of first second = record { zero = first; one = second }

abbrev pub nothing_stated : Stated
nothing_stated = record { zero = []; one = [] }

abbrev pub stated_in : Option Body → Stated
stated_in None = nothing_stated
stated_in (Some (Enumerated bit)) = nothing_stated
stated_in (Some (Refuted bit log)) = nothing_stated
stated_in (Some (Pair first second)) = pair_of first second
stated_in (Some (Undecided log)) = nothing_stated

-- At a root: a free place has the empty filling and the one that lists it alone, a Line place those in its line.
abbrev pub stated_by : Job → ClassByNumber → Option Body → ℕ → Stated
stated_by j (Local bit) body place = nothing_stated
stated_by j Free body place = record { zero = []; one = place_at j place ∷ [] }
stated_by j (Carried from inverted) body place = nothing_stated
stated_by j Line body place = stated_in body

abbrev pub swapped : Bool → Stated → Stated
swapped false stated = stated
swapped true stated = record { zero = stated.one; one = stated.zero }

abbrev pub stated_of : Job → (ℕ → Value) → List ALine → Root → Stated
stated_of j certain lines root =
    swapped root.inverted (stated_by j (class_of j certain root.place) (body_at j lines root.place) root.place)

-- Those of a place are those of its root, swapped where the way to it inverts.
abbrev pub stated : Job → (ℕ → Value) → List ALine → ℕ → Stated
stated j certain lines place = stated_of j certain lines (root_of j certain place)
