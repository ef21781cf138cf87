-- Which places an audit lists, which stay open, and where a wrong value has its origin. The wave is that of the blank
-- history, and the history beside it is the replay.
use Rattle.std.specs.Prelude.{ℕ, ◌-◌, ◌==◌, ◌&&◌, ◌||◌, Bool, false, not, Option, None, Some, List, [], ◌∷◌, ◌++◌, map}
use Rattle.std.specs.Prelude.{if◌then◌else◌}
use Rattle.std.specs.List.{list_any}
use Rattle.design_cell.specs.declared.value.Value.{Value}
use Rattle.design_cell.specs.Value.{is_unknown}
use Rattle.design_circuit.specs.declared.design.Driver.{Driver}
use Rattle.design_circuit.specs.declared.design.Driver.TheVariants.{Input, Undriven, Constant, Copy, Cell, Register}
use Rattle.design_circuit.specs.declared.design.Latching.{Latching}
use Rattle.design_circuit.specs.declared.design.Pin.{Pin}
use Rattle.design_circuit.specs.declared.place.Place.{Place}
use Rattle.design_circuit.specs.declared.waveform.Mark.{Mark}
use Rattle.design_circuit.specs.declared.waveform.Mark.TheVariants.{Certain, Unknown, Undecided}
use Rattle.design_circuit.specs.Handed.{IsBlank, IsReplay}
use Rattle.design_circuit.specs.History.{HistoryView, held_in}
use Rattle.design_circuit.specs.Job.{Job}
use Rattle.design_circuit.specs.Order.{net_pins}
use Rattle.design_circuit.specs.Register.{two_back}
use Rattle.law_model.specs.Cone.{are_alike}
use Rattle.wave_proved.specs.Contents.{Contents, IsFinished, job, written_of}

-- The replay knows a place that is certain with another value, or unknown.
abbrev pub lists : Mark → Value → Value → Bool
lists Certain value replayed = not (is_unknown replayed) && not (are_alike value replayed)
lists Unknown value replayed = not (is_unknown replayed)
lists Undecided value replayed = false

-- It knows a place that is undecided.
abbrev pub leaves_open : Mark → Value → Bool
leaves_open Certain replayed = false
leaves_open Unknown replayed = false
leaves_open Undecided replayed = not (is_unknown replayed)

abbrev pub replayed_at : HistoryView → Place → Value
replayed_at replay place = (held_in replay place).shown

abbrev pub is_listed : Contents → HistoryView → Place → Bool
is_listed c replay place = lists (written_of c place).mark (written_of c place).value (replayed_at replay place)

abbrev pub is_open : Contents → HistoryView → Place → Bool
is_open c replay place = leaves_open (written_of c place).mark (replayed_at replay place)

-- The places whose values the replay reads for a place: those of a copy's argument and of a cell's nets in its step;
-- those of a register's nets two steps back and one, and its own one step back, whatever its clock pins are.
abbrev pub place_in : ℕ → ℕ → Place
place_in step net = record { step = step; net = net }

abbrev pub places_in : ℕ → List Pin → List Place
places_in step pins = map (place_in step) (net_pins pins)

abbrev pub places_earlier : List Pin → Option ℕ → List Place
places_earlier pins None = []
places_earlier pins (Some step) = places_in step pins

abbrev pub earlier_places : Job → ℕ → List Pin → List Place
earlier_places j step pins = places_earlier pins (two_back j step)

abbrev pub register_reads : Job → Place → Latching → List Place
register_reads j place latching = if place.step == 0 then [] else
    earlier_places j place.step latching.pins
    ++ (places_in (place.step - 1) latching.pins ++ place_in (place.step - 1) place.net ∷ [])

abbrev pub replay_arguments_of : Job → Place → Driver → List Place
replay_arguments_of j place Input = []
replay_arguments_of j place Undriven = []
replay_arguments_of j place (Constant bit) = []
replay_arguments_of j place (Copy argument) = place_in place.step argument ∷ []
replay_arguments_of j place (Cell table pins) = places_in place.step pins
replay_arguments_of j place (Register latching) = register_reads j place latching

abbrev pub replay_arguments : Job → Place → List Place
replay_arguments j place = replay_arguments_of j place (j.driver place.net)

-- A listed place is an origin where none of these is listed or open.
abbrev pub is_suspect : Contents → HistoryView → Place → Bool
is_suspect c replay place = is_listed c replay place || is_open c replay place

abbrev pub is_origin : Contents → HistoryView → Place → Bool
is_origin c replay place =
    is_listed c replay place && not (list_any (is_suspect c replay) (replay_arguments (job c) place))

-- A finished wave of the blank history, and the replay beside it.
pub record IsAudit (c : Contents) (replay : HistoryView) : Type 0 where
  pub finished : IsFinished c
  pub blank : IsBlank (job c) c.history
  pub replayed : IsReplay (job c) replay
