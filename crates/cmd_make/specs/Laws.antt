-- The law of made recordings.
use Rattle.std.specs.Prelude.{◌≡◌, ℕ, List, length}
use Rattle.design_circuit.specs.Design.{FitsDesign}
use Rattle.design_circuit.specs.Job.{driver_in}
use Rattle.design_circuit.specs.Order.{IsOrder}
use Rattle.design_circuit.specs.declared.design.Design.{Design}
use Rattle.cmd_make.specs.Recording.{IsMadeRecording}

-- A design that fits has one made recording for a number and a number of gates.
abbrev pub RecordingsAreOne : Type 0
RecordingsAreOne = (design : Design) (order : List ℕ) (number gates : ℕ) (first second : List ℕ) → FitsDesign design
    → IsOrder (driver_in design) (length design.nets) order → IsMadeRecording design order number gates first
    → IsMadeRecording design order number gates second → first ≡ second
