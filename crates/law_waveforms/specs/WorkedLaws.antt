-- The words of these laws worked by hand on the multiplexer with both data 1 and an unknown select (places: d0, d1, s,
-- ns, a, b, y), and on one register.
use Rattle.std.specs.Prelude.{◌≡◌, true, List, [], ◌∷◌}
use Rattle.design_cell.specs.declared.value.Value.{Value}
use Rattle.design_cell.specs.declared.value.Value.TheVariants.{Zero, One, X, Z}
use Rattle.design_circuit.specs.Job.{Job}
use Rattle.design_circuit.specs.declared.design.Driver.TheVariants.{Register}
use Rattle.design_circuit.specs.declared.place.Place.{Place}
use Rattle.design_circuit.specs.declared.stim.Levels.TheVariants.{Change}
use Rattle.design_circuit.specs.declared.stim.StartRule.TheVariants.{Recorded}
use Rattle.design_circuit.specs.declared.waveform.Mark.TheVariants.{Certain, Unknown}
use Rattle.design_circuit.specs.declared.waveform.Written.{Written}
use Rattle.law_model.specs.Root.{root_of}
use Rattle.law_model.specs.WorkedMultiplexer.{certain_data, mux}
use Rattle.law_model.specs.declared.line.Body.TheVariants.{Enumerated}
use Rattle.law_model.specs.declared.line.Line.{Line as ALine}
use Rattle.law_waveforms.specs.Prefix.{lines_before}
use Rattle.law_waveforms.specs.Reshown.{reshown}
use Rattle.law_waveforms.specs.Starts.{set_filling}

-- b has the root s, and the way to it inverts
abbrev pub MuxRoot : Type 0
MuxRoot = root_of mux certain_data 5 ≡ record { place = 2; inverted = true }

-- y has the one line: it stands among those before place 7, and not among those before place 6
abbrev pub mux_lines : List ALine
mux_lines = record { place = record { step = 0; net = 6 }; body = Enumerated true } ∷ []

abbrev pub MuxLinesBefore : Type 0
MuxLinesBefore = lines_before mux 6 mux_lines ≡ []

abbrev pub MuxLinesOfAll : Type 0
MuxLinesOfAll = lines_before mux 7 mux_lines ≡ mux_lines

-- for a history that shows z everywhere the marks and the certain values stay
abbrev pub certain_one : Written
certain_one = record { value = One; mark = Certain }

abbrev pub unknown_at : Value → Written
unknown_at value = record { value = value; mark = Unknown }

abbrev pub mux_waveform : Value → List Written
mux_waveform value = certain_one ∷ certain_one ∷ unknown_at value ∷ unknown_at value ∷ unknown_at value
    ∷ unknown_at value ∷ certain_one ∷ []

abbrev pub MuxReshown : Type 0
MuxReshown = reshown (λ place. Z) (mux_waveform X) ≡ mux_waveform Z

-- One register that starts at x, over one step.
abbrev pub one_register : Job
one_register = record {
  width = 1;
  driver = λ net. Register (record { udp = 0; pins = []; clocks = 0; start = X });
  udps = [];
  order = 0 ∷ [];
  rounds = 1;
  moments = 1;
  recorded = λ moment net. X;
  start_rule = Recorded;
  levels = Change;
  start = λ net. X;
}

abbrev pub at_start : Place
at_start = record { step = 0; net = 0 }

-- its start set to 1 adds it to the empty filling, set to 0 takes it out of the one that lists it
abbrev pub SetToOne : Type 0
SetToOne = set_filling one_register (λ net. One) [] ≡ at_start ∷ []

abbrev pub SetToZero : Type 0
SetToZero = set_filling one_register (λ net. Zero) (at_start ∷ []) ≡ []
