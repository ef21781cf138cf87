-- The lines of refusals, without their newline, and the exit statuses.
use Rattle.std.specs.Prelude.{ℕ, List, [], ◌∷◌, ◌++◌, Option, Some, None, codes, decimal}
use Rattle.design_cell.specs.Value.{letter_of}
use Rattle.design_cell.specs.declared.value.Value.{Value}
use Rattle.netlist_grammar.specs.Fault.{fault_at as grammar_at, fault_words as grammar_words}
use Rattle.elab_nets.specs.Fault.{fault_at, fault_name, fault_words}
use Rattle.elab_nets.specs.declared.fault.ElabFault.{ElabFault}
use Rattle.recording_reader.specs.RecordingFault.{place_of, text_of}
use Rattle.cmd_job.specs.declared.netlist_refusal.NetlistRefusal.{NetlistRefusal}
use Rattle.cmd_job.specs.declared.netlist_refusal.NetlistRefusal.TheVariants as netlist
use Rattle.cmd_job.specs.declared.recording_refusal.RecordingRefusal.{RecordingRefusal}
use Rattle.cmd_job.specs.declared.recording_refusal.RecordingRefusal.TheVariants as recording
use Rattle.cmd_job.specs.declared.compare_refusal.CompareRefusal.{CompareRefusal}
use Rattle.cmd_job.specs.declared.compare_refusal.CompareRefusal.TheVariants as compare

-- a byte and what is wrong there
abbrev pub fault_text : ℕ → List ℕ → List ℕ
fault_text at words = decimal at ++ (codes ": " ++ words)

-- what is wrong, and a name
abbrev pub named_text : List ℕ → List ℕ → List ℕ
named_text words name = words ++ (codes " " ++ name)

abbrev pub spaced : List (List ℕ) → List ℕ
spaced [] = []
spaced (name ∷ names) = codes " " ++ (name ++ spaced names)

abbrev pub or_none : Option (List ℕ) → List ℕ
or_none None = []
or_none (Some name) = name

-- `refused: netlist at AT: WORD`, or `refused: netlist: WORD NAME`
abbrev pub design_text : Option ℕ → Option (List ℕ) → List ℕ → List ℕ
design_text (Some at) name words = codes "refused: netlist at " ++ fault_text at words
design_text None name words = codes "refused: netlist: " ++ named_text words (or_none name)

abbrev pub design_line : ElabFault → List ℕ
design_line fault = design_text (fault_at fault) (fault_name fault) (fault_words fault)

-- `refused: loop`, and the names
abbrev pub loop_line : List (List ℕ) → List ℕ
loop_line names = codes "refused: loop" ++ spaced names

abbrev pub netlist_line : NetlistRefusal → List ℕ
netlist_line (netlist.Grammar fault) =
    codes "refused: netlist at " ++ fault_text (grammar_at fault) (grammar_words fault)
netlist_line (netlist.Design fault) = design_line fault
netlist_line (netlist.Loop names) = loop_line names

-- `refused: recording: WORD NAME`
abbrev pub unbound_line : List ℕ → List ℕ → List ℕ
unbound_line words name = codes "refused: recording: " ++ named_text words name

-- `refused: too large places N`
abbrev pub places_line : ℕ → List ℕ
places_line places = codes "refused: too large places " ++ decimal places

abbrev pub recording_line : RecordingRefusal → List ℕ
recording_line (recording.Grammar fault) = codes "refused: recording at " ++ fault_text (place_of fault) (text_of fault)
recording_line (recording.NoScope name) = unbound_line (codes "no scope") name
recording_line (recording.RangeDiffers name) = unbound_line (codes "range differs") name
recording_line (recording.MissingInput name) = unbound_line (codes "missing input") name
recording_line (recording.TooLarge places) = places_line places

abbrev pub spot_text : ℕ → List ℕ → List ℕ
spot_text time name = decimal time ++ (codes " " ++ name)

abbrev pub value_text : List ℕ → Value → List ℕ
value_text word value = word ++ letter_of value ∷ []

-- `refused: disagrees #T NAME recorded V replayed V`
abbrev pub disagrees_line : ℕ → List ℕ → Value → Value → List ℕ
disagrees_line time name recorded replayed =
    codes "refused: disagrees #" ++ (spot_text time name
    ++ (value_text (codes " recorded ") recorded ++ value_text (codes " replayed ") replayed))

-- `refused: unsettled #T NAME kept V next V`
abbrev pub unsettled_line : ℕ → List ℕ → Value → Value → List ℕ
unsettled_line time name kept next =
    codes "refused: unsettled #" ++ (spot_text time name
    ++ (value_text (codes " kept ") kept ++ value_text (codes " next ") next))

abbrev pub compare_line : CompareRefusal → List ℕ
compare_line (compare.Disagrees time name recorded replayed) = disagrees_line time name recorded replayed
compare_line (compare.Unsettled time name kept next) = unsettled_line time name kept next

abbrev pub netlist_status : NetlistRefusal → ℕ
netlist_status (netlist.Grammar fault) = 5
netlist_status (netlist.Design fault) = 5
netlist_status (netlist.Loop names) = 6

abbrev pub recording_status : RecordingRefusal → ℕ
recording_status (recording.Grammar fault) = 7
recording_status (recording.NoScope name) = 7
recording_status (recording.RangeDiffers name) = 7
recording_status (recording.MissingInput name) = 7
recording_status (recording.TooLarge places) = 11

abbrev pub compare_status : CompareRefusal → ℕ
compare_status (compare.Disagrees time name recorded replayed) = 8
compare_status (compare.Unsettled time name kept next) = 9
