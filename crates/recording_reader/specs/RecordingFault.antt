-- A recording's fault: its place, its words, and which refusal is one.
use Rattle.std.specs.Prelude.{ℕ, List, Option, Some, None, codes}
use Rattle.recording_reader.specs.declared.fault.RecordingFault.{RecordingFault}
use Rattle.recording_reader.specs.declared.fault.RecordingFault.TheVariants as fault
use Rattle.recording_reader.specs.declared.refusal.VcdErr.{VcdErr}
use Rattle.recording_reader.specs.declared.refusal.VcdErr.TheVariants as refusal

-- the byte that is refused
abbrev pub place_of : RecordingFault → ℕ
place_of (fault.Syntax at) = at
place_of (fault.UnknownCode at) = at
place_of (fault.TimeBack at) = at
place_of (fault.Width at) = at
place_of (fault.DumpOff at) = at
place_of (fault.Truncated at) = at

-- its words
abbrev pub text_of : RecordingFault → List ℕ
text_of (fault.Syntax at) = codes "syntax"
text_of (fault.UnknownCode at) = codes "unknown code"
text_of (fault.TimeBack at) = codes "time goes back"
text_of (fault.Width at) = codes "width"
text_of (fault.DumpOff at) = codes "dump off"
text_of (fault.Truncated at) = codes "truncated"

-- Each refusal but out of memory is a fault of the recording.
abbrev pub fault_of : VcdErr → Option RecordingFault
fault_of (refusal.Syntax at) = Some (fault.Syntax at)
fault_of (refusal.UnknownCode at) = Some (fault.UnknownCode at)
fault_of (refusal.TimeBack at) = Some (fault.TimeBack at)
fault_of (refusal.Width at) = Some (fault.Width at)
fault_of (refusal.DumpOff at) = Some (fault.DumpOff at)
fault_of (refusal.Truncated at) = Some (fault.Truncated at)
fault_of refusal.Memory = None
