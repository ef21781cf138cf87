-- A name as code holds it.
use Rattle.recording_reader.specs.Declarations.{RecordedName, name}
use Rattle.recording_reader.specs.declared.ranges.RecordedName.{RecordedName as Held}

abbrev pub shown_name : Held → RecordedName
shown_name n = name n.reference.now n.range n.direct
