-- The whole report.
use Rattle.std.specs.Prelude.{Bool, List, ◌++◌, ℕ, count_by, is_some}
use Rattle.design_circuit.specs.declared.force.Event.{Event}
use Rattle.recording_binding.specs.declared.binding.Binding.{Binding}
use Rattle.report_bits.specs.Bits.{bit_lines}
use Rattle.report_bits.specs.Head.{head_lines}
use Rattle.report_bits.specs.declared.lines.ReportLines.{ReportLines}
use Rattle.wave_proved.specs.Contents.{Contents}

-- An event forces a net, or releases it.
abbrev pub is_force : Event → Bool
is_force event = is_some event.value

-- How many places have which end, with as many forces as events force a net.
abbrev pub head_text : Contents → List Event → List ℕ
head_text c forces = head_lines c (count_by is_force forces)

-- That, then the recorded bits that are x or z, each in each moment or where it is told anew.
unfoldable pub report_text : Contents → Binding → ReportLines → List Event → List ℕ
report_text c binding lines forces = head_text c forces ++ bit_lines c binding lines
