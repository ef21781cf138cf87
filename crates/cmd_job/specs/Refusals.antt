-- Which error of a job the error of a phase is.
use Rattle.std.specs.Prelude.{Option, Some, None}
use Rattle.netlist_grammar.specs.Fault.{fault_in as grammar_fault}
use Rattle.netlist_grammar.specs.declared.fault.NetlistFault.{NetlistFault}
use Rattle.netlist_grammar.specs.declared.refusal.ParseErr.{ParseErr}
use Rattle.elab_nets.specs.Fault.{fault_in as design_fault}
use Rattle.elab_nets.specs.declared.fault.ElabErr.{ElabErr}
use Rattle.elab_nets.specs.declared.fault.ElabFault.{ElabFault}
use Rattle.recording_reader.specs.RecordingFault.{fault_of}
use Rattle.recording_reader.specs.declared.refusal.VcdErr.{VcdErr}
use Rattle.recording_reader.specs.declared.fault.RecordingFault.{RecordingFault}
use Rattle.cmd_job.specs.declared.netlist_refusal.NetlistErr.{NetlistErr}
use Rattle.cmd_job.specs.declared.netlist_refusal.NetlistErr.TheVariants as netlist
use Rattle.cmd_job.specs.declared.netlist_refusal.NetlistRefusal.TheVariants.{Grammar, Design}
use Rattle.cmd_job.specs.declared.recording_refusal.RecordingErr.{RecordingErr}
use Rattle.cmd_job.specs.declared.recording_refusal.RecordingErr.TheVariants as recording
use Rattle.cmd_job.specs.declared.recording_refusal.RecordingRefusal.TheVariants as refusal

abbrev pub by_grammar : Option NetlistFault → NetlistErr
by_grammar (Some fault) = netlist.Refused (Grammar fault)
by_grammar None = netlist.Memory

abbrev pub grammar_err : ParseErr → NetlistErr
grammar_err cause = by_grammar (grammar_fault cause)

abbrev pub by_design : Option ElabFault → NetlistErr
by_design (Some fault) = netlist.Refused (Design fault)
by_design None = netlist.Memory

abbrev pub design_err : ElabErr → NetlistErr
design_err cause = by_design (design_fault cause)

abbrev pub by_recording : Option RecordingFault → RecordingErr
by_recording (Some fault) = recording.Refused (refusal.Grammar fault)
by_recording None = recording.Memory

abbrev pub recording_err : VcdErr → RecordingErr
recording_err cause = by_recording (fault_of cause)
