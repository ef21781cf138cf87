-- The design of a job: what nets without a driver have by a rule.
use Rattle.std.specs.Prelude.{ℕ, ◌+◌, Bool, true, false, List, [], ◌∷◌, Option, None, Some, map, if◌then◌else◌}
use Rattle.design_circuit.specs.Job.{driver_in}
use Rattle.design_circuit.specs.declared.design.Design.{Design}
use Rattle.design_circuit.specs.declared.design.Net.{Net}
use Rattle.design_circuit.specs.declared.design.Driver.{Driver}
use Rattle.design_circuit.specs.declared.design.Driver.TheVariants.{Input, Undriven, Constant, Copy, Cell, Register}
use Rattle.recording_binding.specs.Holding.{holder_of}
use Rattle.recording_binding.specs.Originals.{with_originals}
use Rattle.recording_binding.specs.declared.binding.Bound.{Bound}
use Rattle.recording_binding.specs.declared.inputs.Holder.{Holder}
use Rattle.recording_binding.specs.declared.rule.UndrivenRule.{UndrivenRule}
use Rattle.recording_binding.specs.declared.rule.UndrivenRule.TheVariants.{Released, Recorded}

-- The first bound variable, and its bit, that has the net or a net that copies it.
abbrev pub copied_holder_of : Design → List Bound → ℕ → Option Holder
copied_holder_of design bound net = holder_of (map (with_originals design) bound) net

-- the second where there is no driver, else the first
abbrev pub holder_at : Driver → Option Holder → Option Holder → Option Holder
holder_at Input own copied = own
holder_at Undriven own copied = copied
holder_at (Constant bit) own copied = own
holder_at (Copy argument) own copied = own
holder_at (Cell table pins) own copied = own
holder_at (Register latching) own copied = own

-- What holds a net: the first bound variable that has it. Where nets without a driver are as recorded, such a net is
-- held also by one that has a net that copies it.
abbrev pub holder_by : UndrivenRule → Design → List Bound → ℕ → Option Holder
holder_by Released design bound net = holder_of bound net
holder_by Recorded design bound net =
    holder_at (driver_in design net) (holder_of bound net) (copied_holder_of design bound net)

abbrev pub is_undriven : Driver → Bool
is_undriven Input = false
is_undriven Undriven = true
is_undriven (Constant bit) = false
is_undriven (Copy argument) = false
is_undriven (Cell table pins) = false
is_undriven (Register latching) = false

-- A net without a driver that a variable holds becomes an input.
abbrev pub becomes_input : Option Holder → Driver → Bool
becomes_input None driver = false
becomes_input (Some holder) driver = is_undriven driver

abbrev pub input_where : Option Holder → Driver → Driver
input_where holder driver = if becomes_input holder driver then Input else driver

abbrev pub net_where : Option Holder → Net → Net
net_where holder net = record { path = net.path; driver = input_where holder net.driver }

-- so for the nets from a number on
abbrev pub nets_where : (ℕ → Option Holder) → ℕ → List Net → List Net
nets_where holder net [] = []
nets_where holder net (first ∷ nets) = net_where (holder net) first ∷ nets_where holder (net + 1) nets

-- A design with an input in place of each net without a driver that a variable holds.
abbrev pub with_inputs : (ℕ → Option Holder) → Design → Design
with_inputs holder design = record { nets = nets_where holder 0 design.nets; udps = design.udps }

-- The design of a job: nets without a driver float as in the netlist, or are inputs where a variable holds them.
abbrev pub job_design : UndrivenRule → Design → List Bound → Design
job_design Released design bound = design
job_design Recorded design bound = with_inputs (holder_by Recorded design bound) design
