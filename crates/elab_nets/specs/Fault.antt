-- What is wrong with a tree: its place or name, and its words.
use Rattle.std.specs.Prelude.{ℕ, List, ◌++◌, Option, Some, None, codes, decimal}
use Rattle.design_cell.specs.declared.refusal.UdpErr.{UdpErr}
use Rattle.design_cell.specs.declared.refusal.UdpErr.TheVariants as udp
use Rattle.elab_nets.specs.declared.fault.ElabErr.{ElabErr}
use Rattle.elab_nets.specs.declared.fault.ElabErr.TheVariants as refusal
use Rattle.elab_nets.specs.declared.fault.ElabFault.{ElabFault}
use Rattle.elab_nets.specs.declared.fault.ElabFault.TheVariants.{NoModule, TwoModules, SelfInstance, TooDeep}
use Rattle.elab_nets.specs.declared.fault.ElabFault.TheVariants.{PortMismatch, Width, BadName, TwoDrivers, TooManyNets}
use Rattle.elab_nets.specs.declared.fault.ElabFault.TheVariants.{TooManyLive, Udp}

-- What is wrong with the tree. Want of memory says nothing about it.
abbrev pub fault_in : ElabErr → Option ElabFault
fault_in (refusal.NoModule name) = Some (NoModule name)
fault_in (refusal.TwoModules name) = Some (TwoModules name)
fault_in (refusal.SelfInstance name) = Some (SelfInstance name)
fault_in (refusal.TooDeep name) = Some (TooDeep name)
fault_in (refusal.PortMismatch at) = Some (PortMismatch at)
fault_in (refusal.Width at) = Some (Width at)
fault_in (refusal.BadName at) = Some (BadName at)
fault_in (refusal.TwoDrivers net at) = Some (TwoDrivers net at)
fault_in (refusal.TooManyNets at) = Some (TooManyNets at)
fault_in (refusal.TooManyLive at) = Some (TooManyLive at)
fault_in (refusal.Udp at fault) = Some (Udp at fault)
fault_in refusal.Memory = None

-- the byte that is at fault
abbrev pub fault_at : ElabFault → Option ℕ
fault_at (PortMismatch at) = Some at
fault_at (Width at) = Some at
fault_at (BadName at) = Some at
fault_at (TwoDrivers net at) = Some at
fault_at (TooManyNets at) = Some at
fault_at (TooManyLive at) = Some at
fault_at (Udp at fault) = Some at
fault_at _ = None

-- the name of the definition that is at fault
abbrev pub fault_name : ElabFault → Option (List ℕ)
fault_name (NoModule name) = Some name
fault_name (TwoModules name) = Some name
fault_name (SelfInstance name) = Some name
fault_name (TooDeep name) = Some name
fault_name _ = None

-- Rows are counted from 1.
abbrev pub udp_words : UdpErr → List ℕ
udp_words udp.TooManyInputs = codes "too many inputs"
udp_words (udp.RowLength row) = codes "row " ++ (decimal row ++ codes " length")
udp_words (udp.BadSymbol row) = codes "row " ++ (decimal row ++ codes " symbol")
udp_words (udp.TwoEdges row) = codes "row " ++ (decimal row ++ codes " two edges")
udp_words (udp.Conflict first second) =
    codes "rows " ++ (decimal first ++ (codes " and " ++ (decimal second ++ codes " conflict")))
udp_words udp.Memory = codes "memory"

-- the words of a refusal, without the byte or the name
abbrev pub fault_words : ElabFault → List ℕ
fault_words (NoModule name) = codes "no module"
fault_words (TwoModules name) = codes "two modules"
fault_words (SelfInstance name) = codes "instance of itself"
fault_words (TooDeep name) = codes "too deep"
fault_words (PortMismatch at) = codes "port mismatch"
fault_words (Width at) = codes "width"
fault_words (BadName at) = codes "bad name"
fault_words (TwoDrivers net at) = codes "two drivers"
fault_words (TooManyNets at) = codes "too many nets"
fault_words (TooManyLive at) = codes "too many live pins"
fault_words (Udp at fault) = udp_words fault
