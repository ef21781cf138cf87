-- Registers by their written names.
use Rattle.std.specs.Prelude.{◌≡◌, ℕ, Bool, true, false, ◌&&◌, Option, None, Some, List, bytes_eq, Vec}
use Rattle.std.specs.List.{position_from}
use Rattle.std.specs.Map.{lookup}
use Rattle.std.specs.declared.alloc.Global.{Global}
use Rattle.design_circuit.specs.Design.{name_in}
use Rattle.design_circuit.specs.Job.{driver_in}
use Rattle.design_circuit.specs.Name.{written_name}
use Rattle.design_circuit.specs.declared.design.Design.{Design}
use Rattle.design_circuit.specs.declared.design.Driver.{Driver}
use Rattle.design_circuit.specs.declared.design.Net.{Net}
use Rattle.design_circuit.specs.declared.name.Name.{Name}
use Rattle.law_waveforms.specs.Starts.{is_register}

-- A register has this written name.
abbrev pub has_name : List ℕ → Name → Driver → Bool
has_name name path driver = is_register driver && bytes_eq name (written_name path)

abbrev pub is_named : List ℕ → Net → Bool
is_named name net = has_name name net.path net.driver

-- The first register with a written name.
abbrev pub register_named : List Net → List ℕ → Option ℕ
register_named nets name = position_from (is_named name) 0 nets

-- What a map has: written names with their registers.
abbrev pub Entries : Type 0
Entries = List (Vec ℕ Global × ℕ)

abbrev pub net_at : Entries → List ℕ → Option ℕ
net_at entries name = lookup (λ (k : Vec ℕ Global). bytes_eq name k.items) entries

-- It has the first register of each written name among these nets.
abbrev pub ListsRegisters : Entries → List Net → Type 0
ListsRegisters entries nets = (name : List ℕ) → net_at entries name ≡ register_named nets name

-- A net where it passes and none came before it.
abbrev pub first_or : Option ℕ → Bool → ℕ → Option ℕ
first_or (Some first) passes net = Some first
first_or None true net = Some net
first_or None false net = None

-- A name is noted where it wasn't.
abbrev pub AddsName : Entries → Entries → List ℕ → ℕ → Type 0
AddsName old new own net = (name : List ℕ) → net_at new name ≡ first_or (net_at old name) (bytes_eq name own) net

-- The name of a net is noted where it wasn't and the net is a register.
abbrev pub AddsNet : Entries → Entries → Design → ℕ → Type 0
AddsNet old new design net = (name : List ℕ)
    → net_at new name ≡ first_or (net_at old name) (has_name name (name_in design net) (driver_in design net)) net
