-- What has been made so far: nets with their names and drivers.
use Rattle.std.specs.Prelude.{ℕ, ◌+◌, ◌^◌, Bool, true, false, nat_le, Option, Some, None, is_some, List, [], ◌∷◌, ◌++◌}
use Rattle.std.specs.Prelude.{length, Ok, Err, if◌then◌else◌, slice_index_or, slice_set, unwrap_or, map}
use Rattle.std.specs.List.{zip}
use Rattle.design_cell.specs.Table.{Table}
use Rattle.netlist_grammar.specs.Trees.{Range}
use Rattle.netlist_grammar.specs.declared.tree.Word.{Word}
use Rattle.netlist_grammar.specs.declared.tree.NetKind.{NetKind}
use Rattle.netlist_grammar.specs.declared.tree.NetKind.TheVariants as kind
use Rattle.design_circuit.specs.declared.name.Name.{Name}
use Rattle.design_circuit.specs.declared.name.NamePart.{NamePart}
use Rattle.design_circuit.specs.declared.design.Net.{Net}
use Rattle.design_circuit.specs.declared.design.Design.{Design}
use Rattle.design_circuit.specs.declared.design.Driver.{Driver}
use Rattle.design_circuit.specs.declared.design.Driver.TheVariants.{Input, Undriven, Constant}
use Rattle.elab_nets.specs.declared.fault.ElabErr.TheVariants.{TwoDrivers, TooManyNets}
use Rattle.elab_nets.specs.Outcome.{Outcome}
use Rattle.elab_nets.specs.Ranges.{upto, width_of, bit_at}

-- the name of each net, and its driver where it has one
pub record State : Type 0 where
  pub names : List Name
  pub drivers : List (Option Driver)

abbrev pub nothing_made : State
nothing_made = record { names = []; drivers = [] }

-- A `reg` makes no net: nothing is ever assigned to it, since timing checks aren't run.
abbrev pub net_count : NetKind → Range → ℕ
net_count kind.Reg range = 0
net_count _ range = width_of range

-- An input has a driver from the start: the world outside at the top, below it the connection, which may be empty. So
-- has a supply net (IEEE 1364-2005, clause 4.6.7).
abbrev pub first_driver : List NamePart → NetKind → Option Driver
first_driver [] kind.Input = Some Input
first_driver (_ ∷ _) kind.Input = Some Undriven
first_driver prefix kind.Supply0 = Some (Constant false)
first_driver prefix kind.Supply1 = Some (Constant true)
first_driver prefix _ = None

abbrev pub part_of : Word → NamePart
part_of w = record { text = w.text; escaped = w.escaped }

-- the name of a net: the instances that lead to it, the word that declares it, and the index of a bit
abbrev pub name_under : List NamePart → Word → Option ℕ → Name
name_under prefix w bit = record { parts = prefix ++ part_of w ∷ []; bit = bit }

-- the nets of a name, from the left index to the right one
abbrev pub with_nets : List NamePart → NetKind → Range → Word → State → State
with_nets prefix what range w s = record {
  names = s.names ++ upto (λ bit. name_under prefix w (bit_at range bit)) (net_count what range);
  drivers = s.drivers ++ upto (λ _. first_driver prefix what) (net_count what range);
}

-- The nets of a name take the next free numbers, which are below 2^20.
unfoldable pub made : List NamePart → NetKind → Range → Word → State → Outcome (ℕ × State)
made prefix what range w s =
    if nat_le (length s.names + net_count what range) (2 ^ 20) then Ok
    (length s.names, with_nets prefix what range w s) else Err (TooManyNets w.at)

-- A number that is no net counts as driven.
abbrev pub has_driver : State → ℕ → Bool
has_driver s net = is_some (slice_index_or s.drivers net (Some Undriven))

abbrev pub with_driver : ℕ → Driver → State → State
with_driver net driver s = record s { drivers = slice_set s.drivers net (Some driver) }

-- A net takes one driver.
abbrev pub driven : ℕ → ℕ → Driver → State → Outcome State
driven at net driver s = if has_driver s net then Err (TwoDrivers net at) else Ok (with_driver net driver s)

-- A net without a driver is Undriven.
abbrev pub net_of : Name × Option Driver → Net
net_of n = record { path = n.0; driver = unwrap_or n.1 Undriven }

abbrev pub finished : List Table → State → Design
finished udps s = record { nets = map net_of (zip s.names s.drivers); udps = udps }
