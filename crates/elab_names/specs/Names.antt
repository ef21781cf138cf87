-- The declarations and the ports of a module (IEEE 1364-2005, clauses 4 and 12.3).
use Rattle.std.specs.Prelude.{ℕ, ◌==◌, Bool, true, false, not, ◌&&◌, ◌||◌, Option, Some, None, List, [], ◌∷◌, ◌++◌, Ok}
use Rattle.std.specs.Prelude.{Err, if◌then◌else◌}
use Rattle.netlist_grammar.specs.Trees.{Range}
use Rattle.netlist_grammar.specs.declared.tree.Word.{Word}
use Rattle.netlist_grammar.specs.declared.tree.NetKind.{NetKind}
use Rattle.netlist_grammar.specs.declared.tree.NetKind.TheVariants.{Input, Output, Wire, Supply0, Supply1, Reg}
use Rattle.netlist_grammar.specs.declared.tree.Declare.{Declare}
use Rattle.netlist_grammar.specs.declared.tree.Item.{Item}
use Rattle.netlist_grammar.specs.declared.tree.Item.TheVariants as item
use Rattle.elab_nets.specs.declared.fault.ElabErr.TheVariants.{PortMismatch, BadName}
use Rattle.elab_nets.specs.Outcome.{Outcome, after}
use Rattle.elab_names.specs.declared.scope.Entry.{Entry}
use Rattle.elab_names.specs.Sets.{has, is_among}
use Rattle.elab_names.specs.Scope.{Scope, entry_of}
use Rattle.elab_names.specs.Here.{Here, introduced}

abbrev pub is_directed : NetKind → Bool
is_directed Input = true
is_directed Output = true
is_directed _ = false

abbrev pub kind_number : NetKind → ℕ
kind_number Input = 0
kind_number Output = 1
kind_number Wire = 2
kind_number Supply0 = 3
kind_number Supply1 = 4
kind_number Reg = 5

abbrev pub same_kind : NetKind → NetKind → Bool
same_kind what other = kind_number what == kind_number other

abbrev pub same_range : Range → Range → Bool
same_range None None = true
same_range (Some r) (Some q) = (r.0 == q.0) && (r.1 == q.1)
same_range _ _ = false

-- A second declaration changes nothing where it is as the first, or a wire behind a direction.
abbrev pub repeats : Entry → Declare → Bool
repeats e d = (same_kind e.what d.what || is_directed e.what && same_kind d.what Wire) && same_range e.range d.range

abbrev pub declared_again : Option Entry → Declare → Here → Outcome Here
declared_again (Some e) d here = if repeats e d then Ok here else Err (BadName d.name.at)
declared_again None d here = after (introduced d.what d.range d.name here) (λ m. Ok m.1)

-- A direction is for a port.
abbrev pub declared : List Word → Declare → Here → Outcome Here
declared ports d here =
    if is_directed d.what && not (is_among ports d.name.text) then Err (PortMismatch d.name.at) else declared_again
    (entry_of here.scope d.name.text) d here

-- The declarations in text order.
abbrev pub all_declared : List Word → List Item → Here → Outcome Here
all_declared ports [] here = Ok here
all_declared ports (item.Declare d ∷ is) here = after (declared ports d here) (all_declared ports is)
all_declared ports (_ ∷ is) here = all_declared ports is here

abbrev pub has_direction : Option Entry → Bool
has_direction (Some e) = is_directed e.what
has_direction None = false

-- A port is named once and has a direction; these names come before.
abbrev pub port_checked : Scope → List (List ℕ) → Word → Outcome (List (List ℕ))
port_checked scope seen p =
    if has seen p.text || not (has_direction (entry_of scope p.text)) then Err (PortMismatch p.at) else Ok
    (seen ++ p.text ∷ [])

abbrev pub ports_checked : Scope → List (List ℕ) → List Word → Outcome Scope
ports_checked scope seen [] = Ok scope
ports_checked scope seen (p ∷ ps) = after (port_checked scope seen p) (λ more. ports_checked scope more ps)

-- A module's declarations, then its ports.
abbrev pub opened : List Word → List Item → Here → Outcome Here
opened ports items here =
    after (all_declared ports items here) (λ made.
    after (ports_checked made.scope [] ports) (λ _.
    Ok made))
