-- What the declarations of a module come to, worked out once for all of its instances.
use Rattle.std.specs.Prelude.{◌≡◌, ℕ, ◌+◌, ◌≤◌, ◌^◌, Bool, true, false, nat_le, not, ◌&&◌, Option, Some, None, is_some}
use Rattle.std.specs.Prelude.{List, [], ◌∷◌, ◌++◌, length, bytes_eq, Ok, if◌then◌else◌}
use Rattle.std.specs.Borrow.{Bor}
use Rattle.std.specs.Map.{lookup}
use Rattle.design_circuit.specs.declared.name.NamePart.{NamePart}
use Rattle.netlist_grammar.specs.declared.tree.Word.{Word}
use Rattle.netlist_grammar.specs.declared.tree.NetKind.{NetKind}
use Rattle.netlist_grammar.specs.declared.tree.NetKind.TheVariants.{Reg}
use Rattle.netlist_grammar.specs.declared.tree.Declare.{Declare}
use Rattle.netlist_grammar.specs.declared.tree.Item.{Item}
use Rattle.netlist_grammar.specs.declared.tree.Item.TheVariants as item
use Rattle.netlist_grammar.specs.declared.tree.Module.{Module}
use Rattle.elab_nets.specs.Outcome.{Outcome, after}
use Rattle.elab_nets.specs.State.{State, made, net_count}
use Rattle.elab_names.specs.declared.scope.Entry.{Entry}
use Rattle.elab_names.specs.NameMap.{names_from}
use Rattle.elab_names.specs.Sets.{is_among}
use Rattle.elab_names.specs.Scope.{scope_of}
use Rattle.elab_names.specs.Here.{Here, here_of, entry}
use Rattle.elab_names.specs.Names.{is_directed, repeats, ports_checked}

-- names with their nets from 0 on, the declarations that make nets, and how many nets these are
pub record Outline : Type 0 where
  pub names : List (List ℕ × Entry)
  pub makers : List Declare
  pub count : ℕ

abbrev pub outline_of : List (List ℕ × Entry) → List Declare → ℕ → Outline
outline_of names makers count = record { names = names; makers = makers; count = count }

abbrev pub no_outline : Outline
no_outline = outline_of [] [] 0

-- what the references lead to
abbrev pub declares_in : List (Bor Declare) → List Declare
declares_in [] = []
declares_in (d ∷ ds) = d.now ∷ declares_in ds

abbrev pub is_reg : NetKind → Bool
is_reg Reg = true
is_reg _ = false

-- A `reg` makes no net.
abbrev pub with_maker : Declare → List Declare → List Declare
with_maker d makers = if is_reg d.what then makers else makers ++ d ∷ []

abbrev pub with_declared : Declare → Outline → Outline
with_declared d o =
    outline_of (o.names ++ (d.name.text, entry d.what d.range o.count) ∷ []) (with_maker d o.makers)
    (o.count + net_count d.what d.range)

-- The declaration of a name that is known, or of a new one; none where it is refused, or there are more than 2^20 nets.
abbrev pub noted_again : Option Entry → Declare → Outline → Option Outline
noted_again (Some e) d o = if repeats e d then Some o else None
noted_again None d o = if nat_le (o.count + net_count d.what d.range) (2 ^ 20) then Some (with_declared d o) else None

-- A direction is for a port.
abbrev pub noted : List Word → Declare → Outline → Option Outline
noted ports d o =
    if is_directed d.what && not (is_among ports d.name.text)
    then None
    else noted_again (lookup (bytes_eq d.name.text) o.names) d o

abbrev pub and_then : Option Outline → (Outline → Option Outline) → Option Outline
and_then (Some o) next = next o
and_then None next = None

-- The declarations in text order.
abbrev pub all_noted : List Word → List Item → Outline → Option Outline
all_noted ports [] o = Some o
all_noted ports (item.Declare d ∷ is) o = and_then (noted ports d o) (all_noted ports is)
all_noted ports (_ ∷ is) o = all_noted ports is o

-- The answer tells whether there is one, which then is this.
abbrev pub Tells : Option Outline → Outline → Bool → Type 0
Tells wanted seen true = wanted ≡ Some seen
Tells wanted seen false = wanted ≡ None

-- The nets of each name are among so many, of which there are at most 2^20.
pub record Counts (names : List (List ℕ × Entry)) (count : ℕ) : Type 0 where
  pub few : count ≤ 2 ^ 20
  pub within : (name : List ℕ) (e : Entry) → lookup (bytes_eq name) names ≡ Some e
      → e.base + net_count e.what e.range ≤ count

-- The nets of declarations, in their order.
abbrev pub all_made : List NamePart → List Declare → State → Outcome State
all_made prefix [] s = Ok s
all_made prefix (d ∷ ds) s = after (made prefix d.what d.range d.name s) (λ m. all_made prefix ds m.1)

-- A module behind these instances, with these names, whose nets begin at a number.
abbrev pub outlined : List NamePart → ℕ → Outline → State → Here
outlined prefix base o s = here_of (scope_of prefix (names_from base o.names) []) s

-- A module is opened as its outline says: its nets are made behind those that are there.
abbrev pub made_from : List NamePart → Outline → State → Outcome Here
made_from prefix o s = after (all_made prefix o.makers s) (λ t. Ok (outlined prefix (length s.names) o t))

-- What is left of a module's items once it is open: of its declarations those that have a value.
abbrev pub is_left : Item → Bool
is_left (item.Declare d) = is_some d.value
is_left _ = true

abbrev pub left_of : List Item → List Item
left_of [] = []
left_of (i ∷ is) = if is_left i then i ∷ left_of is else left_of is

-- what the references lead to
abbrev pub items_in : List (Bor Item) → List Item
items_in [] = []
items_in (i ∷ is) = i.now ∷ items_in is

-- What the declarations and the ports of a module come to, where they are in order.
abbrev pub AreOutlined : List Word → List Item → Option Outline → Type 0
AreOutlined ports items None = Unit {0}
AreOutlined ports items (Some o) =
    (all_noted ports items no_outline ≡ Some o)
    × (ports_checked (scope_of [] o.names []) [] ports ≡ Ok (scope_of [] o.names []))

-- The ports are the module's, and so is what is left of its items.
pub record IsHeld (m : Module) (ports : List Word) (outline : Option Outline) (left : List (Bor Item)) : Type 0 where
  pub ports_ : ports ≡ m.ports
  pub outline_ : AreOutlined ports m.items outline
  pub left_ : items_in left ≡ left_of m.items
