-- The items of a module that do something at each of its instances.
use Rattle.std.specs.Prelude.{◌≡◌, ℕ, ◌+◌, Bool, true, false, not, ◌&&◌, nat_lt, nat_le, is_some, Option, Some, None}
use Rattle.std.specs.Prelude.{List, [], ◌∷◌, max, Ok, if◌then◌else◌}
use Rattle.netlist_grammar.specs.declared.tree.Word.{Word}
use Rattle.netlist_grammar.specs.declared.tree.InstanceItem.{InstanceItem}
use Rattle.netlist_grammar.specs.declared.tree.Item.{Item}
use Rattle.netlist_grammar.specs.declared.tree.Item.TheVariants as item
use Rattle.netlist_grammar.specs.declared.tree.Module.{Module}
use Rattle.netlist_grammar.specs.declared.tree.Source.{Source}
use Rattle.elab_nets.specs.Outcome.{Outcome, after}
use Rattle.elab_nets.specs.State.{State}
use Rattle.elab_names.specs.Sets.{has}
use Rattle.elab_names.specs.Outline.{left_of}
use Rattle.elab_names.specs.Here.{Here}
use Rattle.elab_prims.specs.declared.definitions.Definition.{Definition}
use Rattle.elab_prims.specs.declared.definitions.Definition.TheVariants as definition
use Rattle.elab_prims.specs.Definitions.{definition_of}
use Rattle.elab_design.specs.Quiet.{level_at, connects_nothing, is_instance_below, with_named, AreLevels, are_from}

-- what is made where items lead to
abbrev pub state_of : Outcome Here → Outcome State
state_of r = after r (λ h. Ok h.state)

-- ---- idle items

-- An instance with a name that connects nothing, of a module below this level.
abbrev pub is_idle_instance : Source → List ℕ → ℕ → InstanceItem → Bool
is_idle_instance source levels level i =
    is_instance_below source levels level i && is_some i.name && connects_nothing i.connections

-- An idle item makes nothing.
abbrev pub is_idle : Source → List ℕ → ℕ → Item → Bool
is_idle source levels level (item.Instance i) = is_idle_instance source levels level i
is_idle source levels level _ = false

-- the other items
abbrev pub busy_of : Source → List ℕ → ℕ → List Item → List Item
busy_of source levels level [] = []
busy_of source levels level (i ∷ is) =
    if is_idle source levels level i then busy_of source levels level is else i ∷ busy_of source levels level is

-- ---- names of instances

-- Instances of modules have names that count; those of primitives may come again.
abbrev pub counted_name : Option Definition → Option Word → Option Word
counted_name (Some (definition.Module k)) name = name
counted_name _ name = None

abbrev pub counted_instance : Source → Item → Option Word
counted_instance source (item.Instance i) = counted_name (definition_of source i.definition.text) i.name
counted_instance source _ = None

abbrev pub is_apart : List (List ℕ) → Option Word → Bool
is_apart names (Some w) = not (has names w.text)
is_apart names None = true

-- No name comes twice, and none is one of these.
abbrev pub are_apart : Source → List (List ℕ) → List Item → Bool
are_apart source names [] = true
are_apart source names (i ∷ is) =
    is_apart names (counted_instance source i) && are_apart source (with_named names (counted_instance source i)) is

-- ---- the level below which instances are idle

-- one above a level, where it is one
abbrev pub above : ℕ → ℕ
above level = if nat_le level 32 then level + 1 else 0

abbrev pub level_above : List ℕ → Option Definition → ℕ
level_above levels (Some (definition.Module k)) = above (level_at levels k)
level_above levels _ = 0

-- the level at which an item becomes idle, 0 where it never does
abbrev pub idle_from : Source → List ℕ → Item → ℕ
idle_from source levels (item.Instance i) =
    if is_some i.name && connects_nothing i.connections
    then level_above levels (definition_of source i.definition.text)
    else 0
idle_from source levels _ = 0

-- the highest of these levels
abbrev pub all_idle_from : Source → List ℕ → List Item → ℕ
all_idle_from source levels [] = 0
all_idle_from source levels (i ∷ is) = max (idle_from source levels i) (all_idle_from source levels is)

-- No item is idle where a name comes twice: there the items are refused.
abbrev pub idle_level : Source → List ℕ → List Item → ℕ
idle_level source levels is = if are_apart source [] is then all_idle_from source levels is else 0

-- ---- what is worked out once

-- a level, and the items that aren't idle below it
pub record Busy : Type 0 where
  pub level : ℕ
  pub items : List Item

abbrev pub busy_from : ℕ → List Item → Busy
busy_from level items = record { level = level; items = items }

abbrev pub busy_in : Source → List ℕ → List Item → Busy
busy_in source levels is =
    busy_from (idle_level source levels is) (busy_of source levels (idle_level source levels is) is)

-- of a module's items those that are left once it is open
abbrev pub busy_of_module : Source → List ℕ → Module → Busy
busy_of_module source levels m = busy_in source levels (left_of m.items)

-- Nothing is busy behind the last module.
abbrev pub no_busy : Busy
no_busy = busy_from 0 []

-- ---- what is gone through

-- whether depth and path allow that instances below a level are idle
abbrev pub allows : List ℕ → List ℕ → ℕ → ℕ → Bool
allows levels path room level =
    nat_lt 0 level && nat_le level 32 && nat_le level room && are_from levels level path

-- The busy items where that is so, else all of them.
abbrev pub to_do : List ℕ → List ℕ → ℕ → Busy → List Item → List Item
to_do levels path room b items = if allows levels path room b.level then b.items else items

-- These are gone through of the items, by the levels of the text.
pub record IsToDo (source : Source) (path : List ℕ) (room : ℕ) (items todo : List Item) : Type 0 where
  pub levels : List ℕ
  pub right : AreLevels source 32 levels
  pub is : todo ≡ to_do levels path room (busy_in source levels items) items
