-- Modules that make no net: an instance of one is passed over.
use Rattle.std.specs.Prelude.{◌≡◌, ◌≢◌, ℕ, ◌+◌, ◌<◌, ◌≤◌, Bool, true, false, not, ◌&&◌, nat_lt, nat_le, is_some, Option}
use Rattle.std.specs.Prelude.{Some, None, List, [], ◌∷◌, ◌++◌, length, slice_get, slice_index_or, Result, IfOk, IsTrue}
use Rattle.std.specs.List.{list_all}
use Rattle.netlist_grammar.specs.declared.tree.Word.{Word}
use Rattle.netlist_grammar.specs.declared.tree.NetKind.{NetKind}
use Rattle.netlist_grammar.specs.declared.tree.NetKind.TheVariants.{Reg}
use Rattle.netlist_grammar.specs.declared.tree.Declare.{Declare}
use Rattle.netlist_grammar.specs.declared.tree.Connections.{Connections}
use Rattle.netlist_grammar.specs.declared.tree.Connections.TheVariants.{Positional}
use Rattle.netlist_grammar.specs.declared.tree.InstanceItem.{InstanceItem}
use Rattle.netlist_grammar.specs.declared.tree.Item.{Item}
use Rattle.netlist_grammar.specs.declared.tree.Item.TheVariants as item
use Rattle.netlist_grammar.specs.declared.tree.Module.{Module}
use Rattle.netlist_grammar.specs.declared.tree.Source.{Source}
use Rattle.elab_names.specs.Sets.{has}
use Rattle.elab_names.specs.Here.{Here, here_of}
use Rattle.elab_prims.specs.declared.definitions.Definition.{Definition}
use Rattle.elab_prims.specs.declared.definitions.Definition.TheVariants as definition
use Rattle.elab_prims.specs.Definitions.{definition_of}

-- a fact where the answer is yes
abbrev pub OnYes : {E : Type 0} → Result Bool E → Type 0 → Type 0
OnYes answer Fact = IfOk answer (λ yes. IsTrue yes → Fact)

-- A table gives each module a level, by its position. One over 32 is no level.
abbrev pub level_at : List ℕ → ℕ → ℕ
level_at levels k = slice_index_or levels k 33

abbrev pub connects_nothing : Connections → Bool
connects_nothing (Positional []) = true
connects_nothing _ = false

-- The definition is a module whose level is below this one.
abbrev pub is_below : List ℕ → ℕ → Option Definition → Bool
is_below levels level (Some (definition.Module k)) = nat_lt (level_at levels k) level
is_below levels level _ = false

-- A new name, where there is one.
abbrev pub is_new : List (List ℕ) → Option Word → Bool
is_new names (Some w) = not (has names w.text)
is_new names None = false

abbrev pub with_named : List (List ℕ) → Option Word → List (List ℕ)
with_named names (Some w) = names ++ w.text ∷ []
with_named names None = names

abbrev pub is_instance_below : Source → List ℕ → ℕ → InstanceItem → Bool
is_instance_below source levels level i = is_below levels level (definition_of source i.definition.text)

abbrev pub is_quiet_instance : Source → List ℕ → ℕ → List (List ℕ) → InstanceItem → Bool
is_quiet_instance source levels level names i =
    is_instance_below source levels level i && connects_nothing i.connections && is_new names i.name

abbrev pub is_reg_net : NetKind → Bool
is_reg_net Reg = true
is_reg_net _ = false

-- A `reg` makes no net, and may come again.
abbrev pub is_quiet_declare : Declare → Bool
is_quiet_declare d = is_reg_net d.what && not (is_some d.range) && not (is_some d.value)

-- An item declares a `reg`, or is an instance that connects nothing, of a module of a lower level, with a name of its
-- own.
abbrev pub is_quiet_item : Source → List ℕ → ℕ → List (List ℕ) → Item → Bool
is_quiet_item source levels level names (item.Declare d) = is_quiet_declare d
is_quiet_item source levels level names (item.Instance i) = is_quiet_instance source levels level names i
is_quiet_item source levels level names _ = false

abbrev pub with_item : List (List ℕ) → Item → List (List ℕ)
with_item names (item.Instance i) = with_named names i.name
with_item names _ = names

abbrev pub are_quiet : Source → List ℕ → ℕ → List (List ℕ) → List Item → Bool
are_quiet source levels level names [] = true
are_quiet source levels level names (i ∷ is) =
    is_quiet_item source levels level names i && are_quiet source levels level (with_item names i) is

abbrev pub has_ports : List Word → Bool
has_ports [] = false
has_ports (_ ∷ _) = true

-- A module is quiet at a level where it has no ports, and its items are quiet below that.
abbrev pub is_quiet : Source → List ℕ → ℕ → Module → Bool
is_quiet source levels level m = not (has_ports m.ports) && are_quiet source levels level [] m.items

-- A module of that level is quiet at it.
pub record IsQuiet (source : Source) (levels : List ℕ) (level : ℕ) (m : Module) : Type 0 where
  pub some : 0 < level
  pub ports : m.ports ≡ []
  pub items : are_quiet source levels level [] m.items ≡ true

-- Each module that has a level is quiet at it.
pub record IsLevelTable (source : Source) (levels : List ℕ) : Type 0 where
  pub right : (k : ℕ) (m : Module) → slice_get source.modules k ≡ Some m → level_at levels k ≤ 32
      → IsQuiet source levels (level_at levels k) m

-- The levels up to this one: a module has the lowest of them at which it is quiet, and 33 where there is none.
pub record AreLevels (source : Source) (top : ℕ) (levels : List ℕ) : Type 0 where
  pub long : length levels ≡ length source.modules
  pub few : (k : ℕ) → level_at levels k ≢ 33 → level_at levels k ≤ top
  pub table : IsLevelTable source levels
  pub lowest : (k level : ℕ) (m : Module) → slice_get source.modules k ≡ Some m
      → 0 < level → level ≤ top → level < level_at levels k → is_quiet source levels level m ≡ false

-- A text has one table of levels.
abbrev pub LevelsAreOne : Type 0
LevelsAreOne = (source : Source) (a b : List ℕ) → AreLevels source 32 a → AreLevels source 32 b → a ≡ b

-- The levels below this one, and this one itself for the first modules, so many of them.
pub record AreRaised (source : Source) (level count : ℕ) (levels : List ℕ) : Type 0 where
  pub long : length levels ≡ length source.modules
  pub few : (k : ℕ) → level_at levels k ≢ 33 → level_at levels k ≤ level
  pub table : IsLevelTable source levels
  pub lowest : (k low : ℕ) (m : Module) → slice_get source.modules k ≡ Some m
      → 0 < low → low < level → low < level_at levels k → is_quiet source levels low m ≡ false
  pub asked : (k : ℕ) (m : Module) → slice_get source.modules k ≡ Some m
      → k < count → level < level_at levels k → is_quiet source levels level m ≡ false

-- Every module on the path has this level or a higher one, or none.
abbrev pub are_from : List ℕ → ℕ → List ℕ → Bool
are_from levels level path = list_all (λ p. nat_le level (level_at levels p)) path

-- What is left of an instance that is passed over: its name is taken.
abbrev pub passed : InstanceItem → Here → Here
passed i here = here_of (record here.scope { instances = with_named here.scope.instances i.name }) here.state

-- whether an instance of the module at a position is passed over, where the path may have `room` modules more
abbrev pub is_passed_over : List ℕ → List ℕ → ℕ → ℕ → InstanceItem → Bool
is_passed_over levels path room k i =
    nat_le (level_at levels k) 32 && nat_le (level_at levels k) room && are_from levels (level_at levels k + 1) path
    && connects_nothing i.connections
