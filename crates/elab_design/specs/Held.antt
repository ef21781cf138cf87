-- What is held of a text while it is elaborated.
use Rattle.std.specs.Prelude.{◌≡◌, ℕ, ◌<◌, ◌≤◌, ◌^◌, Bool, List, length, map}
use Rattle.design_cell.specs.Table.{Table}
use Rattle.design_cell.specs.Refusal.{input_limit}
use Rattle.design_circuit.specs.Job.{primitive_of}
use Rattle.netlist_grammar.specs.declared.tree.InstanceItem.{InstanceItem}
use Rattle.netlist_grammar.specs.declared.tree.Module.{Module}
use Rattle.netlist_grammar.specs.declared.tree.Source.{Source}
use Rattle.elab_design.specs.Quiet.{AreLevels, is_passed_over}
use Rattle.elab_design.specs.Busy.{Busy, busy_of_module}

-- There is a table for each primitive, with no more inputs than its kind takes, and there are fewer than 2^32.
pub record AreTables (source : Source) (tables : List Table) : Type 0 where
  pub each : length tables ≡ length source.primitives
  pub few : length tables < 2 ^ 32
  pub inputs : (k : ℕ) → k < length tables
      → (primitive_of tables k).inputs ≤ input_limit (primitive_of tables k).sequential

-- The modules are those of the text, in their order; the levels are theirs; the busy items are those of the modules;
-- and the tables are those of the primitives.
pub record Holds (source : Source) (tables : List Table) (modules : List Module) (levels : List ℕ) (busy : List Busy)
    : Type 0 where
  pub modules_ : modules ≡ source.modules
  pub levels_ : AreLevels source 32 levels
  pub busy_ : busy ≡ map (busy_of_module source levels) source.modules
  pub tables_ : AreTables source tables

-- Whether an instance of the module at a position is passed over, by the levels of the text.
pub record IsPassing (source : Source) (path : List ℕ) (room k : ℕ) (i : InstanceItem) (answer : Bool) : Type 0 where
  pub levels : List ℕ
  pub right : AreLevels source 32 levels
  pub is : answer ≡ is_passed_over levels path room k i
