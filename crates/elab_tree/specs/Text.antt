-- What a text's tree comes to, with a module of it as the top.
use Rattle.std.specs.Prelude.{◌≡◌, Some, None, ℕ, List, Ok, Err}
use Rattle.design_cell.specs.Table.{Table}
use Rattle.netlist_grammar.specs.declared.tree.Source.{Source}
use Rattle.design_circuit.specs.declared.design.Design.{Design}
use Rattle.elab_nets.specs.declared.fault.ElabErr.{ElabErr}
use Rattle.elab_nets.specs.declared.fault.ElabErr.TheVariants.{TwoModules}
use Rattle.elab_nets.specs.Outcome.{Outcome, Gives}
use Rattle.elab_prims.specs.Definitions.{repeated}
use Rattle.elab_prims.specs.Built.{AreBuilt}
use Rattle.elab_tree.specs.Library.{library_of}
use Rattle.elab_tree.specs.Elaborate.{design_of}

-- First the names of all definitions, then the primitives, then the top; the first refusal counts.
pub data Elaborates (source : Source) (top : List ℕ) : Outcome Design → Type 0 where
  twice : {name : List ℕ} → repeated source ≡ Some name → Elaborates source top (Err (TwoModules name))
  refused : {e : ElabErr}
      → repeated source ≡ None → AreBuilt source.primitives (Err e) → Elaborates source top (Err e)
  built : (tables : List Table)
      → repeated source ≡ None → AreBuilt source.primitives (Ok tables)
      → Elaborates source top (design_of (library_of source tables) top)

-- What a tree comes to is the answer, unless memory runs out.
pub record IsAnswer (source : Source) (top : List ℕ) (result : Outcome Design) : Type 0 where
  pub told : (outcome : Outcome Design) → Elaborates source top outcome → Gives outcome result (λ design. design)
