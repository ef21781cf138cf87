-- Laws of elaboration.
use Rattle.std.specs.Prelude.{◌≡◌, ℕ, List, [], ◌∷◌, length, All, Ok}
use Rattle.design_cell.specs.Table.{Table}
use Rattle.netlist_grammar.specs.Whole.{IsItem, IsWhole}
use Rattle.netlist_grammar.specs.declared.tree.Item.{Item}
use Rattle.netlist_grammar.specs.declared.tree.Source.{Source}
use Rattle.design_circuit.specs.Design.{FitsDesign}
use Rattle.design_circuit.specs.declared.design.Design.{Design}
use Rattle.elab_nets.specs.Outcome.{Outcome, after}
use Rattle.elab_nets.specs.State.{finished}
use Rattle.elab_names.specs.Here.{Here}
use Rattle.elab_names.specs.Names.{opened}
use Rattle.elab_prims.specs.Built.{AreBuilt}
use Rattle.elab_tree.specs.Library.{Library, library_of, module_of}
use Rattle.elab_tree.specs.Elaborate.{at_top, design_of, instance_item, items_with, whole}
use Rattle.elab_tree.specs.Relation.{Elaborated, HasRoom, IsExact}
use Rattle.elab_tree.specs.Sound.{Under, StandsWell, Keeps}
use Rattle.elab_tree.specs.Staying.{DriversStay}
use Rattle.elab_tree.specs.Text.{Elaborates}

-- The design of a text's tree fits: its names, which are distinct, its drivers, and the nets that these name.
abbrev pub DesignsFit : Type 0
DesignsFit = (source : Source) (tables : List Table) (top : List ℕ) (design : Design)
    → IsWhole source → AreBuilt source.primitives (Ok tables)
    → design_of (library_of source tables) top ≡ Ok design → FitsDesign design

-- Items leave elaboration well. The nets that were there have their names still, and the name of a new one is the
-- instances that lead to the module, those below it that lead to the net, and a name of its own.
abbrev pub ItemsStandWell : Type 0
ItemsStandWell = (source : Source) (tables : List Table) (path : List ℕ) (room : ℕ) (is : List Item) (here done : Here)
    → StandsWell tables here → All IsItem is → IsWhole source → AreBuilt source.primitives (Ok tables)
    → items_with (instance_item (library_of source tables) path room) is here ≡ Ok done
    → StandsWell tables done × Keeps Under here done

-- The items of a module lead to exactly what the definition by functions answers.
abbrev pub ItemsAreExact : Type 0
ItemsAreExact = (l : Library) (path : List ℕ) (room : ℕ) (is : List Item) (here : Here)
    → HasRoom path room → IsExact l path room is here

-- So it is with the items of the top, which stands alone on its path.
abbrev pub TopsAreExact : Type 0
TopsAreExact = (l : Library) (k : ℕ) (here : Here) (r : Outcome Here)
    → opened (module_of l k).ports (module_of l k).items at_top ≡ Ok here
    → Elaborated l (k ∷ []) (module_of l k).items here r
    → whole l k ≡ after r (λ (done : Here). Ok (finished l.tables done.state))

-- A tree comes to one outcome at most.
abbrev pub OneOutcome : Type 0
OneOutcome = (source : Source) (top : List ℕ) (a b : Outcome Design)
    → Elaborates source top a → Elaborates source top b → a ≡ b

-- It comes to one where its primitives do.
abbrev pub SomeOutcome : Type 0
SomeOutcome = (source : Source) (top : List ℕ) (tables : Outcome (List Table))
    → AreBuilt source.primitives tables → (outcome : Outcome Design) × Elaborates source top outcome

-- The items of a module leave each driver that a net had before them.
abbrev pub DriversAreKept : Type 0
DriversAreKept = (l : Library) (path : List ℕ) (room : ℕ) (is : List Item) (here done : Here)
    → length here.state.drivers ≡ length here.state.names
    → items_with (instance_item l path room) is here ≡ Ok done → DriversStay here.state done.state
