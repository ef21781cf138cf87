-- What a netlist's text comes to, with a module as its top: a design and its order, or the first refusal.
use Rattle.std.specs.Prelude.{◌≡◌, ℕ, List, Some, Result, Ok, Err, length, map}
use Rattle.netlist_grammar.specs.Source.{IsTree, IsRefused}
use Rattle.netlist_grammar.specs.declared.tree.Source.{Source}
use Rattle.elab_nets.specs.Fault.{fault_in}
use Rattle.elab_nets.specs.declared.fault.ElabErr.{ElabErr}
use Rattle.elab_nets.specs.declared.fault.ElabFault.{ElabFault}
use Rattle.elab_tree.specs.Text.{Elaborates}
use Rattle.design_circuit.specs.Design.{FitsDesign}
use Rattle.design_circuit.specs.Job.{driver_in}
use Rattle.design_circuit.specs.Order.{IsOrder}
use Rattle.design_circuit.specs.declared.design.Design.{Design}
use Rattle.design_order.specs.Loop.{IsToldLoop}
use Rattle.cmd_job.specs.Names.{net_name}
use Rattle.cmd_job.specs.declared.netlist.Netlist.{Netlist}
use Rattle.cmd_job.specs.declared.netlist_refusal.NetlistErr.{NetlistErr}
use Rattle.cmd_job.specs.declared.netlist_refusal.NetlistErr.TheVariants.{Refused, Memory}
use Rattle.cmd_job.specs.declared.netlist_refusal.NetlistRefusal.{NetlistRefusal}
use Rattle.cmd_job.specs.declared.netlist_refusal.NetlistRefusal.TheVariants.{Grammar, Design as NoDesign, Loop}

-- The tree has this design.
abbrev pub IsDesignIn : Source → List ℕ → Design → Type 0
IsDesignIn tree top design = Elaborates tree top (Ok design)

-- The tree has no design, and this is the fault.
pub record IsUndesigned (tree : Source) (top : List ℕ) (fault : ElabFault) : Type 0 where
  pub cause : ElabErr
  pub refused : Elaborates tree top (Err cause)
  pub says : fault_in cause ≡ Some fault

-- The design has no order, and these are the written names of the nets of the loop that is reported.
pub record IsLooped (design : Design) (names : List (List ℕ)) : Type 0 where
  pub nets : List ℕ
  pub reported : IsToldLoop (driver_in design) (length design.nets) nets
  pub named : names ≡ map (net_name design) nets

-- The text is of a tree, and the tree has this design.
pub record IsDesignOf (text top : List ℕ) (design : Design) : Type 0 where
  pub tree : Source
  pub parsed : IsTree text tree
  pub is : IsDesignIn tree top design

-- The text stands for this design, whose order this is.
pub record IsOrdered (text top : List ℕ) (design : Design) (order : List ℕ) : Type 0 where
  pub is : IsDesignOf text top design
  pub ordered : IsOrder (driver_in design) (length design.nets) order

-- The text is of a tree without a design.
pub record IsTreeAlone (text top : List ℕ) (fault : ElabFault) : Type 0 where
  pub tree : Source
  pub parsed : IsTree text tree
  pub none : IsUndesigned tree top fault

-- The text stands for a design without an order.
pub record IsDesignAlone (text top : List ℕ) (names : List (List ℕ)) : Type 0 where
  pub design : Design
  pub is : IsDesignOf text top design
  pub looped : IsLooped design names

-- Each refusal by its cause.
abbrev pub IsRefusedNetlist : List ℕ → List ℕ → NetlistRefusal → Type 0
IsRefusedNetlist text top (Grammar fault) = IsRefused text fault
IsRefusedNetlist text top (NoDesign fault) = IsTreeAlone text top fault
IsRefusedNetlist text top (Loop names) = IsDesignAlone text top names

-- What the text comes to.
abbrev pub NetlistComes : List ℕ → List ℕ → Result Netlist NetlistRefusal → Type 0
NetlistComes text top (Ok netlist) = IsOrdered text top netlist.design netlist.order
NetlistComes text top (Err refusal) = IsRefusedNetlist text top refusal

-- The refusals of the phases after the grammar.
abbrev pub HasNoDesign : Source → List ℕ → NetlistRefusal → Type 0
HasNoDesign tree top (Grammar fault) = ⊥
HasNoDesign tree top (NoDesign fault) = IsUndesigned tree top fault
HasNoDesign tree top (Loop names) = ⊥

abbrev pub HasLoopIn : Design → NetlistRefusal → Type 0
HasLoopIn design (Grammar fault) = ⊥
HasLoopIn design (NoDesign fault) = ⊥
HasLoopIn design (Loop names) = IsLooped design names

-- An error that is a refusal is of this kind.
abbrev pub IfNetlistRefused : (NetlistRefusal → Type 0) → NetlistErr → Type 0
IfNetlistRefused P (Refused refusal) = P refusal
IfNetlistRefused P Memory = Unit {0}

-- An answer is this outcome, unless memory ran out.
abbrev pub AnswersNetlist : Result Netlist NetlistErr → Result Netlist NetlistRefusal → Type 0
AnswersNetlist (Ok netlist) outcome = Ok netlist ≡ outcome
AnswersNetlist (Err (Refused refusal)) outcome = Err refusal ≡ outcome
AnswersNetlist (Err Memory) outcome = Unit {0}

-- The answer is what the text comes to, unless memory runs out.
abbrev pub IsNetlistAnswer : List ℕ → List ℕ → Result Netlist NetlistErr → Type 0
IsNetlistAnswer text top result =
    (outcome : Result Netlist NetlistRefusal) → NetlistComes text top outcome → AnswersNetlist result outcome

-- The law: a text with a top comes to one outcome.
abbrev pub NetlistsComeToOne : Type 0
NetlistsComeToOne = (text top : List ℕ) (a b : Result Netlist NetlistRefusal)
    → NetlistComes text top a → NetlistComes text top b → a ≡ b

-- A netlist fits where its design does, and the order is the design's.
pub record FitsNetlist (netlist : Netlist) : Type 0 where
  pub design : FitsDesign netlist.design
  pub order : IsOrder (driver_in netlist.design) (length netlist.design.nets) netlist.order
