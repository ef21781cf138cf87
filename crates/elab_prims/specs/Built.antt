-- The tables of a text's primitives, or the first refusal (IEEE 1364-2005, clause 8).
use Rattle.std.specs.Prelude.{◌≡◌, ◌≢◌, ◌⊎◌, ℕ, ◌-◌, true, false, List, [], ◌∷◌, length, slice_get, Some, Result, Ok}
use Rattle.std.specs.Prelude.{Err}
use Rattle.design_cell.specs.declared.value.Value.{Value}
use Rattle.design_cell.specs.declared.value.Value.TheVariants.{X, Z}
use Rattle.design_cell.specs.declared.refusal.UdpErr.{UdpErr}
use Rattle.design_cell.specs.declared.refusal.UdpErr.TheVariants as udp
use Rattle.design_cell.specs.Value.{read}
use Rattle.design_cell.specs.Table.{Table, table_of}
use Rattle.design_cell.specs.Refusal.{IsLegal, IsRefusal}
use Rattle.netlist_grammar.specs.declared.tree.PrimKind.{PrimKind}
use Rattle.netlist_grammar.specs.declared.tree.PrimKind.TheVariants.{Initial}
use Rattle.netlist_grammar.specs.declared.tree.PrimDeclare.{PrimDeclare}
use Rattle.netlist_grammar.specs.declared.tree.Primitive.{Primitive}
use Rattle.netlist_grammar.specs.Trees.{is_sequential}
use Rattle.elab_nets.specs.declared.fault.ElabErr.{ElabErr}
use Rattle.elab_nets.specs.declared.fault.ElabErr.TheVariants.{PortMismatch, Udp, Memory}
use Rattle.elab_nets.specs.Outcome.{Outcome, Gives}
use Rattle.elab_prims.specs.Ports.{matches_ports}

abbrev pub start_or : PrimKind → Value → Value
start_or (Initial value) rest = read value
start_or _ rest = rest

-- The state starts from the value of `initial`, else from x. A text gives no z, which would count as x.
abbrev pub start_in : List PrimDeclare → Value
start_in [] = X
start_in (d ∷ ds) = start_or d.what (start_in ds)

-- All ports but the first are inputs.
abbrev pub inputs_of : Primitive → ℕ
inputs_of p = length p.ports - 1

abbrev pub table_in : Primitive → Table
table_in p = table_of (is_sequential p.declarations) (inputs_of p) p.rows (start_in p.declarations)

abbrev pub HasLegalRows : Primitive → Type 0
HasLegalRows p = IsLegal (is_sequential p.declarations) (inputs_of p) p.rows

abbrev pub IsFault : Primitive → UdpErr → Type 0
IsFault p fault = IsRefusal (is_sequential p.declarations) (inputs_of p) p.rows fault

-- A primitive is refused where its ports don't match, else for the fault of its table.
abbrev pub IsRefused : Primitive → ElabErr → Type 0
IsRefused p (PortMismatch at) = (at ≡ p.name.at) × (matches_ports p ≡ false)
IsRefused p (Udp at fault) =
    (at ≡ p.name.at) × (matches_ports p ≡ true) × (fault ≢ udp.Memory) × IsFault p fault
IsRefused p _ = ⊥

-- It is built where its ports match and its table is legal, and is refused else.
abbrev pub IsBuilt : Primitive → Outcome Table → Type 0
IsBuilt p (Ok table) = (table ≡ table_in p) × (matches_ports p ≡ true) × HasLegalRows p
IsBuilt p (Err e) = IsRefused p e

-- The primitives in text order: the tables of all, or the first refusal.
abbrev pub AreBuilt : List Primitive → Outcome (List Table) → Type 0
AreBuilt [] (Ok []) = Unit {0}
AreBuilt [] (Ok (table ∷ tables)) = ⊥
AreBuilt [] (Err e) = ⊥
AreBuilt (p ∷ ps) (Ok []) = ⊥
AreBuilt (p ∷ ps) (Ok (table ∷ tables)) = IsBuilt p (Ok table) × AreBuilt ps (Ok tables)
AreBuilt (p ∷ ps) (Err e) = IsBuilt p (Err e) ⊎ (IsBuilt p (Ok (table_in p)) × AreBuilt ps (Err e))

-- the refusal of a table as that of a text
abbrev pub refusal_of : ℕ → UdpErr → ElabErr
refusal_of at udp.Memory = Memory
refusal_of at fault = Udp at fault

-- What the primitives give is the answer, unless memory runs out.
pub record IsAnswer {B : Type 0} (ps : List Primitive) (result : Result B ElabErr)
    (seen : B → List Table) : Type 0 where
  pub told : (outcome : Outcome (List Table)) → AreBuilt ps outcome → Gives outcome result seen

-- Each primitive has its table, whose start isn't z.
pub record AreTables (ps : List Primitive) (tables : List Table) : Type 0 where
  pub long : length tables ≡ length ps
  pub each : (k : ℕ) (p : Primitive) (table : Table) → slice_get ps k ≡ Some p → slice_get tables k ≡ Some table
      → IsBuilt p (Ok table)
  pub start : (k : ℕ) (table : Table) → slice_get tables k ≡ Some table → table.start ≡ Z → ⊥
