-- The tables that primitives are built to.
use Rattle.std.proofs.Common.{◌≡◌, ℕ, suc, ◌≤◌, Bool, true, false, List, [], ◌∷◌, length, refl, sym, ap, subst, arith, Ok}
use Rattle.std.specs.List.{AllByRecursion}
use Rattle.design_cell.specs.declared.value.Value.{Value}
use Rattle.design_cell.specs.declared.value.Value.TheVariants.{Zero, One, X, Z}
use Rattle.design_cell.specs.Value.{read}
use Rattle.design_cell.specs.Table.{Table}
use Rattle.design_cell.specs.Refusal.{input_limit}
use Rattle.netlist_grammar.specs.Trees.{is_sequential}
use Rattle.netlist_grammar.specs.declared.tree.PrimKind.{PrimKind}
use Rattle.netlist_grammar.specs.declared.tree.PrimKind.TheVariants.{Output, Input, Reg, Initial}
use Rattle.netlist_grammar.specs.declared.tree.PrimDeclare.{PrimDeclare}
use Rattle.netlist_grammar.specs.declared.tree.Primitive.{Primitive}
use Rattle.elab_prims.specs.Built.{start_or, start_in, inputs_of, IsBuilt, AreBuilt}

-- A table has at most 10 inputs, and doesn't start at z.
pub record TableFits (t : Table) : Type 0 where
  pub few : t.inputs ≤ 10
  pub start : t.start ≡ Z → ⊥

-- There are so many tables, and each fits.
pub record TablesFit (count : ℕ) (tables : List Table) : Type 0 where
  pub long : length tables ≡ count
  pub each : AllByRecursion TableFits tables

limit_few : (b : Bool) (n : ℕ) → n ≤ input_limit b → n ≤ 10
limit_few true n few = omega arith
limit_few false n few = few

read_known : (v : Value) → read v ≡ Z → ⊥
read_known Zero is = absurd cc
read_known One is = absurd cc
read_known X is = absurd cc
read_known Z is = absurd cc

start_known : (kind : PrimKind) (rest : Value) → (rest ≡ Z → ⊥) → start_or kind rest ≡ Z → ⊥
start_known Output rest known is = known is
start_known Input rest known is = known is
start_known Reg rest known is = known is
start_known (Initial v) rest known is = read_known v is

-- A start isn't z.
pub starts_known : (ds : List PrimDeclare) → start_in ds ≡ Z → ⊥
starts_known [] is = read_known X is
starts_known (d ∷ ds) is = start_known d.what (start_in ds) (starts_known ds) is

table_fits : (p : Primitive) (t : Table) → IsBuilt p (Ok t) → TableFits t
table_fits p t is = subst TableFits (sym is.0) (record { few = limit_few (is_sequential p.declarations) (inputs_of p) is.2.few; start = starts_known p.declarations })

more_fit : (p : Primitive) (ps : List Primitive) (t : Table) (ts : List Table) → IsBuilt p (Ok t) → TablesFit (length ps) ts → TablesFit (length (p ∷ ps)) (t ∷ ts)
more_fit p ps t ts is rest = record { long = ap suc rest.long; each = (table_fits p t is, rest.each) }

pub tables_fit : (ps : List Primitive) (tables : List Table) → AreBuilt ps (Ok tables) → TablesFit (length ps) tables
tables_fit [] [] built = record { long = refl; each = tt }
tables_fit [] (t ∷ ts) built = absurd built
tables_fit (p ∷ ps) [] built = absurd built
tables_fit (p ∷ ps) (t ∷ ts) built = more_fit p ps t ts built.0 (tables_fit ps ts built.1)
