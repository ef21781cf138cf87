-- What a tree comes to is one outcome, and it is the answer.
use Rattle.std.proofs.Common.{◌≡◌, ◌≢◌, ℕ, zero, suc, ◌<◌, ◌≤◌, ◌^◌, Option, Some, None, List, [], ◌∷◌, length, refl, sym, ap, subst, arith, Result, Ok, Err, IfOk, IfErr, IsErrAnd}
use Rattle.design_cell.specs.Table.{Table}
use Rattle.design_cell.specs.Refusal.{input_limit}
use Rattle.design_circuit.specs.Job.{primitive_of}
use Rattle.design_circuit.specs.Design.{FitsDesign}
use Rattle.design_circuit.specs.declared.design.Design.{Design}
use Rattle.netlist_grammar.specs.Whole.{IsWhole}
use Rattle.netlist_grammar.specs.declared.tree.Primitive.{Primitive}
use Rattle.netlist_grammar.specs.declared.tree.Source.{Source}
use Rattle.elab_nets.specs.declared.fault.ElabErr.{ElabErr}
use Rattle.elab_nets.specs.declared.fault.ElabErr.TheVariants.{TwoModules, Memory}
use Rattle.elab_nets.specs.Outcome.{Outcome}
use Rattle.elab_prims.specs.Definitions.{repeated, all_named, named_once}
use Rattle.elab_prims.specs.Built.{AreBuilt}
use Rattle.elab_tree.proofs.Fitting.{fits_of}
use Rattle.elab_tree.proofs.Outcomes.{one_of}
use Rattle.elab_tree.specs.Library.{library_of}
use Rattle.elab_tree.specs.Elaborate.{design_of}
use Rattle.elab_tree.specs.Text.{Elaborates, twice, refused, built, IsAnswer}
use Rattle.elab_design.specs.Held.{AreTables}

-- ---- names

twice_by : (source : Source) (top : List ℕ) (o : Option (List ℕ)) (e : ElabErr) → repeated source ≡ o → named_once o source ≡ Err e → Elaborates source top (Err e)
twice_by source top None e is named = absurd cc
twice_by source top (Some name) e is named =
    let same : TwoModules name ≡ e = cc in
    subst (λ (f : ElabErr). Elaborates source top (Err f)) same (twice is)

pub twice_of : (source : Source) (top : List ℕ) (e : ElabErr) → all_named source ≡ Err e → Elaborates source top (Err e)
twice_of source top e named = twice_by source top (repeated source) e refl named

once_by : (source d : Source) (o : Option (List ℕ)) → named_once o source ≡ Ok d → o ≡ None
once_by source d None named = refl
once_by source d (Some name) named = absurd cc

pub once_of : (source d : Source) → all_named source ≡ Ok d → repeated source ≡ None
once_of source d named = once_by source d (repeated source) named

named_by : (source d : Source) (o : Option (List ℕ)) → named_once o source ≡ Ok d → d ≡ source
named_by source d None named = cc
named_by source d (Some name) named = absurd cc

-- The text whose definitions are looked at is this one.
pub named_is : (source d : Source) → all_named source ≡ Ok d → d ≡ source
named_is source d named = named_by source d (repeated source) named

-- ---- tables

pub are_tables : (source : Source) (tables : List Table) → AreBuilt source.primitives (Ok tables) → length source.primitives < 2 ^ 32 → AreTables source tables
are_tables source tables all few = record { each = as_many source.primitives tables all; few = few_by (as_many source.primitives tables all); inputs = limits source.primitives tables all }
  where
    as_many : (ps : List Primitive) (ts : List Table) → AreBuilt ps (Ok ts) → length ts ≡ length ps
    as_many [] [] all = refl
    as_many [] (t ∷ ts) all = absurd all
    as_many (p ∷ ps) [] all = absurd all
    as_many (p ∷ ps) (t ∷ ts) all = ap (λ (n : ℕ). suc n) (as_many ps ts all.1)

    few_by : length tables ≡ length source.primitives → length tables < 2 ^ 32
    few_by same = subst (λ (n : ℕ). n < 2 ^ 32) (sym same) few

    limits : (ps : List Primitive) (ts : List Table) → AreBuilt ps (Ok ts) → (k : ℕ) → k < length ts → (primitive_of ts k).inputs ≤ input_limit (primitive_of ts k).sequential
    limits [] [] all k small = absurd (omega (arith, small))
    limits [] (t ∷ ts) all k small = absurd all
    limits (p ∷ ps) [] all k small = absurd all
    limits (p ∷ ps) (t ∷ ts) all zero small = rw all.0.0 all.0.2.few
    limits (p ∷ ps) (t ∷ ts) all (suc k) small = limits ps ts all.1 k (omega (arith, small))

-- ---- the answer

pub answer_by : (source : Source) (top : List ℕ) (result : Outcome Design) → IfOk result (λ design. Elaborates source top (Ok design)) → IfErr result (λ e. e ≢ Memory → Elaborates source top (Err e))
    → IsAnswer source top result
answer_by source top (Ok design) ok err = record { told = λ outcome e. one_of source top outcome (Ok design) e ok }
answer_by source top (Err f) ok err = record { told = λ outcome e. λ other. one_of source top outcome (Err f) e (err other) }

-- ---- what is handed on

pub handed_on : {B : Type 0} (source : Source) (top : List ℕ) (result : Result B ElabErr) (e : ElabErr) → IsErrAnd result (λ f. f ≡ e) → (e ≢ Memory → Elaborates source top (Err e))
    → IfErr result (λ f. f ≢ Memory → Elaborates source top (Err f))
handed_on source top (Ok x) e is told = absurd is
handed_on source top (Err f) e is told = subst (λ (g : ElabErr). g ≢ Memory → Elaborates source top (Err g)) (sym is) told

pub comes_to : (source : Source) (top : List ℕ) (tables : List Table) (outcome : Outcome Design) → repeated source ≡ None → AreBuilt source.primitives (Ok tables)
    → design_of (library_of source tables) top ≡ outcome → Elaborates source top outcome
comes_to source top tables outcome once all is = subst (λ (o : Outcome Design). Elaborates source top o) is (built tables once all)

-- ---- the design fits

fits_by : (source : Source) (top : List ℕ) (outcome : Outcome Design) (design : Design) → IsWhole source → Elaborates source top outcome → outcome ≡ Ok design → FitsDesign design
fits_by source top outcome design whole (twice _) is = absurd cc
fits_by source top outcome design whole (refused _ _) is = absurd cc
fits_by source top outcome design whole (built tables _ all) is = fits_of source tables top design whole all is

pub fits : (source : Source) (top : List ℕ) (design : Design) → IsWhole source → Elaborates source top (Ok design) → FitsDesign design
fits source top design whole comes = fits_by source top (Ok design) design whole comes refl
